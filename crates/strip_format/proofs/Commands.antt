-- What `command_at` is, by the byte at the offset and by what is left behind it. Assumes nothing.
use mathlib.Core.Path.{◌≡◌, sym, ap, ◌∙◌}
use mathlib.Core.List.{List}
use Prim.Native.Nat.{ℕ, ◌+◌, ◌≤◌, ◌<◌}
use native.Mathlib.Omega.{arith}
use lib.Dec.{leb, eqb}
use lib.ListN.{length, get_or}
use borrow.Author.Tests.{le-leb, lt-leb, ne_eqb, eqb-true}
use Rattle.base_lists.specs.Pick.{pick}
use Rattle.base_lists.proofs.Picks.{pick_true, pick_false, pick_same, pick_cases}
use Rattle.display_list_commands.specs.declared.DrawCommand.{DrawCommand}
use Rattle.strip_format.specs.Format.{length_of, fill_at, stroke_path_at, run_at, scene_at, blank, command_at}
use Rattle.strip_format.proofs.Lengths.{length_pos}

module _ (s : List ℕ) (at : ℕ) where
  -- the command by its byte, once it stands whole
  by_byte : ℕ → DrawCommand
  by_byte b = pick (eqb b 3) (fill_at s at) (pick (eqb b 4) (stroke_path_at s at) (pick (eqb b 5) (run_at s at) (pick (eqb b 7) (scene_at s at) blank)))

  whole : (b : ℕ) → get_or s at 0 ≡ b → at + length_of b ≤ length s → command_at s at ≡ by_byte b
  unfolding command_at by_byte
  whole b e h =
      ap (λ (n : ℕ). pick (leb (at + length_of n) (length s)) (by_byte n) blank) e
      ∙ pick_true (leb (at + length_of b) (length s)) (by_byte b) blank (le-leb (at + length_of b) (length s) h)

  pub command_fill : get_or s at 0 ≡ 3 → at + length_of 3 ≤ length s → fill_at s at ≡ command_at s at
  unfolding by_byte
  command_fill e h = sym (whole 3 e h)

  pub command_stroke : get_or s at 0 ≡ 4 → at + length_of 4 ≤ length s → stroke_path_at s at ≡ command_at s at
  unfolding by_byte
  command_stroke e h = sym (whole 4 e h)

  pub command_run : get_or s at 0 ≡ 5 → at + length_of 5 ≤ length s → run_at s at ≡ command_at s at
  unfolding by_byte
  command_run e h = sym (whole 5 e h)

  pub command_scene : get_or s at 0 ≡ 7 → at + length_of 7 ≤ length s → scene_at s at ≡ command_at s at
  unfolding by_byte
  command_scene e h = sym (whole 7 e h)

  -- nothing stands whole there
  pub command_short : length s < at + length_of (get_or s at 0) → blank ≡ command_at s at
  unfolding command_at by_byte
  command_short h = sym (pick_false (leb (at + length_of (get_or s at 0)) (length s)) (by_byte (get_or s at 0)) blank (lt-leb (at + length_of (get_or s at 0)) (length s) h))

  pub command_past : length s ≤ at → blank ≡ command_at s at
  command_past h = command_short (omega (arith, length_pos (get_or s at 0)))

  -- another command stands there
  pub command_other : (get_or s at 0 ≡ 3 → ⊥) → (get_or s at 0 ≡ 4 → ⊥) → (get_or s at 0 ≡ 5 → ⊥) → (get_or s at 0 ≡ 7 → ⊥) → blank ≡ command_at s at
  unfolding command_at by_byte
  command_other n3 n4 n5 n7 =
      let b = get_or s at 0 in
      let f : by_byte (get_or s at 0) ≡ blank =
      pick_false (eqb b 3) (fill_at s at) (pick (eqb b 4) (stroke_path_at s at) (pick (eqb b 5) (run_at s at) (pick (eqb b 7) (scene_at s at) blank))) (ne_eqb b 3 n3)
      ∙ pick_false (eqb b 4) (stroke_path_at s at) (pick (eqb b 5) (run_at s at) (pick (eqb b 7) (scene_at s at) blank)) (ne_eqb b 4 n4)
      ∙ pick_false (eqb b 5) (run_at s at) (pick (eqb b 7) (scene_at s at) blank) (ne_eqb b 5 n5)
      ∙ pick_false (eqb b 7) (scene_at s at) blank (ne_eqb b 7 n7) in
      sym (ap (λ (c : DrawCommand). pick (leb (at + length_of b) (length s)) c blank) f ∙ pick_same (leb (at + length_of b) (length s)) blank)

  -- what holds of each kind of command, read there, and of the blank one holds of what stands there
  pub command_cases : (P : DrawCommand → Type 0) → P (fill_at s at) → P (stroke_path_at s at) → (get_or s at 0 ≡ 5 → P (run_at s at)) → P (scene_at s at) → P blank → P (command_at s at)
  unfolding command_at
  command_cases P fill stroke run scene none =
      let b = get_or s at 0 in
      pick_cases P (leb (at + length_of b) (length s)) _ _
      (λ e. pick_cases P (eqb b 3) _ _ (λ e. fill)
      λ e. pick_cases P (eqb b 4) _ _ (λ e. stroke)
      λ e. pick_cases P (eqb b 5) _ _ (λ e. run (eqb-true b 5 e))
      λ e. pick_cases P (eqb b 7) _ _ (λ e. scene) (λ e. none))
      (λ e. none)
