-- Commands of the same bytes are equal, as far as their clips are. Assumes nothing.
use mathlib.Core.Path.{◌≡◌, refl, sym, ap, ◌∙◌}
use mathlib.Core.Bool.{Bool, true, false, true≢false}
use mathlib.Core.List.{List, []}
use Prim.Native.Nat.{ℕ, zero, suc, ◌+◌, ◌*◌, ◌≤◌, ◌<◌}
use native.Mathlib.Omega.{arith}
use lib.Dec.{eqb}
use lib.ListN.{length, get_or}
use lib.Ieee.{Float}
use borrow.Author.Tests.{eqb-true}
use Rattle.std.proofs.lemmas.Bool.{and_from}
use Rattle.base_lists.proofs.Picks.{pick_cases}
use Rattle.base_little_endian.specs.Words.{u16_at}
use Rattle.base_little_endian.specs.Same.{SameBytes}
use Rattle.kurbo_geometry.specs.declared.Rect.{Rect}
use Rattle.display_list_commands.specs.declared.DrawCommand.{DrawCommand}
use Rattle.display_list_commands.specs.declared.DrawCommand.TheVariants.{FillPath, StrokePath, GlyphRun, Scene}
use Rattle.display_list_commands.specs.Bounds.{Command, glyph_count}
use Rattle.display_list_operand_equality.specs.Operands.{equal_glyphs, same_clips}
use Rattle.display_list_operand_equality.proofs.Selves.{equal_glyph_self}
use Rattle.display_list_equality.specs.Drawings.{same_drawing, same_fill, fills_alike, equal}
use Rattle.display_list_equality.proofs.Selves.{SizeFinite, drawing_self}
use Rattle.display_list_clips.proofs.Chaining.{chain_none}
use Rattle.strip_format.specs.Format.{length_of, command_at, glyph_at, glyphs_from}
use Rattle.strip_format.proofs.Commands.{command_cases}
use Rattle.strip_format.proofs.Alike.{glyphs_twice}
use Rattle.strip_format.proofs.Lengths.{length_run}
use Rattle.strip_format.proofs.Numbers.{single_finite, rect_numbers}
use Rattle.strip.specs.Reading.{command_of}
use Rattle.strip_laws.proofs.Alike.{command_twice}
use Rattle.strip_laws.proofs.Numbers.{draw_numbers}
use Rattle.display_list.specs.Lists.{clip_number_at}
use Rattle.display_list_stored.specs.Stored.{command_in}
use Rattle.runtime.specs.Placed.{whole_length, AlikeClips}
use Rattle.runtime.proofs.Cases.{drawn, equal_parts}

-- ---- a command with its glyphs is as long as both
module _ (s : List ℕ) (at : ℕ) where
  pub whole_run : get_or s at 0 ≡ 5 → 103 + 45 * u16_at s (at + 101) ≡ whole_length s at
  unfolding whole_length
  whole_run e = rw e

  holds_operands : length_of (get_or s at 0) ≤ whole_length s at
  unfolding whole_length
  holds_operands = pick_cases (λ (n : ℕ). length_of (get_or s at 0) ≤ n) (eqb (get_or s at 0) 5) _ _
      (λ e. rw (eqb-true (get_or s at 0) 5 e) (omega (arith, length_run)))
      (λ e. omega arith)

  abbrev Shorter : DrawCommand → Type 0
  Shorter d = 0 < glyph_count d → 103 + 45 * glyph_count d ≤ whole_length s at

  holds_glyphs : Shorter (command_at s at)
  holds_glyphs =
      let none : 0 < 0 → 103 + 45 * 0 ≤ whole_length s at = λ h. absurd (omega arith) in
      command_cases s at Shorter none none (λ e h. omega (arith, whole_run e)) none none

-- ---- the same bytes
pub same_command : (s : List ℕ) (p q n : ℕ) → n ≡ whole_length s p → p + n ≤ length s → q + n ≤ length s → SameBytes s p q n → command_of s p [] ≡ command_of s q []
same_command s p q n e h k w =
    let d : command_at s p ≡ command_at s q = command_twice s p q n w (omega (arith, holds_operands s p)) h k in
    let g : glyphs_from s (p + 103) (glyph_count (command_at s p)) ≡ glyphs_from s (q + 103) (glyph_count (command_at s p)) = glyphs (glyph_count (command_at s p)) (holds_glyphs s p) in
    λ i. record { draw = d i; glyphs = (g ∙ ap (λ (c : DrawCommand). glyphs_from s (q + 103) (glyph_count c)) d) i; clips = [] }
  where
    glyphs : (m : ℕ) → (0 < m → 103 + 45 * m ≤ whole_length s p) → glyphs_from s (p + 103) m ≡ glyphs_from s (q + 103) m
    glyphs zero f = unfold glyphs_from in refl
    glyphs (suc m) f = let l = f (omega arith) in glyphs_twice s p q n w 103 (suc m) (omega arith)

-- ---- a command that is decoded is equal to itself
module _ (s : List ℕ) where
  size_finite : (at : ℕ) → SizeFinite (command_at s at)
  size_finite at = command_cases s at SizeFinite tt tt (λ e. single_finite s (at + 9)) tt tt

  glyphs_self : (n at : ℕ) → equal_glyphs (glyphs_from s at n) (glyphs_from s at n) ≡ true
  unfolding glyphs_from equal_glyphs
  glyphs_self zero at = refl
  glyphs_self (suc n) at = and_from _ _ (equal_glyph_self (glyph_at s at) (single_finite s (at + 5)) (single_finite s (at + 9)) (rect_numbers s (at + 13))) (glyphs_self n (at + 45))

  pub same_drawn : (p q : ℕ) → command_of s p [] ≡ command_of s q [] → same_drawing (command_at s p) (command_at s q) ≡ true
  same_drawn p q e = ap (λ (x : Command). same_drawing (command_at s p) x.draw) (sym e) ∙ drawing_self (command_at s p) (draw_numbers s p) (size_finite p)

  pub same_equal : (p q : ℕ) (l m : List Rect) → command_of s p [] ≡ command_of s q [] → same_clips l m ≡ true → equal (command_of s p l) (command_of s q m) ≡ true
  unfolding equal
  same_equal p q l m e f =
      let c = command_of s p [] in
      let g : equal_glyphs c.glyphs (command_of s q []).glyphs ≡ true = ap (λ (x : Command). equal_glyphs c.glyphs x.glyphs) (sym e) ∙ glyphs_self (glyph_count (command_at s p)) (p + 103) in
      and_from _ _ (and_from _ _ (same_drawn p q e) g) f

-- ---- fills alike are drawn alike
fill_counts : (c d : DrawCommand) → fills_alike c d ≡ true → (same_drawing c d ≡ true) × (glyph_count c ≡ 0) × (glyph_count d ≡ 0)
unfolding same_drawing fills_alike same_fill
fill_counts (FillPath path b t brush) (FillPath path' b' t' brush') e = (e, refl, refl)
fill_counts (FillPath path b t brush) (StrokePath path' b' t' stroke' brush') e = absurd (true≢false (sym e))
fill_counts (FillPath path b t brush) (GlyphRun font' size' t' brush' b' n') e = absurd (true≢false (sym e))
fill_counts (FillPath path b t brush) (Scene content' generation' target' t' b') e = absurd (true≢false (sym e))
fill_counts (StrokePath path b t stroke brush) d e = absurd (true≢false (sym e))
fill_counts (GlyphRun font size t brush b n) d e = absurd (true≢false (sym e))
fill_counts (Scene content generation target t b) d e = absurd (true≢false (sym e))

module _ (s : List ℕ) (p q : ℕ) (l m : List Rect) where
  fills_drawn : fills_alike (command_at s p) (command_at s q) ≡ true → drawn (command_of s p l) (command_of s q m) ≡ true
  unfolding glyphs_from equal_glyphs
  fills_drawn e =
      let f = fill_counts (command_at s p) (command_at s q) e in
      and_from _ _ f.0 (λ i. equal_glyphs (glyphs_from s (p + 103) (f.1 i)) (glyphs_from s (q + 103) (f.2 i)))

  pub undrawn : drawn (command_of s p l) (command_of s q m) ≡ false → fills_alike (command_at s p) (command_at s q) ≡ false
  undrawn f = go (fills_alike (command_at s p) (command_at s q)) refl
    where
      go : (t : Bool) → fills_alike (command_at s p) (command_at s q) ≡ t → t ≡ false
      go true e = absurd (true≢false (sym (fills_drawn e) ∙ f))
      go false e = refl

-- ---- two commands of a list
module _ (s : List ℕ) (bs : List Float) (ns is : List ℕ) where
  pub clips_of : (p q : ℕ) → equal (command_in s bs ns is p) (command_in s bs ns is q) ≡ true → AlikeClips bs ns (clip_number_at is p) (clip_number_at is q)
  clips_of p q e = (equal_parts (command_in s bs ns is p) (command_in s bs ns is q) e).1

-- before the first command no clip is known
pub no_clips_alike : (bs : List Float) (ns : List ℕ) → AlikeClips bs ns 0 0
unfolding same_clips
no_clips_alike bs ns = λ i. same_clips (chain_none bs ns i) (chain_none bs ns i)
