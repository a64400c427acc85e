-- A run's glyphs stand one behind the other, right behind their RUN; and what is listed stands whole within the bytes. Assumes nothing.
use mathlib.Core.Path.{◌≡◌, refl, sym, ap, ◌∙◌, subst}
use mathlib.Core.List.{List, [], ◌∷◌, ◌++◌}
use Prim.Native.Nat.{ℕ, zero, suc, ◌+◌, ◌*◌, ◌≤◌, ◌<◌}
use native.Mathlib.Omega.{arith}
use lib.Dec.{eqb}
use lib.ListN.{length, get_or}
use borrow.Author.Tests.{eq-eqb, ne_eqb}
use Rattle.base_refusals.specs.declared.Refusal.{Refusal}
use Rattle.base_lists.specs.Members.{All}
use Rattle.base_lists.proofs.Members.{all_append}
use Rattle.base_lists.proofs.Picks.{pick_true, pick_false}
use Rattle.kurbo_geometry.specs.declared.Rect.{Rect}
use Rattle.kurbo_geometry.specs.Boxes.{union}
use Rattle.kurbo_affine.specs.Affines.{try_transform}
use Rattle.display_list_commands.specs.declared.Glyph.{Glyph}
use Rattle.display_list_commands.specs.declared.DrawCommand.{DrawCommand}
use Rattle.display_list_commands.specs.Bounds.{transform_of, glyph_count, united}
use Rattle.display_list_commands.proofs.Runs.{united_first, united_last}
use Rattle.strip_format.specs.Format.{length_of, rect_at, command_at, glyph_at, glyphs_from}
use Rattle.strip_format.proofs.Lengths.{length_run}
use Rattle.strip.specs.declared.Cursor.{Cursor}
use Rattle.strip.specs.declared.Step.{Step}
use Rattle.strip.specs.declared.Step.TheVariants.{Next, Clip, Pop, Draw, End}
use Rattle.strip.specs.Steps.{unite, step_at}
use Rattle.strip_laws.specs.Limits.{WholeCommand}
use Rattle.strip_laws.proofs.Steps.{run_count, by_cases, Kept}
use Rattle.std.specs.Prelude.{Some, Result, Ok, Err}

-- a glyph whose box has finite corners under a command's affine
abbrev pub Shown : DrawCommand → Glyph → Type 0
Shown d g = (b : Rect) × (try_transform (transform_of d) g.bounds ≡ Some b)

-- the cursor stands behind some of a run's glyphs, and the rest are due
pub record GlyphsRead (s : List ℕ) (st : Cursor) : Type 0 where
  pub read : ℕ
  pub byte : get_or s st.run 0 ≡ 5
  pub fits : st.run + 103 ≤ length s
  pub stands : st.at ≡ st.run + 103 + 45 * read
  pub left : read + st.due ≡ glyph_count (command_at s st.run)
  pub shown : All (Shown (command_at s st.run)) (glyphs_from s (st.run + 103) read)
  pub so_far : 0 < read → st.united ≡ united (rect_at s (st.run + 69)) (glyphs_from s (st.run + 103) read)

-- ---- the union of glyph boxes
glyph_last : (s : List ℕ) (k at : ℕ) → glyphs_from s at (suc k) ≡ glyphs_from s at k ++ (glyph_at s (at + 45 * k) ∷ [])
unfolding glyphs_from
glyph_last s zero at = let e : at + 45 * 0 ≡ at = omega arith in rw e
glyph_last s (suc k) at = let e : at + 45 * suc k ≡ at + 45 + 45 * k = omega arith in rw e (ap (λ (l : List Glyph). glyph_at s at ∷ l) (glyph_last s k (at + 45)))

glyph_first : (s : List ℕ) (at : ℕ) (own : Rect) → united own (glyphs_from s at 1) ≡ rect_at s (at + 13)
unfolding glyphs_from
glyph_first s at own = united_first own (glyph_at s at)

pub glyphs_length : (s : List ℕ) (k at : ℕ) → length (glyphs_from s at k) ≡ k
unfolding glyphs_from
glyphs_length s zero at = refl
glyphs_length s (suc k) at = ap suc (glyphs_length s k (at + 45))

one_shown : (d : DrawCommand) (g : Glyph) (b : Rect) → try_transform (transform_of d) g.bounds ≡ Some b → All (Shown d) (g ∷ [])
unfolding All
one_shown d g b e = ((b, e), tt)

pub none_shown : (s : List ℕ) (d : DrawCommand) (at : ℕ) → All (Shown d) (glyphs_from s at 0)
unfolding glyphs_from All
none_shown s d at = tt

module _ (s : List ℕ) (st : Cursor) (b : GlyphsRead s st) where
  pub unite_is : unite st (rect_at s (st.at + 13)) ≡ united (rect_at s (st.run + 69)) (glyphs_from s (st.run + 103) (suc b.read))
  unite_is = go b.read b.stands b.so_far
    where
      go : (k : ℕ) → st.at ≡ st.run + 103 + 45 * k → (0 < k → st.united ≡ united (rect_at s (st.run + 69)) (glyphs_from s (st.run + 103) k)) → unite st (rect_at s (st.at + 13)) ≡ united (rect_at s (st.run + 69)) (glyphs_from s (st.run + 103) (suc k))
      go zero e f =
          let z : st.at ≡ st.run + 103 = omega arith in
          pick_true (eqb st.at (st.run + 103)) _ _ (eq-eqb _ _ z) ∙ ap (λ (x : ℕ). rect_at s (x + 13)) z ∙ sym (glyph_first s (st.run + 103) (rect_at s (st.run + 69)))
      go (suc k) e f =
          let z : st.at ≡ st.run + 103 → ⊥ = λ q. omega (arith, e, q) in
          pick_false (eqb st.at (st.run + 103)) _ _ (ne_eqb _ _ z)
          ∙ (λ i. union (f (omega arith) i) (rect_at s (e i + 13)))
          ∙ sym (united_last (rect_at s (st.run + 69)) (glyphs_from s (st.run + 103) (suc k)) (glyph_at s (st.run + 103 + 45 * suc k)) (omega (arith, glyphs_length s (suc k) (st.run + 103))))
          ∙ sym (ap (united (rect_at s (st.run + 69))) (glyph_last s (suc k) (st.run + 103)))

  -- the glyphs before, and the one at the cursor
  pub next_shown : (own : Rect) → try_transform (transform_of (command_at s st.run)) (rect_at s (st.at + 13)) ≡ Some own → All (Shown (command_at s st.run)) (glyphs_from s (st.run + 103) (suc b.read))
  next_shown own o =
      let e = glyph_last s b.read (st.run + 103) in
      let at-end : try_transform (transform_of (command_at s st.run)) (rect_at s (st.run + 103 + 45 * b.read + 13)) ≡ Some own = ap (λ (x : ℕ). try_transform (transform_of (command_at s st.run)) (rect_at s (x + 13))) (sym b.stands) ∙ o in
      subst (All (Shown (command_at s st.run))) (sym e) (all_append (Shown (command_at s st.run)) (glyphs_from s (st.run + 103) b.read) (glyph_at s (st.run + 103 + 45 * b.read) ∷ []) b.shown (one_shown (command_at s st.run) (glyph_at s (st.run + 103 + 45 * b.read)) own at-end))

abbrev pub InRun : List ℕ → Cursor → Type 0
InRun s st = 0 < st.due → GlyphsRead s st

pub step_in_run : (s : List ℕ) (st : Cursor) → InRun s st → Kept (InRun s) (λ t. Unit {0}) (step_at s st)
step_in_run s st h = by_cases s st (Kept (InRun s) (λ t. Unit {0})) record {
  refused = λ n p. tt;
  ended = λ due. tt;
  clip = λ d c due. (λ k. absurd (omega (arith, due)));
  pop = λ d due. (λ k. absurd (omega (arith, due)));
  draw = λ len c due alone box f. (λ k. absurd (omega arith));
  run = λ c due is fits some. (λ k. record { read = 0; byte = is; fits = fits; stands = omega arith; left = omega (arith, run_count s st.at is fits); shown = none_shown s (command_at s st.at) (st.at + 103); so_far = λ k. absurd (omega arith) });
  glyph = λ g due fits d own o. (λ k. let b = h due in record { read = suc b.read; byte = b.byte; fits = b.fits; stands = omega (arith, b.stands); left = omega (arith, b.left); shown = next_shown s st b own o; so_far = λ k. unite_is s st b });
  last = λ g fits d own o box f. (λ k. absurd (omega (arith, d)));
}

abbrev pub Draws : List ℕ → Result Step Refusal → Type 0
Draws s (Ok (Next t)) = Unit {0}
Draws s (Ok (Clip t box)) = Unit {0}
Draws s (Ok (Pop t)) = Unit {0}
Draws s (Ok (Draw t at box)) = WholeCommand s at
Draws s (Ok (End t)) = Unit {0}
Draws s (Err why) = Unit {0}

pub step_draws : (s : List ℕ) (st : Cursor) → InRun s st → Draws s (step_at s st)
step_draws s st h = by_cases s st (Draws s) record {
  refused = λ n p. tt;
  ended = λ due. tt;
  clip = λ d c due. tt;
  pop = λ d due. tt;
  draw = λ len c due alone box f. record { fits = alone.fits; glyphs = λ k. absurd (omega (arith, alone.none)) };
  run = λ c due is fits some. tt;
  glyph = λ g due fits d own o. tt;
  last = λ g fits d own o box f. let b = h (omega (arith, d)) in record { fits = subst (λ (y : ℕ). st.run + length_of y ≤ length s) (sym b.byte) (omega (arith, b.fits, length_run)); glyphs = λ k. omega (arith, b.stands, b.left) };
}
