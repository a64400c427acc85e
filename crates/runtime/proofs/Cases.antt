-- The cases of what changed between two commands, by the tests that tell them. Assumes nothing.
use mathlib.Core.Path.{◌≡◌, refl, sym, ap, subst, ◌∙◌}
use mathlib.Core.Bool.{Bool, true, false, ◌&&◌, true≢false}
use mathlib.Core.List.{List, [], ◌∷◌}
use Rattle.std.proofs.lemmas.Bool.{and_parts, and_from}
use Rattle.base_lists.proofs.Picks.{pick_true, pick_false}
use Rattle.kurbo_geometry.specs.declared.Rect.{Rect}
use Rattle.display_list_commands.specs.declared.Glyph.{Glyph}
use Rattle.display_list_commands.specs.declared.DrawCommand.{DrawCommand}
use Rattle.display_list_commands.specs.declared.DrawCommand.TheVariants.{FillPath, StrokePath, GlyphRun, Scene}
use Rattle.display_list_commands.specs.Bounds.{Command, glyph_bounds}
use Rattle.display_list_operand_equality.specs.Operands.{same_glyph, equal_glyph, equal_glyphs, same_clips}
use Rattle.display_list_equality.specs.Drawings.{same_drawing, equal, fills_alike, runs_alike, runs_alike_clipped}
use Rattle.display_list_changes.specs.declared.Change.{Change}
use Rattle.display_list_changes.specs.declared.Change.TheVariants.{Same, Fills, Runs, Other}
use Rattle.display_list_changes.specs.Changes.{changed_at, changed_glyphs, change, rects_of, changed_bounds}
use Rattle.runtime.specs.Placed.{Tells}

-- ---- operands
-- what is no fill, or differs in an operand, is no fill alike
pub fills_off : (c d : DrawCommand) → same_drawing c d ≡ false → fills_alike c d ≡ false
unfolding same_drawing fills_alike
fills_off (FillPath path b t brush) d e = e
fills_off (StrokePath path b t stroke brush) d e = refl
fills_off (GlyphRun font size t brush b n) d e = refl
fills_off (Scene content generation target t b) d e = refl

runs_no_fills : (c d : DrawCommand) → runs_alike c d ≡ true → fills_alike c d ≡ false
unfolding runs_alike fills_alike
runs_no_fills (FillPath path b t brush) d e = absurd (true≢false (sym e))
runs_no_fills (StrokePath path b t stroke brush) d e = refl
runs_no_fills (GlyphRun font size t brush b n) d e = refl
runs_no_fills (Scene content generation target t b) d e = refl

-- equal glyphs leave nothing to paint
none_changed : (f g : Glyph → Rect) (xs ys : List Glyph) → equal_glyphs xs ys ≡ true → changed_glyphs f g xs ys ≡ []
unfolding equal_glyphs equal_glyph changed_at changed_glyphs
none_changed f g [] [] e = refl
none_changed f g [] (y ∷ ys) e = absurd (true≢false (sym e))
none_changed f g (x ∷ xs) [] e = absurd (true≢false (sym e))
none_changed f g (x ∷ xs) (y ∷ ys) e =
    let h = and_parts (equal_glyph x y) (equal_glyphs xs ys) e in
    rw ((and_parts (same_glyph x y) _ h.0).0, none_changed f g xs ys h.1)

-- ---- two commands
abbrev Changed : Change → Type 0
Changed Same = ⊥
Changed Fills = Unit {0}
Changed Runs = Unit {0}
Changed Other = Unit {0}

module _ (c d : Command) where
  -- the three tests of equality
  abbrev pub drawn : Bool
  drawn = same_drawing c.draw d.draw && equal_glyphs c.glyphs d.glyphs

  pub equal_parts : equal c d ≡ true → (drawn ≡ true) × (same_clips c.clips d.clips ≡ true)
  unfolding equal
  equal_parts e = and_parts drawn (same_clips c.clips d.clips) e

  pub equal_off : drawn ≡ false → equal c d ≡ false
  unfolding equal
  equal_off e = rw e

  pub equal_from : drawn ≡ true → same_clips c.clips d.clips ≡ true → equal c d ≡ true
  unfolding equal
  equal_from e f = and_from drawn _ e f

  pub equal_unclipped : same_clips c.clips d.clips ≡ false → equal c d ≡ false
  equal_unclipped f = go (equal c d) refl
    where
      go : (t : Bool) → equal c d ≡ t → t ≡ false
      go true e = absurd (true≢false (sym (equal_parts e).1 ∙ f))
      go false e = refl

  pub runs_unclipped : same_clips c.clips d.clips ≡ false → runs_alike_clipped c d ≡ false
  unfolding runs_alike_clipped
  runs_unclipped f = go (runs_alike c.draw d.draw)
    where
      go : (t : Bool) → (t && same_clips c.clips d.clips) ≡ false
      go true = f
      go false = refl

  pub runs_off : runs_alike c.draw d.draw ≡ false → runs_alike_clipped c d ≡ false
  unfolding runs_alike_clipped
  runs_off e = rw e

  pub runs_from : runs_alike c.draw d.draw ≡ true → same_clips c.clips d.clips ≡ true → runs_alike_clipped c d ≡ true
  unfolding runs_alike_clipped
  runs_from e f = and_from (runs_alike c.draw d.draw) _ e f

  -- ---- what each case tells
  changed : (x : Change) → Changed x → change c d ≡ x → Tells x c d
  unfolding changed_bounds
  changed x h e = record { rects = ap (λ y. rects_of y c d) (sym e); equals = λ q. absurd (subst Changed q h) }

  pub tells_same : equal c d ≡ true → Tells Same c d
  unfolding change changed_bounds
  tells_same e = record { rects = ap (λ y. rects_of y c d) (sym (pick_true (equal c d) Same _ e)); equals = λ q. e }

  pub tells_fills : equal c d ≡ false → fills_alike c.draw d.draw ≡ true → Tells Fills c d
  unfolding change
  tells_fills e f = changed Fills tt (pick_false (equal c d) Same _ e ∙ pick_true (fills_alike c.draw d.draw) Fills _ f)

  pub tells_other : equal c d ≡ false → fills_alike c.draw d.draw ≡ false → runs_alike_clipped c d ≡ false → Tells Other c d
  unfolding change
  tells_other e f g = changed Other tt (pick_false (equal c d) Same _ e ∙ pick_false (fills_alike c.draw d.draw) Fills _ f ∙ pick_false (runs_alike_clipped c d) Runs Other g)

  -- whether or not the glyphs are equal
  pub tells_runs : runs_alike_clipped c d ≡ true → Tells Runs c d
  unfolding change changed_bounds runs_alike_clipped
  tells_runs g = go (equal c d) refl
    where
      go : (t : Bool) → equal c d ≡ t → Tells Runs c d
      go true e =
          record {
            rects =
                let none : rects_of Runs c d ≡ rects_of Same c d = none_changed (glyph_bounds c) (glyph_bounds d) c.glyphs d.glyphs (and_parts (same_drawing c.draw d.draw) _ (equal_parts e).0).1 in
                none ∙ (tells_same e).rects;
            equals = λ q. absurd (subst Changed q tt);
          }
      go false e =
          changed Runs tt (pick_false (equal c d) Same _ e ∙ pick_false (fills_alike c.draw d.draw) Fills _ (runs_no_fills c.draw d.draw (and_parts (runs_alike c.draw d.draw) _ g).0)
          ∙ pick_true (runs_alike_clipped c d) Runs Other g)
