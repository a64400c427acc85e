-- What changed between two display lists, as boxes in dew's order.
use Rattle.std.specs.Prelude.{List, [], ◌∷◌, ◌++◌, map}
use Rattle.base_lists.specs.Pick.{pick}
use Rattle.kurbo_geometry.specs.declared.Rect.{Rect}
use Rattle.kurbo_geometry.specs.Boxes.{union}
use Rattle.display_list_commands.specs.declared.Glyph.{Glyph}
use Rattle.display_list_commands.specs.Bounds.{Command, bounds, glyph_bounds}
use Rattle.display_list_operand_equality.specs.Operands.{same_glyph}
use Rattle.display_list_equality.specs.Drawings.{equal, fills_alike, runs_alike_clipped}
use Rattle.display_list_differences.specs.Differences.{rect_symmetric_difference}
use Rattle.display_list_changes.specs.declared.Change.{Change}
use Rattle.display_list_changes.specs.declared.Change.TheVariants.{Same, Fills, Runs, Other}

-- what changed from one glyph to another at its place, by what becomes of a glyph's box in each run: nothing, or where "id, x or y differ, the union of both
-- transformed, clipped glyph boxes"
unfoldable pub changed_at : (Glyph → Rect) → (Glyph → Rect) → Glyph → Glyph → List Rect
changed_at old new g h = pick (same_glyph g h) [] (union (old g) (new h) ∷ [])

-- "for each common place" that; "then the old remainder, then the new", of which only one is not empty
unfoldable pub changed_glyphs : (Glyph → Rect) → (Glyph → Rect) → List Glyph → List Glyph → List Rect
changed_glyphs old new [] hs = map new hs
changed_glyphs old new (g ∷ gs) [] = map old (g ∷ gs)
changed_glyphs old new (g ∷ gs) (h ∷ hs) = changed_at old new g h ++ changed_glyphs old new gs hs

-- How a command became another: "Equal .. FILLs alike in path (its number and its box), affine and brush .. RUNs alike in font, size bits, affine, brush and
-- clip .. Else"
unfoldable pub change : Command → Command → Change
change old new = pick (equal old new) Same (pick (fills_alike old.draw new.draw) Fills (pick (runs_alike_clipped old new) Runs Other))

-- and the rectangles of each case: "nothing", "`rect_difference` of old from new .. then new minus old", what changed in the glyphs, "the union of both
-- command boxes"
abbrev pub rects_of : Change → Command → Command → List Rect
rects_of Same old new = []
rects_of Fills old new = rect_symmetric_difference (bounds old) (bounds new)
rects_of Runs old new = changed_glyphs (glyph_bounds old) (glyph_bounds new) old.glyphs new.glyphs
rects_of Other old new = union (bounds old) (bounds new) ∷ []

unfoldable pub changed_bounds : Command → Command → List Rect
changed_bounds old new = rects_of (change old new) old new

-- "common places in order, then boxes of the old remainder, then of the new", of which only one is not empty
unfoldable pub diff_dirty : List Command → List Command → List Rect
diff_dirty [] [] = []
diff_dirty [] (n ∷ ns) = bounds n ∷ diff_dirty [] ns
diff_dirty (o ∷ os) [] = bounds o ∷ diff_dirty os []
diff_dirty (o ∷ os) (n ∷ ns) = changed_bounds o n ++ diff_dirty os ns
