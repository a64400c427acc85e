-- A painter for examples, over colours that are brushes: a shape gives its brush where its box touches, a glyph where its ink does.
use Rattle.std.specs.Prelude.{ℕ}
use Rattle.base_lists.specs.Pick.{pick}
use Rattle.kurbo_geometry.specs.declared.Rect.{Rect}
use Rattle.kurbo_geometry.specs.Pixels.{touches}
use Rattle.display_list_commands.specs.Bounds.{Command, bounds}
use Rattle.compositor_index_words.specs.Painting.{paint_all}
use Rattle.panels_painting.specs.Painters.{Pixel, is_run, brush_of, Key, key_of}

unfoldable pub shape : {w h : ℕ} → Command → Pixel w h → ℕ → ℕ
shape c px k = pick (touches (bounds c) px.p px.q) (brush_of c.draw) k

-- `ink`: where a glyph has ink, by its key alone
module _ {w h : ℕ} (ink : Key → Rect) where
  unfoldable pub mark : Key → Pixel w h → ℕ → ℕ
  mark j px k = pick (touches (ink j) px.p px.q) j.brush k

  -- a run, glyph by glyph
  unfoldable pub text : Command → Pixel w h → ℕ → ℕ
  text c px k = paint_all (λ g. mark (key_of c g) px) c.glyphs k

  unfoldable pub paint : Command → Pixel w h → ℕ → ℕ
  paint c px k = pick (is_run c.draw) (text c px k) (shape c px k)
