-- Document 01, "Edges to hold": the starred cases, all of them, which hold together. Assumes nothing.
use Rattle.std.specs.Prelude.{◌≡◌, List, [], ◌∷◌, ℕ, ◌+◌, Float, Some, None}
use Rattle.std.specs.Float.{binary64}
use Rattle.std.specs.Float.Ieee.{neg, div, of_bits, to_bits}
use Rattle.kurbo_geometry.specs.declared.Rect.{Rect}
use Rattle.base_floats.specs.Whole.{whole}
use Rattle.compositor_rows.specs.Rows.{row_count, row_of, final_row}
use Rattle.compositor_index_words.specs.Index.{index_words}
use Rattle.kurbo_affine.specs.declared.Affine.{Affine}
use Rattle.compositor_device.specs.declared.DeviceRegion.{DeviceRegion}
use Rattle.compositor_device.specs.Region.{from_logical}
use Rattle.display_list_commands.specs.declared.Join.TheVariants as J
use Rattle.display_list_commands.specs.declared.Cap.TheVariants as C
use Rattle.display_list_commands.specs.declared.Stroke.{Stroke}
use Rattle.display_list_commands.specs.declared.DrawCommand.{DrawCommand}
use Rattle.display_list_commands.specs.declared.DrawCommand.TheVariants.{FillPath, StrokePath}
use Rattle.display_list_commands.specs.Bounds.{Command, bounds}
use Rattle.display_list_changes.specs.Changes.{changed_bounds}
use Rattle.compositor_screen.specs.Sizes.{screen}
use Rattle.compositor_scheduler.specs.Schedule.{schedule}

infixl 70 ◌÷◌
-- a fraction, as an f64
abbrev ◌÷◌ : ℕ → ℕ → Float
a ÷ b = div binary64 (whole a) (whole b)

abbrev box : Float → Float → Float → Float → Rect
box a b c d = record { x0 = a; y0 = b; x1 = c; y1 = d }

-- a box of whole numbers by its edges, and by its corner and its sides
abbrev edges : ℕ → ℕ → ℕ → ℕ → Rect
edges a b c d = box (whole a) (whole b) (whole c) (whole d)

abbrev sides : ℕ → ℕ → ℕ → ℕ → Rect
sides x y w h = edges x y (x + w) (y + h)

abbrev region : ℕ → ℕ → ℕ → ℕ → DeviceRegion
region x y w h = record { x = x; y = y; width = w; height = h }

-- one band: a screen of 16 by 16
abbrev one_band : List Rect → List DeviceRegion
one_band rects = schedule (screen 16 16 16) rects

-- a command where it is drawn, with its open clips
abbrev identity : Affine
identity = record { a = whole 1; b = whole 0; c = whole 0; d = whole 1; e = whole 0; f = whole 0 }

abbrev drawn : DrawCommand → List Rect → Command
drawn d cs = record { draw = d; glyphs = []; clips = cs }

abbrev filled : List Rect → Command
filled cs = drawn (FillPath 1 (edges 0 0 10 10) identity 1) cs

abbrev stroked : Command
stroked =
    let stroke : Stroke = record { width = whole 2; join = J.Miter; miter_limit = whole 4; start_cap = C.Butt; end_cap = C.Butt; dash = 0 } in
    drawn (StrokePath 1 (edges 10 10 20 20) identity stroke 1) []

-- the rows of a screen 40 high in bands of 16
abbrev first : Float → ℕ
first y = row_of 16 (row_count 40 16) y

abbrev final : Float → ℕ
final y = final_row 16 (row_count 40 16) y

-- the index words there of one command that runs from y0 to y1: four starts, then its place, 0, in each row that it stands in
abbrev indexed : Float → Float → List ℕ
indexed y0 y1 = index_words 16 (row_count 40 16) (box (whole 0) y0 (whole 4) y1 ∷ [])

-- the next f64 above 16
abbrev above16 : Float
above16 = of_bits binary64 (to_bits binary64 (whole 16) + 1)

pub record Starred : Type 0 where
  -- "FILL box 0 0 10 10 to 0 0 6 10 by clip: only 6 0 10 10"
  pub cropped : changed_bounds (filled []) (filled (edges 0 0 6 10 ∷ [])) ≡ edges 6 0 10 10 ∷ []
  -- "(-1.5, 2.25, 3.5, 4) on 8 by 8: 0 2 4 2"
  pub rounded_outward : from_logical (box (neg (3 ÷ 2)) (9 ÷ 4) (7 ÷ 2) (whole 4)) 8 8 ≡ Some (region 0 2 4 2)
  -- "(3, 3, 3, 5): nothing"
  pub no_width : from_logical (box (whole 3) (whole 3) (whole 3) (whole 5)) 8 8 ≡ None
  -- "One band, 0 0 4 4 and 4 8 4 4: 0 0 8 12"
  pub touching_joined : one_band (sides 0 0 4 4 ∷ sides 4 8 4 4 ∷ []) ≡ region 0 0 8 12 ∷ []
  -- "With 5 8 4 4: two regions"
  pub apart_kept : one_band (sides 0 0 4 4 ∷ sides 5 8 4 4 ∷ []) ≡ region 0 0 4 4 ∷ region 5 8 4 4 ∷ []
  -- "0 5 2 2 and 8 0 2 2: 8 0 first"
  pub higher_first : one_band (sides 0 5 2 2 ∷ sides 8 0 2 2 ∷ []) ≡ region 8 0 2 2 ∷ region 0 5 2 2 ∷ []
  -- "y1 = 16, band 16: ends in row 0"
  pub ends_at_edge : final (whole 16) ≡ 0
  -- "Next f64 above 16: row 1"
  pub ends_past_edge : final above16 ≡ 1
  -- "Height 40, band 16: y 100 to 120 in row 2"
  pub below_screen : (first (whole 100) ≡ 2) × (final (whole 120) ≡ 2)
  -- "y -8 to -2 in row 0"
  pub above_screen : (first (neg (whole 8)) ≡ 0) × (final (neg (whole 2)) ≡ 0)
  -- the same four in the words of the index: row 0 alone; rows 0 and 1; row 2 alone; row 0 alone
  pub ends_at_edge_words : indexed (whole 0) (whole 16) ≡ 0 ∷ 1 ∷ 1 ∷ 1 ∷ 0 ∷ []
  pub ends_past_edge_words : indexed (whole 0) above16 ≡ 0 ∷ 1 ∷ 2 ∷ 2 ∷ 0 ∷ 0 ∷ []
  pub below_screen_words : indexed (whole 100) (whole 120) ≡ 0 ∷ 0 ∷ 0 ∷ 1 ∷ 0 ∷ []
  pub above_screen_words : indexed (neg (whole 8)) (neg (whole 2)) ≡ 0 ∷ 1 ∷ 1 ∷ 1 ∷ 0 ∷ []
  -- "Width 2, miter, limit 4, butt, box 10 10 20 20: 6 6 24 24"
  pub stroke_box : bounds stroked ≡ edges 6 6 24 24
