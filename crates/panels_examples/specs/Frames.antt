-- A list of frames under one header, a painter, and what the panels show before the last frame and after it.
use mathlib.Core.List.{List, [], ◌∷◌, foldl}
use Rattle.std.specs.Prelude.{ℕ, ◌<◌, replicate}
use Rattle.std.specs.Float.{binary64}
use Rattle.std.specs.Float.Ieee.{add}
use Rattle.base_floats.specs.Whole.{whole}
use Rattle.kurbo_geometry.specs.declared.Rect.{Rect}
use Rattle.compositor_device.specs.declared.DeviceRegion.{DeviceRegion}
use Rattle.display_list_commands.specs.Bounds.{Command}
use Rattle.plan_answers.specs.Space.{Slices}
use Rattle.compositor_screen.specs.Sizes.{screen}
use Rattle.panels_painting.specs.Painters.{Pixel, Key}
use Rattle.panels_painting.specs.Inked as Inked
use Rattle.panels.specs.Panels.{Planner, Frame, State, start, step}
use Rattle.panels.specs.Entries.{entries}
use Rattle.panels_examples.specs.Pages.{page_one, page_two, strip, cell, header}

-- the two entries under this header
abbrev pub P : Planner
P = entries header

-- ---- lent space: zeros, for two rectangles, two regions, four commands, four glyphs, no clip, and so many index words
abbrev pub room : ℕ → Slices
room words =
    record {
      rects = replicate 8 (whole 0);
      regions = replicate 8 0;
      words = replicate words 0;
      boxes = [];
      below = [];
      items = replicate 8 0;
      item_boxes = replicate 16 (whole 0);
      glyphs = replicate 4 0;
      draft_rects = replicate 8 (whole 0);
      work = replicate 4 0;
      spare = replicate 4 0;
      draft_regions = replicate 8 0;
      draft_words = replicate words 0;
    }

-- ---- the frames
abbrev pub region : ℕ → ℕ → ℕ → ℕ → DeviceRegion
region x y width height = record { x = x; y = y; width = width; height = height }

-- what the turn from the first page to the second repaints, by bands
abbrev pub upper : DeviceRegion
upper = region 0 2 6 2

abbrev pub lower : DeviceRegion
lower = region 0 4 7 3

abbrev pub first : Frame P
first = record { strip = strip page_one; space = room 7; order = [] }

-- a FILL of which one byte is there
abbrev pub cut : Frame P
cut = record { strip = 3 ∷ []; space = room 7; order = [] }

-- the second page, with one index word too few
abbrev pub crowded : Frame P
crowded = record { strip = strip page_two; space = room 5; order = [] }

-- the second page; panel B paints the lower region, the upper one, and the lower one again
abbrev pub turn : Frame P
turn = record { strip = strip page_two; space = room 7; order = lower ∷ upper ∷ lower ∷ [] }

-- ---- the painter, over brushes with 0 for the background: a letter is a square of the run's size at the glyph's x and y
abbrev pub ink : Key → Rect
ink j = record { x0 = j.x; y0 = j.y; x1 = add binary64 j.x j.size; y1 = add binary64 j.y j.size }

abbrev pub paint : Command → Pixel 8 8 → ℕ → ℕ
paint = Inked.paint ink

abbrev pub mark : Key → Pixel 8 8 → ℕ → ℕ
mark = Inked.mark ink

-- ---- the panels
abbrev pub after : List (Frame P) → State P (screen 8 8 4) 0 paint (cell 0)
after frames = foldl (step P (screen 8 8 4) 0 paint (cell 0)) (start P (screen 8 8 4) 0 paint (cell 0)) frames

abbrev pub before_turn : List (Frame P)
before_turn = first ∷ cut ∷ crowded ∷ []

abbrev pub frames : List (Frame P)
frames = first ∷ cut ∷ crowded ∷ turn ∷ []

abbrev pub at : (p q : ℕ) → p < 8 → q < 8 → Pixel 8 8
at p q i j = record { p = p; q = q; across = i; down = j }
