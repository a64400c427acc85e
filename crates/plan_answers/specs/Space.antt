-- Lent space: the slices of a call, and how many items of each kind they can take.
use Rattle.std.specs.Prelude.{List, ℕ, ◌/◌, min, length, Float}

-- "Rectangles, regions and index words are output. Scratch holds the commands, glyphs and clips of both strips, counted as items, and as many
-- rectangles, regions and index words as the output, with one working region a rectangle"
pub record Slices : Type 0 where
  -- output
  pub rects : List Float
  pub regions : List ℕ
  pub words : List ℕ
  -- scratch: clips, commands, glyphs
  pub boxes : List Float
  pub below : List ℕ
  pub items : List ℕ
  pub item_boxes : List Float
  pub glyphs : List ℕ
  -- scratch: the draft, and the working regions
  pub draft_rects : List Float
  pub work : List ℕ
  pub spare : List ℕ
  pub draft_regions : List ℕ
  pub draft_words : List ℕ

pub record Lent : Type 0 where
  pub commands : ℕ
  pub glyphs : ℕ
  pub clips : ℕ
  pub rects : ℕ
  pub regions : ℕ
  pub words : ℕ

-- A command takes two words and a box of four, a clip two boxes and a word, a glyph a word; a rectangle four words and a region four, in the output and in
-- scratch, and a working region two words. "where these and the output differ, the least is the space lent"
abbrev pub lent_of : Slices → Lent
lent_of z =
    record {
      commands = min (length z.items / 2) (length z.item_boxes / 4);
      glyphs = length z.glyphs;
      clips = min (length z.boxes / 8) (length z.below);
      rects = min (min (length z.rects / 4) (length z.draft_rects / 4)) (min (length z.work) (length z.spare));
      regions = min (length z.regions / 4) (length z.draft_regions / 4);
      words = min (length z.words) (length z.draft_words);
    }
