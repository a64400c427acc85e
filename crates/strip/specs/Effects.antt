-- What a step is, once the box of what it draws is transformed; what is known of a command whose operands passed; and steps that only move the cursor.
use Rattle.base_refusals.specs.declared.Fault.TheVariants.{TooMany}
use Rattle.base_refusals.specs.declared.Refusal.{Refusal}
use Rattle.base_refusals.specs.Table.{refused}
use Rattle.std.specs.Prelude.{◌≡◌, true, List, ℕ, zero, suc, ◌+◌, ◌≤◌, ◌<◌, leb, eqb, length, get_or, Some, Result, Ok, Err}
use Rattle.base_lists.specs.Pick.{pick}
use Rattle.kurbo_geometry.specs.declared.Rect.{Rect}
use Rattle.kurbo_affine.specs.declared.Affine.{Affine}
use Rattle.kurbo_affine.specs.Affines.{try_transform, finite_corners}
use Rattle.display_list_commands.specs.Bounds.{local_with}
use Rattle.strip_format.specs.Format.{length_of, rect_at, command_at}
use Rattle.strip_format.specs.Finite.{FourFinite, FourNear}
use Rattle.strip_format.specs.Layout as Layout
use Rattle.strip_format.specs.Limits as Limits
use Rattle.strip_format.specs.declared.Kind.TheVariants.{Run}
use Rattle.strip_command_bounds.specs.Kinds.{kind_at}
use Rattle.strip_operand_checks.specs.Operands.{finite_f32, finite_glyph, operands_at}
use Rattle.strip.specs.declared.Cursor.{Cursor}
use Rattle.strip.specs.declared.Effect.{Effect}
use Rattle.strip.specs.declared.Effect.TheVariants.{Drawn, Done}
use Rattle.strip.specs.declared.Step.{Step}
use Rattle.strip.specs.declared.Step.TheVariants.{Next, Draw}
use Rattle.strip.specs.Steps.{on_box, drawn, glyph_read, Draws, step_at}

abbrev pub settle : Effect → Result Step Refusal
settle (Drawn t offset at m box) = on_box at (try_transform m box) (λ whole. Ok (Draw t offset whole))
settle (Done step) = Ok step

abbrev pub settled : Result Effect Refusal → Result Step Refusal
settled (Ok effect) = settle effect
settled (Err r) = Err r

-- past a drawing command of this length, which announces so many glyphs
abbrev pub drawn_or_many : Cursor → ℕ → ℕ → Result Cursor Refusal
drawn_or_many st len due = pick (leb Limits.most_commands st.commands) (refused TooMany st.at) (Ok (drawn st len due))

-- a glyph with this box, of a run with this affine: the run's last completes it
unfoldable pub last_effect : Cursor → Affine → Rect → Effect
last_effect st m box = pick (eqb st.due 1) (Drawn (glyph_read st box) st.run st.at m (glyph_read st box).united) (Done (Next (glyph_read st box)))

-- ---- the operands of a command, once they passed
-- a command with this byte stands whole at an offset, and its operands pass
pub record CommandChecked (s : List ℕ) (at b : ℕ) : Type 0 where
  pub byte : get_or s at 0 ≡ b
  pub known : b ≤ Layout.last_code
  pub room : at + length_of b ≤ length s
  pub operands : operands_at s at b ≡ Ok tt

-- and draws
pub record DrawsAt (s : List ℕ) (at b : ℕ) : Type 0 where
  pub stands : CommandChecked s at b
  pub draws : Draws b

-- the box of the command at an offset before its transform, whatever the union of its glyph boxes
abbrev pub OwnBounds : List ℕ → ℕ → Rect → Type 0
OwnBounds s at box = (united : Rect) → box ≡ local_with (command_at s at) united

-- ---- steps that only move the cursor
-- a GLYPH that is due stands whole at the cursor, and is not the last of its run
pub record GlyphDue (s : List ℕ) (st : Cursor) : Type 0 where
  pub more : 2 ≤ st.due
  pub room : st.at + Layout.glyph_length ≤ length s
  pub byte : get_or s st.at 0 ≡ Layout.glyph_code
  pub count : st.glyphs < Limits.most_glyphs

-- its place is finite
abbrev pub GlyphPlaced : List ℕ → Cursor → Type 0
GlyphPlaced s st = GlyphDue s st × (finite_f32 s (st.at + Layout.glyph_x) ≡ true) × (finite_f32 s (st.at + Layout.glyph_y) ≡ true)

-- such a GLYPH passes, by this affine
pub record GoesOn (s : List ℕ) (st : Cursor) (t : Affine) : Type 0 where
  pub due : GlyphDue s st
  pub operands : finite_glyph s st.at ≡ true
  pub corners : finite_corners t (rect_at s (st.at + Layout.glyph_box)) ≡ true

-- its floats are finite, and those of its box below 2 ^ 500; so are those of a RUN's affine
abbrev pub NearGoesOn : List ℕ → Cursor → Type 0
NearGoesOn s st = GlyphPlaced s st × FourNear s (st.at + Layout.glyph_box)

abbrev pub NearRun : List ℕ → ℕ → Type 0
NearRun s at = (kind_at s at ≡ Some Run) × FourNear s (at + Layout.run_affine) × FourNear s (at + Layout.run_affine + 16)

-- a glyph that stands whole at the cursor, with a finite box, and only moves it
pub record OnlyMoves (s : List ℕ) (st : Cursor) : Type 0 where
  pub due : GlyphDue s st
  pub box : FourFinite s (st.at + Layout.glyph_box)
  pub step : step_at s st ≡ Ok (Next (glyph_read st (rect_at s (st.at + Layout.glyph_box))))

-- n steps from st to t, each of which only moves the cursor
unfoldable pub Moves : ℕ → List ℕ → Cursor → Cursor → Type 0
Moves zero s st t = t ≡ st
Moves (suc n) s st t = (u : Cursor) × (Moves n s st u) × (step_at s u ≡ Ok (Next t))

pub record Passes (s : List ℕ) (st t : Cursor) : Type 0 where
  pub steps : ℕ
  pub moves : Moves steps s st t
