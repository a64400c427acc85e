-- Demand 3 at work: which of the frames are accepted, that the panels agree before each frame and after the last, and what they show.
use Rattle.base_refusals.specs.declared.Fault.TheVariants.{CutOff, NoRoom}
use Rattle.base_refusals.specs.declared.Refusal.{Refusal}
use Rattle.base_refusals.specs.Table.{refused}
use Rattle.std.specs.Prelude.{◌≡◌, [], ◌∷◌, ℕ, ◌<◌, Result, Ok}
use Rattle.std.proofs.Math.Option.{Option, none, some}
use Rattle.compositor_screen.specs.Sizes.{screen}
use Rattle.panels_painting.specs.Painters.{Rules, GlyphRule}
use Rattle.runtime.specs.Work.{work_of}
use Rattle.plan_answers.specs.declared.Plan.{Plan}
use Rattle.plan_answers.specs.Space.{lent_of}
use Rattle.plan_answers.specs.Answers.{planned, answer_of}
use Rattle.panels.specs.Panels.{Frame, Used, Orders, start, Agree, State}
use Rattle.panels.specs.Entries.{call_of}
use Rattle.panels_examples.specs.Pages.{header, strip, page_one, page_two, cell}
use Rattle.panels_examples.specs.Frames.{P, first, cut, crowded, turn, upper, lower, paint, mark, frames, before_turn, after, at}

-- what a frame's call answers, with this last accepted strip if there is one
abbrev pub answer : Option P.Strip → Frame P → Result Plan Refusal
answer last f = answer_of (lent_of f.space) (call_of header last f.strip)

-- both panels show colour k at pixel (p, q), which is one of the screen
abbrev pub Show : State P (screen 8 8 4) 0 paint (cell 0) → ℕ → ℕ → ℕ → Type 0
Show s p q k = (i : p < 8) × (j : q < 8) × (s.panel_a (at p q i j) ≡ k) × (s.panel_b (at p q i j) ≡ k)

-- at pixel (p, q) both panels show k before the turn, and l after it
abbrev pub Turns : ℕ → ℕ → ℕ → ℕ → Type 0
Turns p q k l = Show (after before_turn) p q k × Show (after frames) p q l

pub record Shown : Type 0 where
  -- the strips are the pages
  pub reads_one : P.commands (strip page_one) ≡ page_one
  pub reads_two : P.commands (strip page_two) ≡ page_two
  -- "An answer is a number (0, at 0, when accepted) and a byte position"; where it is accepted, its rectangles, index words, commands, regions and pixels
  pub first_planned : answer none first ≡ Ok (planned 1 6 (work_of 2 2 64))
  pub cut_refused : answer (some (strip page_one)) cut ≡ refused CutOff 303
  pub crowded_refused : answer (some (strip page_one)) crowded ≡ refused NoRoom 0
  pub turn_planned : answer (some (strip page_one)) turn ≡ Ok (planned 2 6 (work_of 2 2 33))
  pub turn_regions : P.regions (some (strip page_one)) turn.strip turn.space ≡ upper ∷ lower ∷ []
  -- what demand 3 asks of the painter, the letters and the orders
  pub rules : Rules 8 8 ℕ (Used P none frames) paint mark
  pub glyph_rule : GlyphRule (Used P none frames)
  pub orders : Orders P none frames
  -- what it says
  pub agree : Agree P (screen 8 8 4) 0 paint (cell 0) (start P (screen 8 8 4) 0 paint (cell 0)) frames
  -- a pixel that the cell left, and one that it came to
  pub cell_left : Turns 1 3 1 0
  pub cell_came : Turns 5 3 0 1
  -- one that the second letter left, and one that it came to
  pub letter_left : Turns 4 6 2 0
  pub letter_came : Turns 6 6 0 2
  -- one where the cell comes under the letter
  pub letter_over : Turns 5 5 2 2
  -- one of the first letter, in no region
  pub letter_stays : Turns 0 7 2 2
