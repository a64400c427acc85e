-- "Only the sign of a zero edge is open here": inputs whose commands agree get the same number, position and counts, the same regions and index words, and
-- rectangles whose edges differ at most in the sign of a zero. Nothing is assumed of their floats. Inputs that are turned away for their bytes are left out:
-- a position counts bytes, and those may differ where commands agree.
use Rattle.std.specs.Prelude.{◌≡◌, List, ℕ, ◌+◌, leb, Ok}
use Rattle.base_lists.specs.Places.{ByPlace}
use Rattle.base_ieee.specs.Values.{Same}
use Rattle.strip.specs.Reading.{commands_of}
use Rattle.strip_frame.specs.declared.Entry.{Entry}
use Rattle.strip_frame.specs.declared.Strips.{Strips}
use Rattle.strip_frame.specs.Frame.{header_of, strips_of, old_commands}
use Rattle.plan_answers.specs.Drafts.{Outcome, outcome}
use Rattle.plan_answers.specs.Space.{Lent}
use Rattle.plan_answers.specs.Answers.{answer_of, rect_words_of, region_words_of, index_words_of}
use Rattle.plan_agreement.specs.Agree.{AgreeAll}

-- ---- inputs that agree
-- For one entry: headers of the same sizes, and strips that are read, with no byte behind them. The commands of the old strips agree, of which two first
-- frames have none, and so do those of the new strips, which begin where the old ones end. A clip that is pushed and popped again takes space, and no command
-- shows it: so it is asked that the clips of both inputs fit the space lent, or those of neither.
pub record InputsAgree (z : Lent) (entry : Entry) (s t : List ℕ) (x y : Strips) : Type 0 where
  pub sizes : header_of s ≡ header_of t
  pub read : strips_of entry s ≡ Ok x
  pub other_read : strips_of entry t ≡ Ok y
  pub old_agree : AgreeAll (old_commands entry s) (old_commands entry t)
  pub new_agree : AgreeAll (commands_of s x.old.at) (commands_of t y.old.at)
  pub clips : leb (x.old.clips + x.new.clips) z.clips ≡ leb (y.old.clips + y.new.clips) z.clips

-- ---- what they get, with one lent space
pub record SamePlan (z : Lent) (x y : Outcome) : Type 0 where
  -- number, position and counts
  pub answer : answer_of z x ≡ answer_of z y
  pub regions : region_words_of x ≡ region_words_of y
  pub index : index_words_of x ≡ index_words_of y
  -- the edges of all rectangles, in their order
  pub rects : ByPlace Same (rect_words_of x) (rect_words_of y)

-- at either entry
abbrev pub SameByValue : Type 0
SameByValue = (z : Lent) (entry : Entry) (s t : List ℕ) (x y : Strips) → InputsAgree z entry s t x y → SamePlan z (outcome entry s) (outcome entry t)
