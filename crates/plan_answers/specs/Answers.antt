-- The answer to a call, and what it leaves in the output: from bytes and lent space alone.
use Rattle.base_refusals.specs.declared.Fault.TheVariants.{NoRoom}
use Rattle.base_refusals.specs.declared.Refusal.{Refusal}
use Rattle.base_refusals.specs.Table.{refused, number}
use Rattle.std.specs.Prelude.{◌≡◌, Bool, true, false, ◌&&◌, List, [], ◌++◌, ℕ, leb, length, drop, Float, Result, Ok, Err}
use Rattle.base_lists.specs.Pick.{pick}
use Rattle.base_rect_list.specs.Rects as Rects
use Rattle.compositor_scheduler.specs.Schedule as Schedule
use Rattle.runtime.specs.declared.FrameWork.{FrameWork}
use Rattle.runtime.specs.Work.{work_of}
use Rattle.plan_answers.specs.declared.Plan.{Plan}
use Rattle.plan_answers.specs.Drafts.{Draft, Items, Outcome, refuses, drafted}
use Rattle.plan_answers.specs.Space.{Lent}

-- "commands, glyphs, clips, rectangles, regions or index words exceed the space lent": they do not
unfoldable pub items_fit : Lent → Items → Bool
items_fit z i = leb i.commands z.commands && (leb i.glyphs z.glyphs && leb i.clips z.clips)

unfoldable pub draft_fits : Lent → Draft → Bool
draft_fits z d = leb (length d.rects) z.rects && (leb (length d.regions) z.regions && leb (length d.words) z.words)

-- the counts of a draft, "pixels as the sum of width times height"
abbrev pub planned : ℕ → ℕ → FrameWork → Plan
planned rects words work = record { rects = rects; words = words; work = work }

abbrev pub counts : Draft → Result Plan Refusal
counts d = Ok (planned (length d.rects) (length d.words) (work_of d.emitted (length d.regions) (Schedule.pixels_of d.regions)))

-- "Space is checked in the listed order after both strips are read", with 10 at 0 throughout
abbrev pub answer_of : Lent → Outcome → Result Plan Refusal
answer_of z (refuses why) = Err why
answer_of z (drafted i d) = pick (items_fit z i && draft_fits z d) (counts d) (refused NoRoom 0)

-- ---- the paper's words for each case of an answer
-- "An answer is a number (0, at 0, when accepted) and a byte position"
abbrev pub number_of : Result Plan Refusal → ℕ
number_of (Ok plan) = 0
number_of (Err why) = number why.fault

abbrev pub position_of : Result Plan Refusal → ℕ
position_of (Ok plan) = 0
position_of (Err why) = why.position

-- no number's case holds
abbrev pub accepted : Result Plan Refusal → Bool
accepted (Ok plan) = true
accepted (Err why) = false

-- "Counts: regions, and pixels as the sum of width times height; commands emitted", and how many rectangles and index words the output has
pub record Counts : Type 0 where
  pub rects : ℕ
  pub regions : ℕ
  pub words : ℕ
  pub pixels : ℕ
  pub emitted : ℕ

-- of what is refused there are none
abbrev pub no_counts : Counts
no_counts = record { rects = 0; regions = 0; words = 0; pixels = 0; emitted = 0 }

abbrev pub counts_of : Result Plan Refusal → Counts
counts_of (Ok plan) =
    record {
      rects = plan.rects;
      regions = plan.work.regions_transferred;
      words = plan.words;
      pixels = plan.work.pixels_transferred;
      emitted = plan.work.commands_emitted;
    }
counts_of (Err why) = no_counts

-- ---- and what they are for a call
abbrev pub call_number : Lent → Outcome → ℕ
call_number z (refuses why) = number why.fault
call_number z (drafted i d) = pick (items_fit z i && draft_fits z d) 0 10

abbrev pub call_position : Lent → Outcome → ℕ
call_position z (refuses why) = why.position
call_position z (drafted i d) = 0

abbrev pub call_counts : Lent → Outcome → Counts
call_counts z (refuses why) = no_counts
call_counts z (drafted i d) =
    pick (items_fit z i && draft_fits z d)
    (record {
      rects = length d.rects;
      regions = length d.regions;
      words = length d.words;
      pixels = Schedule.pixels_of d.regions;
      emitted = d.emitted;
    })
    no_counts

-- what the answer to a call says, in these words
pub record Answered (z : Lent) (o : Outcome) (r : Result Plan Refusal) : Type 0 where
  pub number : number_of r ≡ call_number z o
  pub position : position_of r ≡ call_position z o
  pub counted : counts_of r ≡ call_counts z o
  -- the same as one equation, which says too that what has a number is refused
  pub plan : r ≡ answer_of z o

-- ---- output
-- the words of a draft; asked of accepted calls alone
abbrev pub rect_words_of : Outcome → List Float
rect_words_of (refuses why) = []
rect_words_of (drafted i d) = Rects.words_of_rects d.rects

abbrev pub region_words_of : Outcome → List ℕ
region_words_of (refuses why) = []
region_words_of (drafted i d) = Schedule.words_of_regions d.regions

abbrev pub index_words_of : Outcome → List ℕ
index_words_of (refuses why) = []
index_words_of (drafted i d) = d.words

-- "After a refusal, output space is unchanged; after acceptance, so is output space past the count."
abbrev pub published : {A : Type 0} → Result Plan Refusal → List A → List A → List A
published (Ok plan) new old = new ++ drop (length new) old
published (Err why) new old = old
