-- The frames under the entries, or under a planner that differs from them in regions and words alone: the answers, what demand 3 asks, and the states of the
-- panels. Assumes nothing.
use mathlib.Core.Path.{◌≡◌, sym, ap, ◌∙◌, subst}
use mathlib.Core.List.{List, [], ◌∷◌, ◌++◌, foldl}
use mathlib.Core.Option.{Option, none, some}
use Prim.Native.Nat.{ℕ}
use Rattle.std.specs.Prelude.{Ok}
use Rattle.base_refusals.specs.declared.Fault.TheVariants.{CutOff, NoRoom}
use Rattle.base_refusals.specs.Table.{refused}
use Rattle.base_lists.specs.Members.{All, In}
use Rattle.base_lists.proofs.Members.{in_all, all_in, all_left, all_right}
use Rattle.compositor_device.specs.declared.DeviceRegion.{DeviceRegion}
use Rattle.display_list_commands.specs.Bounds.{Command}
use Rattle.compositor_scheduler.specs.Schedule.{pixels_of}
use Rattle.runtime.specs.Work.{work_of}
use Rattle.plan_answers.specs.Space.{Slices, lent_of}
use Rattle.plan_answers.specs.Answers.{items_fit, draft_fits, planned, answer_of, accepted, index_words_of, published}
use Rattle.panels_painting.specs.Painters.{Pixel, Rules, GlyphRule}
use Rattle.panels_painting.proofs.Fewer.{rules_fewer}
use Rattle.panels_painting.proofs.GlyphRules.{glyph_rule}
use Rattle.panels.specs.Panels.{Planner, Frame, Ordering, Used, Orders, paint_whole, paint_regions, State, start, step}
use Rattle.panels.specs.Entries.{drafted_regions}
use Rattle.panels.proofs.Frames.{used_none, used_accepted, used_refused, orders_accepted, orders_refused, step_accepted, step_refused}
use Rattle.panels_examples.specs.Pages.{strip, cell, page_one, page_two}
use Rattle.panels_examples.specs.Frames.{P, room, first, cut, crowded, turn, upper, lower, paint, mark}
use Rattle.panels_examples.specs.Shown.{answer}
use Rattle.panels_examples.proofs.Calls.{index, worked}
use Rattle.panels_examples.proofs.Painted.{Painted, painted_rules, pages_painted, pages_one_box}
use Rattle.compositor_screen.specs.Sizes.{screen}

abbrev pub one : List ℕ
one = strip page_one

abbrev pub two : List ℕ
two = strip page_two

-- ---- the answers
pub first_planned : answer none first ≡ Ok (planned 1 6 (work_of 2 2 64))
unfolding items_fit draft_fits pixels_of
first_planned = ap (answer_of (lent_of (room 7))) worked.first

pub cut_refused : answer (some one) cut ≡ refused CutOff 303
cut_refused = ap (answer_of (lent_of (room 7))) worked.cut

pub crowded_refused : answer (some one) crowded ≡ refused NoRoom 0
unfolding items_fit draft_fits
crowded_refused = ap (answer_of (lent_of (room 5))) worked.turn

pub turn_planned : answer (some one) turn ≡ Ok (planned 2 6 (work_of 2 2 33))
unfolding items_fit draft_fits pixels_of
turn_planned = ap (answer_of (lent_of (room 7))) worked.turn

pub turn_regions : P.regions (some one) two (room 7) ≡ upper ∷ lower ∷ []
turn_regions = ap drafted_regions worked.turn

-- the index, and the word that was lent behind it
pub turn_words : P.words (some one) two (room 7) ≡ index ++ 0 ∷ []
turn_words = λ i. published (turn_planned i) (index_words_of (worked.turn i)) (room 7).words

-- ---- the frames, with these regions and words, and this order of the last one's regions
module _ (R : Option (List ℕ) → List ℕ → Slices → List DeviceRegion) (W : Option (List ℕ) → List ℕ → Slices → List ℕ) (order : List DeviceRegion) where
  abbrev pub Q : Planner
  Q = record { Strip = List ℕ; Space = Slices; accepted = P.accepted; commands = P.commands; regions = R; words = W }

  abbrev under : Frame P → List DeviceRegion → Frame Q
  under f o = record { strip = f.strip; space = f.space; order = o }

  abbrev pub frames : List (Frame Q)
  frames = under first [] ∷ under cut [] ∷ under crowded [] ∷ under turn order ∷ []

  -- both pages' commands are used, and no others
  used_in : (c : Command) → Used Q none frames c → In c (page_one ++ page_two)
  used_in =
      let M : Command → Type 0 = λ c. In c (page_one ++ page_two) in
      let m = all_in (page_one ++ page_two) in
      used_accepted Q none _ _ M (ap accepted first_planned) (subst (All M) (sym worked.reads_one) (all_left M page_one page_two m))
      (used_refused Q (some one) _ _ M (ap accepted cut_refused)
      (used_refused Q (some one) _ _ M (ap accepted crowded_refused)
      (used_accepted Q (some one) _ _ M (ap accepted turn_planned) (subst (All M) (sym worked.reads_two) (all_right M page_one page_two m)) (used_none Q (some two) M))))

  pub rules : Rules 8 8 ℕ (Used Q none frames) paint mark
  rules = rules_fewer (λ c u. in_all Painted c (page_one ++ page_two) (used_in c u) pages_painted) painted_rules

  pub glyphs : GlyphRule (Used Q none frames)
  glyphs = glyph_rule (page_one ++ page_two) pages_one_box used_in

  pub orders : Ordering (R (some one) two (room 7)) order → Orders Q none frames
  orders o =
      orders_accepted Q none (under first []) (under cut [] ∷ under crowded [] ∷ under turn order ∷ []) (ap accepted first_planned) tt
      (orders_refused Q (some one) (under cut []) (under crowded [] ∷ under turn order ∷ []) (ap accepted cut_refused)
      (orders_refused Q (some one) (under crowded []) (under turn order ∷ []) (ap accepted crowded_refused)
      (orders_accepted Q (some one) (under turn order) [] (ap accepted turn_planned) o tt)))

  -- ---- the panels
  abbrev pub S : Type 0
  S = State Q (screen 8 8 4) 0 paint (cell 0)

  abbrev next : S → Frame Q → S
  next = step Q (screen 8 8 4) 0 paint (cell 0)

  abbrev page : List Command → Pixel 8 8 → ℕ
  page = paint_whole Q (screen 8 8 4) 0 paint (cell 0)

  -- the first page, which both panels paint whole
  abbrev pub first_shown : S
  first_shown = record { last = some one; panel_a = page page_one; panel_b = page page_one }

  pub before_is : next (next (next (start Q (screen 8 8 4) 0 paint (cell 0)) (under first [])) (under cut [])) (under crowded []) ≡ first_shown
  before_is =
      ap (λ (s : S). next (next s (under cut [])) (under crowded []))
      (step_accepted Q (screen 8 8 4) 0 paint (cell 0) _ (under first []) (ap accepted first_planned) ∙ (λ i. record { last = some one; panel_a = page (worked.reads_one i); panel_b = page (worked.reads_one i) }))
      ∙ ap (λ (s : S). next s (under crowded [])) (step_refused Q (screen 8 8 4) 0 paint (cell 0) first_shown (under cut []) (ap accepted cut_refused))
      ∙ step_refused Q (screen 8 8 4) 0 paint (cell 0) first_shown (under crowded []) (ap accepted crowded_refused)

  -- the second, which panel B paints in the regions of the order, by these words
  abbrev pub second_shown : List ℕ → S
  second_shown words = record { last = some two; panel_a = page page_two; panel_b = paint_regions Q (screen 8 8 4) 0 paint (cell 0) page_two words order (page page_one) }

  pub after_is : foldl next (start Q (screen 8 8 4) 0 paint (cell 0)) frames ≡ second_shown (W (some one) two (room 7))
  after_is =
      ap (λ (s : S). next s (under turn order)) before_is
      ∙ step_accepted Q (screen 8 8 4) 0 paint (cell 0) first_shown (under turn order) (ap accepted turn_planned)
      ∙ (λ i. record { last = some two; panel_a = page (worked.reads_two i); panel_b = paint_regions Q (screen 8 8 4) 0 paint (cell 0) (worked.reads_two i) (W (some one) two (room 7)) order (page page_one) })
