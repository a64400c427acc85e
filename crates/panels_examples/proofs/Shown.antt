-- Demand 3 at work: the theorem applied to the frames, and what the panels show, worked out by the definitions. Assumes nothing.
use mathlib.Core.Path.{◌≡◌, refl, sym, ap, ◌∙◌, subst}
use mathlib.Core.Logic.{inl, inr}
use mathlib.Core.List.{List, [], ◌∷◌, ◌++◌}
use mathlib.Core.Option.{none}
use Prim.Native.Nat.{ℕ}
use native.Mathlib.Omega.{arith}
use lib.ListN.{length}
use lib.Ieee.{lt, add, mul, neg, of_int}
use Rattle.base_lists.specs.Members.{All, Any}
use Rattle.base_little_endian.specs.Words.{u32_at}
use Rattle.base_floats.specs.Order.{larger, smaller}
use Rattle.kurbo_geometry.specs.Boxes.{positive_area}
use Rattle.kurbo_geometry.specs.Pixels.{spans, meets, touches}
use Rattle.kurbo_affine.specs.Affines.{bounding_box, transform_rect_bbox}
use Rattle.compositor_device.specs.declared.DeviceRegion.{DeviceRegion}
use Rattle.display_list_commands.specs.Bounds.{united_from, bounds}
use Rattle.compositor_index_words.specs.Painting.{paint_all, paint_at}
use Rattle.compositor_candidates.specs.Table.{bad_row, find_row, find}
use Rattle.panels_painting.specs.Inked as Inked
use Rattle.panels.specs.Panels.{Ordering, Orders, paint_whole, paint_region, PanelsAgree}
use Rattle.panels.proofs.Entries.{panels_agree}
use Rattle.panels_examples.specs.Pages.{bytes, header, cell}
use Rattle.panels_examples.specs.Frames.{P, turn, upper, lower, paint, mark, frames}
use Rattle.panels_examples.specs.Shown.{Show, Turns, Shown}
use Rattle.panels_examples.proofs.Calls.{index, worked}
use Rattle.panels_examples.proofs.Trace as Trace
use Rattle.compositor_screen.specs.Sizes.{screen, size_fits}

-- ---- the theorem
twelve : length header ≡ 12
unfolding bytes
twelve = refl

pub entries_keep : PanelsAgree (screen 8 8 4) P
unfolding bytes u32_at
entries_keep = panels_agree header twelve

-- each region is painted, and nothing else
each_painted : Ordering (upper ∷ lower ∷ []) turn.order
unfolding All Any
each_painted = record { each = (inr (inl refl), (inl refl, tt)); only = (inr (inl refl), (inl refl, (inr (inl refl), tt))) }

orders : Orders P none frames
orders = Trace.orders P.regions P.words turn.order (subst (λ (rs : List DeviceRegion). Ordering rs turn.order) (sym Trace.turn_regions) each_painted)

-- ---- the colours
abbrev S : Type 0
S = Trace.S P.regions P.words turn.order

abbrev first_shown : S
first_shown = Trace.first_shown P.regions P.words turn.order

abbrev second_shown : List ℕ → S
second_shown = Trace.second_shown P.regions P.words turn.order

turns : (p q k l : ℕ) → Show first_shown p q k → Show (second_shown (index ++ 0 ∷ [])) p q l → Turns p q k l
turns p q k l a b = (
  subst (λ (s : S). Show s p q k) (sym (Trace.before_is P.regions P.words turn.order)) a,
  subst (λ (s : S). Show s p q l) (sym (Trace.after_is P.regions P.words turn.order ∙ ap second_shown Trace.turn_words)) b,
)

pub shown : Shown
unfolding paint_whole paint_region paint_all paint_at find find_row bad_row size_fits Inked.paint Inked.text Inked.shape Inked.mark touches positive_area
    meets spans bounds united_from transform_rect_bbox bounding_box larger smaller lt add mul neg of_int
shown = record {
  reads_one = worked.reads_one;
  reads_two = worked.reads_two;
  first_planned = Trace.first_planned;
  cut_refused = Trace.cut_refused;
  crowded_refused = Trace.crowded_refused;
  turn_planned = Trace.turn_planned;
  turn_regions = Trace.turn_regions;
  rules = Trace.rules P.regions P.words turn.order;
  glyph_rule = Trace.glyphs P.regions P.words turn.order;
  orders = orders;
  agree = entries_keep frames ℕ 0 paint mark (cell 0) (Trace.rules P.regions P.words turn.order) (Trace.glyphs P.regions P.words turn.order) orders;
  cell_left = turns 1 3 1 0 (omega arith, omega arith, refl, refl) (omega arith, omega arith, refl, refl);
  cell_came = turns 5 3 0 1 (omega arith, omega arith, refl, refl) (omega arith, omega arith, refl, refl);
  letter_left = turns 4 6 2 0 (omega arith, omega arith, refl, refl) (omega arith, omega arith, refl, refl);
  letter_came = turns 6 6 0 2 (omega arith, omega arith, refl, refl) (omega arith, omega arith, refl, refl);
  letter_over = turns 5 5 2 2 (omega arith, omega arith, refl, refl) (omega arith, omega arith, refl, refl);
  letter_stays = turns 0 7 2 2 (omega arith, omega arith, refl, refl) (omega arith, omega arith, refl, refl);
}
