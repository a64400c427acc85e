-- L1, L3 and I3 for a schedule: a pixel outside its regions needs no paint, and inside one its candidates paint what all commands do. Assumes nothing.
use mathlib.Core.Path.{◌≡◌, sym, ap, ◌∙◌}
use mathlib.Core.Bool.{true, false}
use mathlib.Core.List.{List, ◌++◌, map}
use Prim.Native.Nat.{ℕ}
use native.Mathlib.Omega.{arith}
use lib.Dec.{T}
use lib.ListN.{get_or}
use Rattle.base_lists.specs.Members.{All, Any}
use Rattle.base_lists.proofs.Members.{all_map, all_of, in_any}
use Rattle.base_lists.proofs.Bools.{is_true, is_false}
use Rattle.base_ieee.proofs.Rank.{ordered}
use Rattle.kurbo_geometry.specs.declared.Rect.{Rect}
use Rattle.kurbo_geometry.specs.Pixels.{meets, touches}
use Rattle.kurbo_geometry.proofs.Edges.{Ordered}
use Rattle.compositor_device.specs.declared.DeviceRegion.{DeviceRegion}
use Rattle.display_list_commands.specs.Bounds.{Command, bounds}
use Rattle.display_list_changes.specs.Changes.{diff_dirty}
use Rattle.display_list_changes.proofs.Edges.{dirty_edges}
use Rattle.compositor_rows.specs.Rows.{row_count}
use Rattle.compositor_screen.specs.declared.Screen.{Screen}
use Rattle.compositor_screen.specs.Sizes.{fits}
use Rattle.compositor_screen.proofs.Laws.{Fits, sizes_of}
use Rattle.compositor_index_words.specs.Index.{index_words}
use Rattle.compositor_index_words.specs.Painting.{paint_all, paint_at}
use Rattle.compositor_index_words.proofs.Painting.{Silent}
use Rattle.compositor_candidates.specs.Table.{candidates, refusal}
use Rattle.compositor_candidates.proofs.Plans.{plan_accepted, plan_paints}
use Rattle.compositor_scheduler.specs.Schedule.{schedule}
use Rattle.compositor_schedule_laws.specs.Placed.{Covers, Placed}
use Rattle.compositor_schedule_laws.proofs.AllBands.{row_band}
use Rattle.compositor_schedule_laws.proofs.Boxes.{boxes_covered_all}
use Rattle.panels_painting.specs.Painters.{Pixel, Key, Rules}
use Rattle.panels_painting.proofs.Alike.{Sound, Unmet, lists_alike}

module _ (screen : Screen) (good : fits screen ≡ true) where
  abbrev sizes : Fits screen
  sizes = sizes_of screen good

  -- I3: `candidates` refuses no region that is placed like those of a schedule
  pub candidates_answer : (boxes : List Rect) (words rest : List ℕ) → words ≡ index_words screen.band_height (row_count screen.height screen.band_height) boxes ++ rest → (r : DeviceRegion) → Placed screen r → refusal screen r.y words ≡ 0
  candidates_answer boxes words rest e r p =
      ap (λ l. refusal screen r.y l) e
      ∙ plan_accepted screen r.y boxes rest good (omega (arith, p.on.some_height, p.on.down))

  module _ {C : Type 0} {M : Command → Type 0} {paint : Command → Pixel screen.width screen.height → C → C} {mark : Key → Pixel screen.width screen.height → C → C} (R : Rules screen.width screen.height C M paint mark) (px : Pixel screen.width screen.height) where
    -- a pixel that no scheduled region covers meets no box
    uncovered_unmet : (rects : List Rect) → All Ordered rects → (Any (Covers px.p px.q) (schedule screen rects) → ⊥) → All (Unmet px) rects
    uncovered_unmet rects o n = all_of (Unmet px) rects (λ r i. is_false (meets r px.p px.q) (λ t.
        n (boxes_covered_all sizes px.p px.q px.across px.down rects o (in_any (λ c. meets c px.p px.q ≡ true) r rects i (is_true (meets r px.p px.q) t)))))

    -- L1
    pub uncovered_alike : (os ns : List Command) → All M os → All M ns → All Sound os → All Sound ns → (Any (Covers px.p px.q) (schedule screen (diff_dirty os ns)) → ⊥) → (k : C) → paint_all (λ c. paint c px) os k ≡ paint_all (λ c. paint c px) ns k
    uncovered_alike os ns mo mn so sn n k = lists_alike R px (omega (arith, px.across, sizes.width_most)) (omega (arith, px.down, sizes.height_most)) os ns mo mn so sn (uncovered_unmet (diff_dirty os ns) (dirty_edges (λ x. T (ordered x)) os ns so sn) n) k

    -- L3
    pub candidates_paint : (ns : List Command) → All M ns → All Sound ns → (words rest : List ℕ) → words ≡ index_words screen.band_height (row_count screen.height screen.band_height) (map bounds ns) ++ rest → (r : DeviceRegion) → Placed screen r → Covers px.p px.q r → (d : Command) (k : C) → paint_at (λ c. paint c px) (λ i. get_or ns i d) (candidates screen r.y words) k ≡ paint_all (λ c. paint c px) ns k
    candidates_paint ns m so words rest e r p c d k =
        ap (λ l. paint_at (λ x. paint x px) (λ i. get_or ns i d) (candidates screen r.y l) k) e
        ∙ plan_paints (λ x. paint x px) bounds screen r.y px.p px.q ns rest good
        (omega (arith, c.from_top, px.down))
        px.down
        (sym (row_band screen px.q r p c.from_top c.to_bottom))
        d
        (all_map Sound (λ x. Ordered (bounds x)) (λ x y. y.box) ns so)
        (all_map M (λ x. touches (bounds x) px.p px.q ≡ false → Silent (λ z. paint z px) x) (λ x y t z. R.untouched x y px t z) ns m)
        k
