-- D2: a pixel that meets no box of the difference of two boxes, either way round. Then neither touches it, or both cut its square to the same part.
-- Assumes nothing.
use mathlib.Core.Path.{◌≡◌, refl}
use mathlib.Core.Bool.{Bool, true, false}
use mathlib.Core.List.{List, [], ◌∷◌}
use mathlib.Core.Logic.{◌⊎◌, inl}
use Prim.Native.Nat.{ℕ, ◌^◌, ◌<◌}
use lib.Dec.{T}
use Rattle.base_lists.specs.Pick.{pick}
use Rattle.base_lists.specs.Members.{All}
use Rattle.base_lists.proofs.Members.{all_left, all_right}
use Rattle.base_lists.proofs.Bools.{holds, is_true, is_false, not_both}
use Rattle.kurbo_geometry.specs.declared.Rect.{Rect}
use Rattle.kurbo_geometry.specs.Boxes.{intersect, positive_area, same_edges}
use Rattle.kurbo_geometry.specs.Parts.{top_part, bottom_part, left_part, right_part}
use Rattle.kurbo_geometry.specs.Pixels.{meets, touches, part}
use Rattle.kurbo_geometry.proofs.Edges.{Ordered}
use Rattle.kurbo_geometry.proofs.Meets.{touches_area, touches_meets}
use Rattle.kurbo_geometry.proofs.Cuts.{Unmet, swap_area, cut_both}
use Rattle.display_list_differences.specs.Differences.{with_area, rect_difference, rect_symmetric_difference}

-- what holds of the boxes kept holds of every box that has an area
area_all : (P : Rect → Type 0) (l : List Rect) → All P (with_area l) → All (λ b. T (positive_area b) → P b) l
unfolding with_area All
area_all P [] a = tt
area_all P (b ∷ l) a = go (area_all P l) (positive_area b) a
  where
    go : (All P (with_area l) → All (λ c. T (positive_area c) → P c) l) → (t : Bool) → All P (pick t (b ∷ with_area l) (with_area l)) → (T t → P b) × All (λ c. T (positive_area c) → P c) l
    go f true h = (λ u. h.0, f h.1)
    go f false h = (λ u. absurd u, f h)

module _ (p q : ℕ) (pl : p < 2 ^ 53) (ql : q < 2 ^ 53) where
  -- the pixel meets no box of the list
  abbrev pub Clear : List Rect → Type 0
  Clear l = All (λ b. meets b p q ≡ false) l

  -- the parts around an overlap, each in its place
  around_unmet : (r v : Rect) → Clear (with_area (top_part r v ∷ bottom_part r v ∷ left_part r v ∷ right_part r v ∷ [])) → Unmet p q pl ql r v
  unfolding All
  around_unmet r v a =
      let h = area_all (λ b. meets b p q ≡ false) (top_part r v ∷ bottom_part r v ∷ left_part r v ∷ right_part r v ∷ []) a in
      record { top = h.0; bottom = h.1.0; left = h.1.1.0; right = h.1.1.1.0 }

  -- a box that is listed whole
  alone_untouched : (r : Rect) → Clear (with_area (r ∷ [])) → touches r p q ≡ false
  unfolding All
  alone_untouched r a = is_false (touches r p q) (λ t. not_both (meets r p q) ((area_all (λ b. meets b p q ≡ false) (r ∷ []) a).0 (touches_area r p q t)) (touches_meets r p q t))

  -- with an overlap, and without
  overlap_unmet : (r s : Rect) → positive_area (intersect r s) ≡ true → Clear (rect_difference r s) → Unmet p q pl ql r (intersect r s)
  unfolding rect_difference
  overlap_unmet r s e a = around_unmet r (intersect r s) (rw e at a)

  apart_untouched : (r s : Rect) → positive_area (intersect r s) ≡ false → Clear (rect_difference r s) → touches r p q ≡ false
  unfolding rect_difference
  apart_untouched r s e a = alone_untouched r (rw e at a)

  pub difference_cuts : (r s : Rect) → Ordered r → Ordered s → Clear (rect_symmetric_difference r s)
      → ((touches r p q ≡ false) × (touches s p q ≡ false)) ⊎ (same_edges (part r p q) (part s p q) ≡ true)
  unfolding rect_symmetric_difference
  difference_cuts r s f g a = go (positive_area (intersect r s)) refl
    where
      P : Rect → Type 0
      P b = meets b p q ≡ false

      h : Clear (rect_difference r s)
      h = all_left P (rect_difference r s) (rect_difference s r) a

      k : Clear (rect_difference s r)
      k = all_right P (rect_difference r s) (rect_difference s r) a

      go : (t : Bool) → positive_area (intersect r s) ≡ t → ((touches r p q ≡ false) × (touches s p q ≡ false)) ⊎ (same_edges (part r p q) (part s p q) ≡ true)
      go true e =
          let u : T (positive_area (intersect s r)) = swap_area p q pl ql r s f g (holds _ e) in
          cut_both p q pl ql r s f g (holds _ e) (overlap_unmet r s e h) (overlap_unmet s r (is_true _ u) k)
      go false e =
          let n : positive_area (intersect s r) ≡ false = is_false _ (λ t. not_both _ e (swap_area p q pl ql s r g f t)) in
          inl (apart_untouched r s e h, apart_untouched s r n k)
