-- Which commands stand in a row, and in which order: I1 and I2. Assumes nothing.
use mathlib.Core.Path.{◌≡◌, refl, sym, ap, ◌∙◌, subst}
use mathlib.Core.Logic.{inl, ⊎_elim}
use mathlib.Core.Bool.{Bool, true, false, ◌&&◌}
use mathlib.Core.List.{List, [], ◌∷◌, ◌++◌, append_assoc}
use Prim.Native.Nat.{ℕ, zero, suc, ◌+◌, ◌-◌, ◌/◌, ◌≤◌, ◌<◌}
use native.Mathlib.Nat.{not-suc-le-zero, le_of_suc-le-suc}
use native.Mathlib.Omega.{arith}
use borrow.Author.Tests.{le-leb}
use lib.Dec.{T}
use lib.Ieee.{lt}
use lib.Ieee.Fits.{and_l, and_r}
use lib.ListN.{length, get_or}
use Rattle.base_lists.specs.Pick.{pick}
use Rattle.base_lists.specs.Members.{All, Any, Pairs, In}
use Rattle.std.proofs.lemmas.Bool.{and_from}
use Rattle.base_lists.proofs.Bools.{is_true}
use Rattle.base_lists.proofs.Members.{all_of, any_left, any_right, any_append, pairs_append, pairs_none}
use Rattle.base_floats.specs.Whole.{whole}
use Rattle.kurbo_geometry.specs.declared.Rect.{Rect}
use Rattle.kurbo_geometry.specs.Boxes.{positive_area}
use Rattle.kurbo_geometry.specs.Pixels.{spans, meets, touches}
use Rattle.kurbo_geometry.proofs.Edges.{Ordered}
use Rattle.kurbo_geometry.proofs.Meets.{touches_area, touches_meets}
use Rattle.compositor_rows.specs.Rows.{row_count}
use Rattle.compositor_rows.proofs.Laws.{row_upper, final_lower, row_below}
use Rattle.compositor_index_words.specs.Index.{stands_in, places, row_list}

-- ---- a list of one place or none
one_all : (P : ℕ → Type 0) (t : Bool) (i : ℕ) → P i → All P (pick t (i ∷ []) [])
unfolding All
one_all P true i p = (p, tt)
one_all P false i p = tt

one_pairs : (R : ℕ → ℕ → Type 0) (t : Bool) (i : ℕ) → Pairs R (pick t (i ∷ []) [])
unfolding All Pairs
one_pairs R true i = (tt, tt)
one_pairs R false i = tt

one_has : (t : Bool) (i k : ℕ) → t ≡ true → k ≡ i → In k (pick t (i ∷ []) [])
unfolding Any
one_has t i k e z = rw e (inl z)

one_only : (t u : Bool) (i k : ℕ) → t ≡ u → In k (pick u (i ∷ []) []) → (k ≡ i) × (t ≡ true)
unfolding Any
one_only t true i k e h = ⊎_elim (λ z. (z, e)) (λ z. absurd z) h
one_only t false i k e h = absurd h

-- the places of two lists in a row
pub places_append : (test : Rect → Bool) (i : ℕ) (l k : List Rect) → places test i (l ++ k) ≡ places test i l ++ places test (i + length l) k
unfolding places
places_append test i [] k = let e : i ≡ i + 0 = omega arith in ap (λ (j : ℕ). places test j k) e
places_append test i (b ∷ l) k =
    let e : i + 1 + length l ≡ i + suc (length l) = omega arith in
    ap (λ (t : List ℕ). pick (test b) (i ∷ []) [] ++ t) (places_append test (i + 1) l k ∙ ap (λ (j : ℕ). places test (i + 1) l ++ places test j k) e)
    ∙ sym (append_assoc (pick (test b) (i ∷ []) []) (places test (i + 1) l) (places test (i + suc (length l)) k))

-- ---- the places of the boxes that pass a test, from i on
module _ (test : Rect → Bool) where
  -- a box that passes is there
  pub places_has : (i : ℕ) (l : List Rect) (j : ℕ) (d : Rect) → j < length l → test (get_or l j d) ≡ true → In (i + j) (places test i l)
  unfolding places
  places_has i [] j d h e = absurd (not-suc-le-zero h)
  places_has i (b ∷ l) zero d h e = any_left _ (pick (test b) (i ∷ []) []) (places test (i + 1) l) (one_has (test b) i (i + 0) e (omega arith))
  places_has i (b ∷ l) (suc j) d h e =
      let z : i + 1 + j ≡ i + suc j = omega arith in
      any_right _ (pick (test b) (i ∷ []) []) (places test (i + 1) l) (subst (λ (k : ℕ). In k (places test (i + 1) l)) z (places_has (i + 1) l j d (le_of_suc-le-suc h) e))

  -- and no other is
  pub places_only : (i : ℕ) (l : List Rect) (k : ℕ) (d : Rect) → In k (places test i l) → (i ≤ k) × (k < i + length l) × (test (get_or l (k - i) d) ≡ true)
  unfolding places Any
  places_only i [] k d h = absurd h
  places_only i (b ∷ l) k d h = ⊎_elim
      (λ x. let z = one_only (test b) (test b) i k refl x in
      let e : 0 ≡ k - i = omega (arith, z.0) in
      (omega (arith, z.0), omega (arith, z.0), subst (λ (j : ℕ). test (get_or (b ∷ l) j d) ≡ true) e z.1))
      (λ x. let z = places_only (i + 1) l k d x in
      let e : suc (k - (i + 1)) ≡ k - i = omega (arith, z.0) in
      (omega (arith, z.0), omega (arith, z.1), subst (λ (j : ℕ). test (get_or (b ∷ l) j d) ≡ true) e z.2))
      (any_append (λ j. k ≡ j) (pick (test b) (i ∷ []) []) (places test (i + 1) l) h)

  -- they ascend
  pub places_ascend : (i : ℕ) (l : List Rect) → Pairs (λ a b. a < b) (places test i l)
  unfolding places
  places_ascend i [] = pairs_none (λ a b. a < b)
  places_ascend i (b ∷ l) =
      pairs_append (λ a b. a < b) (pick (test b) (i ∷ []) []) (places test (i + 1) l) (one_pairs (λ a b. a < b) (test b) i) (places_ascend (i + 1) l)
      (one_all (λ a. All (λ k. a < k) (places test (i + 1) l)) (test b) i (all_of (λ k. i < k) (places test (i + 1) l) (λ k h. omega (arith, (places_only (i + 1) l k b h).0))))

-- ---- the rows of the index
module _ (band rows : ℕ) (boxes : List Rect) (r : ℕ) where
  -- a command that stands in row r is in its list
  pub row_has : (i : ℕ) (d : Rect) → i < length boxes → stands_in band rows (get_or boxes i d) r ≡ true → In i (row_list band rows boxes r)
  unfolding row_list
  row_has i d h e =
      let z : 0 + i ≡ i = omega arith in
      subst (λ (k : ℕ). In k (places (λ b. stands_in band rows b r) 0 boxes)) z (places_has (λ b. stands_in band rows b r) 0 boxes i d h e)

  -- I2: the entries of a row are below the number of commands
  pub row_within : All (λ i. i < length boxes) (row_list band rows boxes r)
  unfolding row_list
  row_within = all_of (λ i. i < length boxes) (places (λ b. stands_in band rows b r) 0 boxes) (λ i h. omega (arith, (places_only (λ b. stands_in band rows b r) 0 boxes i (record { x0 = whole 0; y0 = whole 0; x1 = whole 0; y1 = whole 0 }) h).1))

  -- and ascend strictly
  pub row_ascends : Pairs (λ i j. i < j) (row_list band rows boxes r)
  unfolding row_list
  row_ascends = places_ascend (λ b. stands_in band rows b r) 0 boxes

-- ---- I1
module _ (height band p q : ℕ) (B : 0 < band) (H : height ≤ 32768) (Q : q < height) where
  -- a box that touches a pixel of the screen stands in the pixel's row
  pub touch_stands : (b : Rect) → Ordered b → T (touches b p q) → stands_in band (row_count height band) b (q / band) ≡ true
  unfolding stands_in meets spans
  touch_stands b o t =
      let x = spans b.x0 b.x1 p in
      let low = lt b.y0 (whole (q + 1)) in
      let high = lt (whole q) b.y1 in
      let m : T (x && (low && high)) = touches_meets b p q t in
      let y : T (low && high) = and_r x (low && high) m in
      let f = row_upper b.y0 band (row_count height band) q o.y0 B (omega arith) (is_true low (and_l low high y)) in
      let e = final_lower b.y1 band (row_count height band) q o.y1 B (omega arith) (row_below height band q B Q) (is_true high (and_r low high y)) in
      and_from _ _ (and_from _ _ (is_true (positive_area b) (touches_area b p q t)) (le-leb _ _ f)) (le-leb _ _ e)

  pub touch_row : (boxes : List Rect) (i : ℕ) (d : Rect) → i < length boxes → Ordered (get_or boxes i d) → T (touches (get_or boxes i d) p q) → In i (row_list band (row_count height band) boxes (q / band))
  touch_row boxes i d h o t = row_has band (row_count height band) boxes (q / band) i d h (touch_stands (get_or boxes i d) o t)
