-- What holds of regions that are joined from left to right; regions with the same (x, y) may stand in any order. Assumes nothing.
use mathlib.Core.Path.{◌≡◌, refl, sym, ap, ◌∙◌}
use mathlib.Core.Logic.{◌⊎◌, inl, inr, ⊎_elim}
use mathlib.Core.List.{List, [], ◌∷◌}
use Prim.Native.Nat.{ℕ, ◌+◌, ◌≤◌, ◌<◌}
use native.Mathlib.Omega.{arith}
use borrow.Author.Tests.{le-leb, lt-leb}
use lib.ListN.{length}
use Rattle.base_lists.specs.Members.{All, Any, Pairs}
use Rattle.base_lists.proofs.Picks.{by_le}
use Rattle.base_lists.proofs.Members.{all_map, pairs_with}
use Rattle.compositor_device.specs.declared.DeviceRegion.{DeviceRegion}
use Rattle.compositor_device.specs.Region.{right, Fit, union}
use Rattle.compositor_device.proofs.Overlaps.{union_fit, union_right, union_comm, union_swap}
use Rattle.compositor_bands.specs.Bands.{insert_by, sort_by, xy, yx, join_to, join, merge_overlapping, Gap}
use Rattle.compositor_bands.specs.Keys.{pack, xy_key, yx_key, from_xy}
use Rattle.compositor_bands.proofs.Sorted.{all_sort, rises_sort, Rises, Alike, alike_sort}
use Rattle.compositor_bands.proofs.Keyed.{from_xy_lem, sort_over}

-- the second of the two starts no further to the left
abbrev pub ByX : DeviceRegion → DeviceRegion → Type 0
ByX r s = r.x ≤ s.x

-- ---- one turn

pub join_in : (o r : DeviceRegion) (l : List DeviceRegion) → r.x ≤ right o → join_to o (r ∷ l) ≡ join_to (union o r) l
unfolding join_to
join_in o r l h = simp (le-leb r.x (right o) h)

pub join_out : (o r : DeviceRegion) (l : List DeviceRegion) → right o < r.x → join_to o (r ∷ l) ≡ o ∷ join_to r l
unfolding join_to
join_out o r l h = simp (lt-leb r.x (right o) h)

-- ---- every region of a join, and some region

module _ (P : DeviceRegion → Type 0) (both : (o r : DeviceRegion) → P o → P r → P (union o r)) where
  all_join_to : (o : DeviceRegion) (l : List DeviceRegion) → P o → All P l → All P (join_to o l)
  unfolding All join_to
  all_join_to o [] p h = (p, tt)
  all_join_to o (r ∷ l) p h = by_le r.x (right o)
      (λ g. rw (le-leb r.x (right o) g) (all_join_to (union o r) l (both o r p h.0) h.1))
      (λ g. rw (lt-leb r.x (right o) g) (p, all_join_to r l h.0 h.1))

  -- what two regions hand on to their union, all hand on to the join
  pub all_join : (l : List DeviceRegion) → All P l → All P (join l)
  unfolding All join
  all_join [] h = tt
  all_join (r ∷ l) h = all_join_to r l h.0 h.1

module _ (P : DeviceRegion → Type 0) (first : (o r : DeviceRegion) → P o → P (union o r)) (second : (o r : DeviceRegion) → P r → P (union o r)) where
  any_join_to : (o : DeviceRegion) (l : List DeviceRegion) → P o ⊎ Any P l → Any P (join_to o l)
  unfolding Any join_to
  any_join_to o [] h = h
  any_join_to o (r ∷ l) h = by_le r.x (right o)
      (λ g. rw (le-leb r.x (right o) g) (any_join_to (union o r) l (⊎_elim (λ p. inl (first o r p)) (λ q. ⊎_elim (λ p. inl (second o r p)) (λ p. inr p) q) h)))
      (λ g. rw (lt-leb r.x (right o) g) (⊎_elim (λ p. inl p) (λ q. inr (any_join_to r l q)) h))

  -- what each of two regions hands on to their union, some region hands on to the join
  pub any_join : (l : List DeviceRegion) → Any P l → Any P (join l)
  unfolding Any join
  any_join [] h = absurd h
  any_join (r ∷ l) h = any_join_to r l h

-- ---- a column between each two

starts_from : (x : ℕ) (o r : DeviceRegion) → x ≤ o.x → x ≤ r.x → x ≤ (union o r).x
unfolding union
starts_from x o r h g = omega arith

pub left_kept : (o r q : DeviceRegion) → o.x ≤ q.x → (union o r).x ≤ q.x
unfolding union
left_kept o r q h = omega arith

join_to_gap : (o : DeviceRegion) (l : List DeviceRegion) → All (ByX o) l → Pairs ByX l → Pairs Gap (join_to o l)
unfolding All Pairs join_to
join_to_gap o [] f s = (tt, tt)
join_to_gap o (r ∷ l) f s = by_le r.x (right o)
    (λ g. rw (le-leb r.x (right o) g) (join_to_gap (union o r) l (all_map (ByX o) (ByX (union o r)) (left_kept o r) l f.1) s.1))
    (λ g. rw (lt-leb r.x (right o) g)
    (all_map (ByX r) (Gap o) (λ q x. omega arith) (join_to r l) (all_join_to (ByX r) (starts_from r.x) r l (omega arith) s.0), join_to_gap r l s.0 s.1))

-- regions that ascend by x join to regions with a column between each two
pub join_gap : (l : List DeviceRegion) → Pairs ByX l → Pairs Gap (join l)
unfolding Pairs join
join_gap [] s = tt
join_gap (r ∷ l) s = join_to_gap r l s.0 s.1

few_from : (w a : ℕ) (l : List DeviceRegion) → a ≤ w → All (λ r. a ≤ r.x) l → All (λ r. r.x < w) l → Pairs Gap l → length l + a ≤ w
unfolding All Pairs
few_from w a [] h f b g = omega arith
few_from w a (r ∷ l) h f b g =
    let c : r.x < w = b.0 in
    let k : length l + (r.x + 1) ≤ w = few_from w (r.x + 1) l (omega arith) (all_map (Gap r) (λ s. r.x + 1 ≤ s.x) (λ s q. omega arith) l g.0) b.1 g.1 in
    let x : a ≤ r.x = f.0 in
    omega arith

-- there are no more of them than columns
pub few : (w : ℕ) (l : List DeviceRegion) → All (λ r. r.x < w) l → Pairs Gap l → length l ≤ w
few w l b g =
    let k : length l + 0 ≤ w = few_from w 0 l (omega arith) (all_map (λ r. r.x < w) (λ r. 0 ≤ r.x) (λ r h. omega arith) l b) b g in
    omega arith

-- ---- ties

xy_key_x : (q r : DeviceRegion) → Fit q → Fit r → xy_key q < xy_key r → q.x ≤ r.x
unfolding pack
xy_key_x q r f g h = omega (arith, f.wide, f.high, g.wide, g.high, h)

-- a region that starts left of none may go in at its place by the whole key, or in front: the join is the same
insert_front : (o r : DeviceRegion) (l : List DeviceRegion) → Fit r → All Fit l → All (ByX r) l → join_to o (insert_by xy_key r l) ≡ join_to o (r ∷ l)
unfolding insert_by All
insert_front o r [] f a x = refl
insert_front o r (q ∷ l) f a x = by_le (xy_key r) (xy_key q)
    (λ h. rw (le-leb (xy_key r) (xy_key q) h) refl)
    (λ h. let e : q.x ≡ r.x = omega (arith, xy_key_x q r a.0 f h, x.0) in
    rw (lt-leb (xy_key r) (xy_key q) h) (by_le q.x (right o)
    (λ g. join_in o q (insert_by xy_key r l) g ∙ insert_front (union o q) r l f a.1 x.1
    ∙ join_in (union o q) r l (omega (arith, union_right o q)) ∙ ap (λ t. join_to t l) (union_swap o q r)
    ∙ sym (join_in o r (q ∷ l) (omega arith) ∙ join_in (union o r) q l (omega (arith, union_right o r))))
    (λ g. join_out o q (insert_by xy_key r l) g ∙ ap (λ t. o ∷ t)
    (insert_front q r l f a.1 x.1 ∙ join_in q r l (omega arith) ∙ ap (λ t. join_to t l) (union_comm q r) ∙ sym (join_in r q l (omega arith)))
    ∙ sym (join_out o r (q ∷ l) (omega arith)))))

insert_first : (r : DeviceRegion) (l : List DeviceRegion) → Fit r → All Fit l → All (ByX r) l → join (insert_by xy_key r l) ≡ join_to r l
unfolding insert_by All join
insert_first r [] f a x = refl
insert_first r (q ∷ l) f a x = by_le (xy_key r) (xy_key q)
    (λ h. rw (le-leb (xy_key r) (xy_key q) h) refl)
    (λ h. let e : q.x ≡ r.x = omega (arith, xy_key_x q r a.0 f h, x.0) in
    rw (lt-leb (xy_key r) (xy_key q) h)
    (insert_front q r l f a.1 x.1 ∙ join_in q r l (omega arith) ∙ ap (λ t. join_to t l) (union_comm q r) ∙ sym (join_in r q l (omega arith))))

sorted_to : (o : DeviceRegion) (l : List DeviceRegion) → All Fit l → Pairs ByX l → join_to o (sort_by xy_key l) ≡ join_to o l
unfolding sort_by All Pairs join_to
sorted_to o [] a s = refl
sorted_to o (r ∷ l) a s =
    insert_front o r (sort_by xy_key l) a.0 (all_sort xy_key Fit l a.1) (all_sort xy_key (ByX r) l s.0)
    ∙ by_le r.x (right o)
    (λ h. join_in o r (sort_by xy_key l) h ∙ sorted_to (union o r) l a.1 s.1 ∙ sym (join_in o r l h))
    (λ h. join_out o r (sort_by xy_key l) h ∙ ap (λ t. o ∷ t) (sorted_to r l a.1 s.1) ∙ sym (join_out o r l h))

-- regions that ascend by x join as their sort by the whole key does
order_free : (l : List DeviceRegion) → All Fit l → Pairs ByX l → join (sort_by xy_key l) ≡ join l
unfolding sort_by All Pairs join join_to
order_free [] a s = refl
order_free (r ∷ l) a s = insert_first r (sort_by xy_key l) a.0 (all_sort xy_key Fit l a.1) (all_sort xy_key (ByX r) l s.0) ∙ sorted_to r l a.1 s.1

-- a number whose order is one by x
abbrev pub Leftward : (DeviceRegion → ℕ) → Type 0
Leftward key = (q r : DeviceRegion) → Fit q → Fit r → key q ≤ key r → q.x ≤ r.x

pub xy_leftward : Leftward xy
xy_leftward q r f g h = omega (arith, f.high, g.high)

pub xy_key_leftward : Leftward xy_key
unfolding pack
xy_key_leftward q r f g h = omega (arith, f.wide, f.high, g.wide, g.high, h)

-- sorted by such a number, regions ascend by x
pub sort_by_x : (key : DeviceRegion → ℕ) → Leftward key → (l : List DeviceRegion) → All Fit l → Pairs ByX (sort_by key l)
sort_by_x key left l f = pairs_with Fit (Rises key) ByX left _ (all_sort key Fit l f) (rises_sort key l)

-- whichever such number they are sorted by, they join alike: ties by (x, y) do not matter
pub ties_free : (key : DeviceRegion → ℕ) → Leftward key → (l : List DeviceRegion) → All Fit l → join (sort_by key l) ≡ join (sort_by xy_key l)
ties_free key left l f =
    sym (order_free (sort_by key l) (all_sort key Fit l f) (sort_by_x key left l f))
    ∙ ap join (sort_over xy_key from_xy from_xy_lem key l f)

-- ---- the order of the output: in a band no two regions start in one column, so (y, x) decides

yx_alike : (r s : DeviceRegion) → Fit r → Fit s → Gap r s → Alike yx yx_key r s
unfolding pack
yx_alike r s f g h = by_le (yx r) (yx s)
    (λ k. let m : yx_key r ≤ yx_key s = omega (arith, f.wide, f.high, g.wide, g.high) in le-leb (yx r) (yx s) k ∙ sym (le-leb (yx_key r) (yx_key s) m))
    (λ k. let m : yx_key s < yx_key r = omega (arith, f.wide, f.high, g.wide, g.high) in lt-leb (yx r) (yx s) k ∙ sym (lt-leb (yx_key r) (yx_key s) m))

-- the code's way to merge: by whole keys
pub merge_by_keys : (l : List DeviceRegion) → All Fit l → merge_overlapping l ≡ sort_by yx_key (join (sort_by xy_key l))
unfolding merge_overlapping
merge_by_keys l f =
    alike_sort yx yx_key (join (sort_by xy l))
    (pairs_with Fit Gap (Alike yx yx_key) yx_alike _ (all_join Fit union_fit _ (all_sort xy Fit l f)) (join_gap _ (sort_by_x xy xy_leftward l f)))
    ∙ ap (sort_by yx_key) (ties_free xy xy_leftward l f)
