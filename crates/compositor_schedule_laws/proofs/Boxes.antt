-- The laws of a schedule for lists of boxes. Assumes nothing.
use Rattle.std.proofs.Common.{Option, Some, None}
use mathlib.Core.Path.{◌≡◌, refl, sym, ap, ◌∙◌, subst}
use mathlib.Core.Logic.{inl, inr, ⊎_elim}
use mathlib.Core.Bool.{true, ◌&&◌}
use mathlib.Core.List.{List, [], ◌∷◌, map}
use Prim.Native.Nat.{ℕ, ◌+◌, ◌-◌, ◌*◌, ◌^◌, ◌≤◌, ◌<◌, min}
use native.Mathlib.Nat.{le_antisymm, add-mul, one-mul}
use native.Mathlib.Omega.{arith}
use lib.Dec.{leb, ltb, leb→le, ltb→lt}
use lib.Ieee.Fits.{and_l, and_r}
use Rattle.base_lists.specs.Members.{All, Any, In}
use Rattle.base_lists.proofs.Members.{all_map, all_both, all_any}
use Rattle.base_lists.proofs.Bools.{holds}
use Rattle.base_ieee.proofs.Rank.{unit, unit_pos, rank_whole, whole_ordered}
use Rattle.base_floats.specs.Whole.{whole, floor, ceil}
use Rattle.base_floats.proofs.Wholes.{floor_at_most, floor_at_least, ceil_at_most, floor_ceil}
use Rattle.kurbo_geometry.specs.declared.Rect.{Rect}
use Rattle.kurbo_geometry.specs.Boxes.{same_edges}
use Rattle.kurbo_geometry.specs.Pixels.{meets}
use Rattle.kurbo_geometry.proofs.Edges.{Ordered}
use Rattle.kurbo_geometry.proofs.Values.{edges_same}
use Rattle.compositor_device.specs.declared.DeviceRegion.{DeviceRegion}
use Rattle.compositor_device.specs.Region.{right, bottom, between, from_logical, has}
use Rattle.compositor_device.proofs.Regions.{between_yes, has_meets, from_logical_same}
use Rattle.compositor_bands.specs.Bands.{unless_nothing, regions_of}
use Rattle.compositor_scheduler.specs.Schedule.{schedule_of, schedule}
use Rattle.compositor_schedule_laws.specs.Placed.{Covers, OnScreen, Placed, Schedulable, box_of}
use Rattle.compositor_schedule_laws.proofs.AllBands.{schedulable, schedule_covers}
use Rattle.compositor_schedule_laws.proofs.Alike.{schedule_alike}
use Rattle.compositor_schedule_laws.proofs.Own.{own}
use Rattle.compositor_screen.specs.declared.Screen.{Screen}
use Rattle.compositor_screen.proofs.Laws.{Fits}

-- ---- the regions of boxes

any_behind : (P : DeviceRegion → Type 0) (c : Option DeviceRegion) (l : List DeviceRegion) → Any P l → Any P (unless_nothing c l)
unfolding Any
any_behind P (Some r) l h = inr h
any_behind P None l h = h

pub has_covers : (c : Option DeviceRegion) (p q : ℕ) (l : List DeviceRegion) → has c p q ≡ true → Any (Covers p q) (unless_nothing c l)
unfolding Any
has_covers (Some r) p q l e =
    let A = leb r.x p in
    let B = ltb p (right r) in
    let C = leb r.y q in
    let D = ltb q (bottom r) in
    let t = holds ((A && B) && (C && D)) e in
    inl (record { from_left = leb→le r.x p (and_l A B (and_l (A && B) (C && D) t)); to_right = ltb→lt p (right r) (and_r A B (and_l (A && B) (C && D) t)); from_top = leb→le r.y q (and_l C D (and_r (A && B) (C && D) t)); to_bottom = ltb→lt q (bottom r) (and_r C D (and_r (A && B) (C && D) t)) })
has_covers None p q l e = let z : ◌≡◌ {A = ℕ} 0 1 = cc in absurd (omega arith)

-- C1 of a list: a pixel of the screen that some box meets is covered by some region
pub regions_cover : (w h p q : ℕ) → w ≤ 32768 → h ≤ 32768 → p < w → q < h → (rects : List Rect) → Any (λ r. Ordered r × (meets r p q ≡ true)) rects → Any (Covers p q) (regions_of w h rects)
unfolding Any regions_of
regions_cover w h p q wh hh pw qh [] a = absurd a
regions_cover w h p q wh hh pw qh (r ∷ rects) a = ⊎_elim
    (λ x. has_covers (from_logical r w h) p q (regions_of w h rects) (has_meets r w h p q x.0 (omega arith) (omega arith) pw qh ∙ x.1))
    (λ x. any_behind (Covers p q) (from_logical r w h) (regions_of w h rects) (regions_cover w h p q wh hh pw qh rects x))
    a

region_in : (w h : ℕ) (g : DeviceRegion) (rects : List Rect) → Any (λ r. Some g ≡ from_logical r w h) rects → In g (regions_of w h rects)
unfolding Any regions_of
region_in w h g [] a = absurd a
region_in w h g (r ∷ rects) a = ⊎_elim
    (λ e. subst (λ c. In g (unless_nothing c (regions_of w h rects))) e (inl refl))
    (λ x. any_behind (λ s. g ≡ s) (from_logical r w h) (regions_of w h rects) (region_in w h g rects x))
    a

-- boxes each of which converts like one of another list have only regions of that list
regions_in : (w h : ℕ) (rs ss : List Rect) → All (λ r. Any (λ s. from_logical r w h ≡ from_logical s w h) ss) rs → All (λ g. In g (regions_of w h ss)) (regions_of w h rs)
unfolding All regions_of
regions_in w h [] ss a = tt
regions_in w h (r ∷ rs) ss a = go (from_logical r w h) a.0 (regions_in w h rs ss a.1)
  where
    go : (c : Option DeviceRegion) → Any (λ s. c ≡ from_logical s w h) ss → All (λ g. In g (regions_of w h ss)) (regions_of w h rs) → All (λ g. In g (regions_of w h ss)) (unless_nothing c (regions_of w h rs))
    go (Some g) x y = (region_in w h g ss x, y)
    go None x y = y

module _ {screen : Screen} (s : Fits screen) where
  -- S1: a pixel of the screen that some box meets is in some scheduled region
  pub boxes_covered : (p q : ℕ) → p < screen.width → q < screen.height → (rects : List Rect) → Any (λ r. Ordered r × (meets r p q ≡ true)) rects → Any (Covers p q) (schedule screen rects)
  boxes_covered p q pw qh rects a = schedule_covers s p q (regions_of screen.width screen.height rects) pw qh (regions_cover screen.width screen.height p q s.width_most s.height_most pw qh rects a)

  -- the same, where no edge of any box is a NaN
  pub boxes_covered_all : (p q : ℕ) → p < screen.width → q < screen.height → (rects : List Rect) → All Ordered rects → Any (λ r. meets r p q ≡ true) rects → Any (Covers p q) (schedule screen rects)
  boxes_covered_all p q pw qh rects o a = boxes_covered p q pw qh rects (all_any Ordered (λ r. meets r p q ≡ true) (λ r. Ordered r × (meets r p q ≡ true)) (λ r x y. (x, y)) rects o a)

  -- S2, S3 and the order, whatever the boxes are
  pub boxes_schedulable : (rects : List Rect) → Schedulable screen (schedule screen rects)
  boxes_schedulable rects = schedulable s (regions_of screen.width screen.height rects)

  -- S4: boxes count by what they convert to, in any order and any number
  pub boxes_alike : (rs ss : List Rect) → All (λ r. Any (λ q. from_logical r screen.width screen.height ≡ from_logical q screen.width screen.height) ss) rs → All (λ q. Any (λ r. from_logical q screen.width screen.height ≡ from_logical r screen.width screen.height) rs) ss → schedule screen rs ≡ schedule screen ss
  boxes_alike rs ss there back = schedule_alike s (regions_of screen.width screen.height rs) (regions_of screen.width screen.height ss) (regions_in screen.width screen.height rs ss there) (regions_in screen.width screen.height ss rs back)

  -- and so by value: -0 is 0
  convert_alike : (rs ss : List Rect) → All Ordered rs → All Ordered ss → All (λ r. Any (λ q. same_edges r q ≡ true) ss) rs → All (λ r. Any (λ q. from_logical r screen.width screen.height ≡ from_logical q screen.width screen.height) ss) rs
  convert_alike rs ss f g a = all_both Ordered (λ r. Any (λ q. same_edges r q ≡ true) ss) (λ r. Any (λ q. from_logical r screen.width screen.height ≡ from_logical q screen.width screen.height) ss)
      (λ r o x. all_any Ordered (λ q. same_edges r q ≡ true) (λ q. from_logical r screen.width screen.height ≡ from_logical q screen.width screen.height) (λ q u e. from_logical_same r q screen.width screen.height o u (edges_same r q o u e)) ss g x) rs f a

  pub boxes_equal : (rs ss : List Rect) → All Ordered rs → All Ordered ss → All (λ r. Any (λ q. same_edges r q ≡ true) ss) rs → All (λ q. Any (λ r. same_edges q r ≡ true) rs) ss → schedule screen rs ≡ schedule screen ss
  boxes_equal rs ss f g there back = boxes_alike rs ss (convert_alike rs ss f g there) (convert_alike ss rs g f back)

-- ---- a region as a box of whole numbers converts to itself

floor_of : (p : ℕ) → p ≤ 65535 → floor (whole p) ≡ p
floor_of p h =
    let k : p ≤ 2 ^ 53 = omega arith in
    let r = rank_whole p k in
    let u = unit_pos in
    let e : (p + 1) * unit ≡ p * unit + unit = add-mul p 1 unit ∙ ap (λ t. p * unit + t) (one-mul unit) in
    le_antisymm (floor_at_most (whole p) p (whole_ordered p k) (omega arith)) (floor_at_least (whole p) p (whole_ordered p k) (omega arith))

ceil_of : (p : ℕ) → p ≤ 65535 → ceil (whole p) ≡ p
ceil_of p h =
    let k : p ≤ 2 ^ 53 = omega arith in
    let r = rank_whole p k in
    let f = floor_of p h in
    let c = floor_ceil (whole p) in
    le_antisymm (ceil_at_most (whole p) p (whole_ordered p k) (omega arith)) (omega arith)

module _ (w h : ℕ) (wh : w ≤ 32768) (hh : h ≤ 32768) where
  region_back : (r : DeviceRegion) (l : List DeviceRegion) → OnScreen w h r → unless_nothing (from_logical (box_of r) w h) l ≡ r ∷ l
  region_back r l o =
      let x : floor (whole r.x) ≡ r.x = floor_of r.x (omega (arith, o.across)) in
      let y : floor (whole r.y) ≡ r.y = floor_of r.y (omega (arith, o.down)) in
      let u : min (ceil (whole (right r))) w ≡ right r = omega (arith, o.across, ceil_of (right r) (omega (arith, o.across))) in
      let v : min (ceil (whole (bottom r))) h ≡ bottom r = omega (arith, o.down, ceil_of (bottom r) (omega (arith, o.down))) in
      let e : right r - r.x ≡ r.width = omega arith in
      let f : bottom r - r.y ≡ r.height = omega arith in
      ap (λ c. unless_nothing c l) ((λ k. between (x k) (y k) (u k) (v k)) ∙ sym (between_yes r.x r.y (right r) (bottom r) (omega (arith, o.some_width)) (omega (arith, o.some_height))))
      ∙ (λ k. record { x = r.x; y = r.y; width = e k; height = f k } ∷ l)

  pub regions_back : (l : List DeviceRegion) → All (OnScreen w h) l → regions_of w h (map box_of l) ≡ l
  unfolding All regions_of
  regions_back [] a = refl
  regions_back (r ∷ l) a = region_back r (regions_of w h (map box_of l)) a.0 ∙ ap (λ t. r ∷ t) (regions_back l a.1)

module _ {screen : Screen} (s : Fits screen) where
  -- S5: a schedulable list is the schedule of its regions' boxes
  pub boxes_own : (l : List DeviceRegion) → Schedulable screen l → schedule screen (map box_of l) ≡ l
  boxes_own l S = ap (schedule_of screen) (regions_back screen.width screen.height s.width_most s.height_most l (all_map (Placed screen) (OnScreen screen.width screen.height) (λ r p. p.on) l S.placed)) ∙ own s l S

  -- scheduling the boxes of a schedule gives it back
  pub boxes_twice : (rects : List Rect) → schedule screen (map box_of (schedule screen rects)) ≡ schedule screen rects
  boxes_twice rects = boxes_own (schedule screen rects) (boxes_schedulable s rects)
