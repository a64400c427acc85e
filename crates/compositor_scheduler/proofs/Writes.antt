-- The turns of the loop that writes a band's regions as words and counts their pixels. Assumes nothing.
use mathlib.Core.Path.{◌≡◌, refl, sym, ap, ◌∙◌}
use mathlib.Core.List.{List, [], ◌∷◌, ◌++◌, map, append_assoc, append-nil, map-append}
use Prim.Native.Nat.{ℕ, ◌+◌, ◌-◌, ◌*◌, ◌/◌, ◌%◌, ◌≤◌, ◌<◌}
use native.Mathlib.Nat.{mul-le-mul}
use native.Mathlib.Numerals.{add-one}
use native.Mathlib.Omega.{arith}
use lib.ListN.{length, take, drop, get_or, length-append, length-map, length-drop, drop_of_length-le}
use lib.Seq.{take_all, take_at, drop_at, drop-drop, take-suc, length-take-le}
use Rattle.compositor_device.specs.declared.DeviceRegion.{DeviceRegion}
use Rattle.compositor_device.specs.Region.{area}
use Rattle.compositor_bands.specs.Keys.{from_yx}
use Rattle.compositor_scheduler.specs.Schedule.{pixels_of, words_of_region, words_of_regions}

-- ---- words and pixels of lists

pub words_append : (a b : List DeviceRegion) → words_of_regions (a ++ b) ≡ words_of_regions a ++ words_of_regions b
unfolding words_of_regions
words_append [] b = refl
words_append (r ∷ a) b = ap (λ t. r.x ∷ r.y ∷ r.width ∷ r.height ∷ t) (words_append a b)

pub words_length : (l : List DeviceRegion) → length (words_of_regions l) ≡ 4 * length l
unfolding words_of_regions
words_length [] = refl
words_length (r ∷ l) = omega (arith, words_length l)

pub pixels_append : (a b : List DeviceRegion) → pixels_of (a ++ b) ≡ pixels_of a + pixels_of b
unfolding pixels_of
pixels_append [] b = omega arith
pixels_append (r ∷ a) b = omega (arith, pixels_append a b)

words_none : words_of_regions [] ≡ []
unfolding words_of_regions
words_none = refl

pixels_none : pixels_of [] ≡ 0
unfolding pixels_of
pixels_none = refl

words_one : (r : DeviceRegion) → words_of_regions (r ∷ []) ≡ words_of_region r
unfolding words_of_regions
words_one r = refl

pixels_one : (r : DeviceRegion) → pixels_of (r ∷ []) ≡ area r
unfolding pixels_of
pixels_one r = omega arith

-- a region whose sides are below 65,536 has at most 2 ^ 32 pixels
area_most : (k : ℕ) → area (from_yx k) ≤ 4294967296
unfolding from_yx
area_most k =
    let w : k / 65536 % 65536 ≤ 65536 = omega arith in
    let h : k % 65536 ≤ 65536 = omega arith in
    mul-le-mul w h

pub area_few : (k : ℕ) (r : DeviceRegion) → r ≡ from_yx k → (p : ℕ) → p ≡ area r → p ≤ 4294967296
area_few k r e p q = rw (q, e) (area_most k)

pub pixels_most : (ks : List ℕ) → pixels_of (map from_yx ks) ≤ 4294967296 * length ks
unfolding pixels_of
pixels_most [] = omega arith
pixels_most (k ∷ ks) = omega (arith, area_most k, pixels_most ks)

-- ---- words in the middle

-- behind the front of n words, k words take the place of the next k
pub put_behind : (front old : List ℕ) (ws out : List ℕ) (n k : ℕ) → length front ≡ n → out ≡ front ++ drop n old → take n out ++ ws ++ drop (n + k) out ≡ front ++ ws ++ drop (n + k) old
put_behind front old ws out n k e is =
    let t : take n out ≡ front = ap (take n) is ∙ take_at front (drop n old) n e in
    let d : drop (n + k) out ≡ drop (n + k) old = sym (drop-drop k n out) ∙ ap (drop k) (ap (drop n) is ∙ drop_at front (drop n old) n e) ∙ drop-drop k n old in
    λ i. t i ++ ws ++ d i

-- ---- words in front of a part, which goes on to the end

module _ (out : List ℕ) (k : ℕ) where
  part_is : take (length out - k) (drop k out) ≡ drop k out
  part_is = take_all (length out - k) (drop k out) (omega (arith, length-drop k out))

  pub part_length : length (take (length out - k) (drop k out)) ≡ length out - k
  part_length = ap length part_is ∙ length-drop k out

  none_behind : drop (length out - k) (drop k out) ≡ []
  none_behind = drop_of_length-le (drop k out) (omega (arith, length-drop k out))

  part_back : (part : List ℕ) → take k out ++ (part ++ drop (length out - k) (drop k out)) ≡ take k out ++ part
  part_back part = ap (λ t. take k out ++ (part ++ t)) none_behind ∙ ap (λ t. take k out ++ t) (append-nil part)

  pub put_length : (part : List ℕ) → length part ≡ length (take (length out - k) (drop k out)) → k ≤ length out → length (take k out ++ (part ++ drop (length out - k) (drop k out))) ≡ length out
  put_length part e h = ap length (part_back part) ∙ length-append (take k out) part ∙ omega (arith, length-take-le k out h, e, part_length)

-- words of n regions in front of it are words in the whole
pub put_part : (out ws part : List ℕ) (at m n : ℕ) → n ≡ m → part ≡ ws ++ drop (4 * n) (take (length out - 4 * at) (drop (4 * at) out)) → take (4 * at) out ++ (part ++ drop (length out - 4 * at) (drop (4 * at) out)) ≡ take (4 * at) out ++ ws ++ drop (4 * (at + m)) out
put_part out ws part at m n q e =
    let z : 4 * at + 4 * n ≡ 4 * (at + m) = omega arith in
    part_back out (4 * at) part
    ∙ ap (λ t. take (4 * at) out ++ t) (e ∙ ap (λ t. ws ++ drop (4 * n) t) (part_is out (4 * at)) ∙ ap (λ t. ws ++ t) (drop-drop (4 * n) (4 * at) out ∙ ap (λ (k : ℕ). drop k out) z))
    ∙ sym (append_assoc (take (4 * at) out) ws (drop (4 * (at + m)) out))

-- ---- the loop

-- Of the regions of `work`, i are written to out, and their pixels counted.
pub record Writing (work old out : List ℕ) (pixels i : ℕ) : Type 0 where
  pub passed : i ≤ length work
  pub same_length : length out ≡ length old
  pub pixels_are : pixels ≡ pixels_of (map from_yx (take i work))
  pub words_are : out ≡ words_of_regions (map from_yx (take i work)) ++ drop (4 * i) old

pub write_start : (work old : List ℕ) → Writing work old old 0 0
write_start work old = record {
  passed = omega arith;
  same_length = refl;
  pixels_are = sym pixels_none;
  words_are = sym (ap (λ t. t ++ old) words_none);
}

module _ {work old out : List ℕ} {pixels i : ℕ} (w : Writing work old out pixels i) where
  taken : length (map from_yx (take i work)) ≡ i
  taken = length-map (take i work) from_yx ∙ length-take-le i work w.passed

  -- the pixels so far
  pub pixels_low : pixels ≤ 4294967296 * i
  pixels_low = omega (arith, w.pixels_are, pixels_most (take i work), length-take-le i work w.passed)

  module _ (less : i < length work) (r : DeviceRegion) (is : r ≡ from_yx (get_or work i 0)) where
    one_more : map from_yx (take (i + 1) work) ≡ map from_yx (take i work) ++ (r ∷ [])
    one_more = rw (add-one i) (ap (map from_yx) (take-suc work i 0 less) ∙ map-append from_yx (take i work) (get_or work i 0 ∷ []) ∙ ap (λ t. map from_yx (take i work) ++ (t ∷ [])) (sym is))

    words_more : words_of_regions (map from_yx (take (i + 1) work)) ≡ words_of_regions (map from_yx (take i work)) ++ words_of_region r
    words_more = ap words_of_regions one_more ∙ words_append (map from_yx (take i work)) (r ∷ []) ∙ ap (λ t. words_of_regions (map from_yx (take i work)) ++ t) (words_one r)

    pub write_next : (next : List ℕ) → length next ≡ length out → next ≡ take (4 * i) out ++ words_of_region r ++ drop (4 * i + 4) out → (p : ℕ) → p ≡ area r → Writing work old next (pixels + p) (i + 1)
    write_next next len e p ep =
        let n : length (words_of_regions (map from_yx (take i work))) ≡ 4 * i = omega (arith, words_length (map from_yx (take i work)), taken) in
        let z : 4 * (i + 1) ≡ 4 * i + 4 = omega arith in
        record {
          passed = omega arith;
          same_length = len ∙ w.same_length;
          pixels_are = omega (arith, w.pixels_are, ep, pixels_one r, ap pixels_of one_more, pixels_append (map from_yx (take i work)) (r ∷ []));
          words_are = e ∙ rw z (put_behind (words_of_regions (map from_yx (take i work))) old (words_of_region r) out (4 * i) 4 n w.words_are
              ∙ ap (λ t. t ++ drop (4 * i + 4) old) (sym words_more));
        }

  pub write_end : length work ≤ i → (pixels ≡ pixels_of (map from_yx work)) × (out ≡ words_of_regions (map from_yx work) ++ drop (4 * length work) old)
  write_end past =
      let e : i ≡ length work = omega (arith, w.passed) in
      let a : take i work ≡ work = take_all i work past in
      (w.pixels_are ∙ ap (λ t. pixels_of (map from_yx t)) a, w.words_are ∙ (λ j. words_of_regions (map from_yx (a j)) ++ drop (4 * e j) old))
