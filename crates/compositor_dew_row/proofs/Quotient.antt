-- A quotient of f64 rounded once, and rounded down, is the exact quotient rounded down, where the divisor and the result are small. Assumes nothing.
use mathlib.Core.Path.{◌≡◌, refl, sym, ap, ◌∙◌, subst}
use mathlib.Core.Logic.{◌⊎◌, inl, inr, ⊎_elim}
use mathlib.Core.Bool.{Bool, true, false, not, ◌&&◌, true≢false}
use Prim.Native.Nat.{ℕ, zero, suc, ◌+◌, ◌*◌, ◌/◌, ◌%◌, ◌^◌, ◌≤◌, ◌<◌, min, compare, Ordering}
use native.Mathlib.Nat.{le_trans, le_of_eq, le_of_lt, lt_of_lt_of_le, lt_of_le_of_lt, mul_assoc, mul_left_comm, mul_right_comm, mul-one, one-mul, zero-mul, mul-pos, add-mul, suc-mul, mul-le-mul, mul-le-mul_right, mul-lt-mul_of_pos_right, lt_of_mul-lt-mul_right, div-add-mod', div-lt_iff_lt-mul, div-mul-le_self, lt-div-mul-add}
use native.Mathlib.Omega.{arith}
use lib.IntN.{ℤ, pos, negsuc}
use lib.Arith.{lt_of_le-ne}
use lib.Dec.{T, is_le, compare_is_eq, leb, ltb, eqb, leb→le, nleb→lt, eqb→eq, eqb_refl, ltb→lt}
use borrow.Author.Tests.{ne_eqb}
use lib.Pow.{pow-add, pow_pos, pow_mono}
use lib.Ieee.{Float, nan, inf, fin, binary64, low, up, down, size, nearest, fits, le, div, round, of_int}
use lib.Ieee.Digits.{size_reaches}
use lib.Ieee.Fits.{nearest-le, and_l, and_r, and_i, down_pos, round-fits}
use lib.Ieee.Exact.{HasValue}
use lib.Ieee.Back.{round_whole}
use lib.Ieee.Nearest.{closest}
use lib.Ieee.Order.{drop, kept, round_mono}
use lib.Ieee.Scale.{grid, overflow, round_val, round_same}
use Rattle.base_lists.proofs.Picks.{le_or_lt}
use Rattle.base_ieee.proofs.Rank.{le_not_nan, le_rank, ordered, not_nan, rank_whole, whole_ordered}
use Rattle.base_floats.specs.Whole.{whole, floor}
use Rattle.base_floats.proofs.Wholes.{floor_at_least}

-- ---- rounded up only from the half on

abbrev Compared : Ordering → ℕ → ℕ → Type 0
Compared Ordering.lt a b = a < b
Compared Ordering.eq a b = a ≡ b
Compared Ordering.gt a b = b < a

compared : (a b : ℕ) → Compared (compare a b) a b
compared a b = go (compare a b) (leb→le a b) (nleb→lt a b) (eqb→eq a b) (λ (e : a ≡ b). subst (λ (x : ℕ). T (eqb a x)) e (eqb_refl a))
  where
    go : (o : Ordering) → (T (is_le o) → a ≤ b) → (T (not (is_le o)) → b < a) → (T (compare_is_eq o) → a ≡ b) → (a ≡ b → T (compare_is_eq o)) → Compared o a b
    go Ordering.lt h k e n = lt_of_le-ne (h tt) n
    go Ordering.eq h k e n = e tt
    go Ordering.gt h k e n = k tt

rounds_up : (w r u : ℕ) → (nearest w (compare (r * 2) u) ≡ w) ⊎ (u ≤ r * 2)
rounds_up w r u = go (compare (r * 2) u) (compared (r * 2) u)
  where
    go : (o : Ordering) → Compared o (r * 2) u → (nearest w o ≡ w) ⊎ (u ≤ r * 2)
    go Ordering.lt c = inl refl
    go Ordering.eq c = inr (le_of_eq (sym c))
    go Ordering.gt c = inr (le_of_lt c)

stays_below : (w r u n X : ℕ) → w * u + r ≡ n → X + n * 2 ^ 53 ≤ X * 2 ^ 53 → n < X → 2 ^ 52 * u < X → nearest w (compare (r * 2) u) * u < X
stays_below w r u n X e f g k = ⊎_elim
    (λ (z : nearest w (compare (r * 2) u) ≡ w). rw z (omega arith))
    (λ (z : u ≤ r * 2).
    let m : nearest w (compare (r * 2) u) * u ≤ suc w * u = mul-le-mul_right u (nearest-le w (compare (r * 2) u)) in
    omega (arith, suc-mul w u))
    (rounds_up w r u)

-- ---- a / c, below K by K / 2 ^ 53 at least, rounds to less than K: in units of 1 / L

module _ (a c K L : ℕ) (C : 0 < c) (KP : 0 < K) (LP : 2 ^ 53 ≤ L) (far : K * c + a * 2 ^ 53 ≤ K * c * 2 ^ 53) (less : a < K * c) where
  whole_less : a * L / c < K * L
  whole_less = (div-lt_iff_lt-mul C).1 (lt_of_lt_of_le (mul-lt-mul_of_pos_right less (omega arith)) (le_of_eq (mul_right_comm K c L)))

  digits : 2 ^ 52 * 2 ^ drop 53 (a * L) c < K * L
  digits = ⊎_elim
      (λ (z : size (a * L / c) ≤ 53).
      let k : drop 53 (a * L) c ≡ 0 = omega arith in
      let l : 1 * L ≤ K * L = mul-le-mul_right L KP in
      rw k (omega (arith, l, one-mul L)))
      (λ (z : 53 < size (a * L / c)).
      let r : 2 ^ (52 + drop 53 (a * L) c) ≤ a * L / c = size_reaches (a * L / c) (52 + drop 53 (a * L) c) (omega arith) in
      lt_of_le_of_lt (le_trans (le_of_eq (sym (pow-add 2 52 (drop 53 (a * L) c)))) r) whole_less)
      (le_or_lt (size (a * L / c)) 53)

  pub grid_less : kept 53 (a * L) c * 2 ^ drop 53 (a * L) c < K * L
  grid_less =
      let n = a * L in
      let k = drop 53 (a * L) c in
      let u = c * 2 ^ k in
      let f : K * c * L + a * L * 2 ^ 53 ≤ K * c * L * 2 ^ 53 = le_trans (le_of_eq (sym (add-mul (K * c) (a * 2 ^ 53) L ∙ ap (λ (z : ℕ). K * c * L + z) (mul_right_comm a (2 ^ 53) L)))) (le_trans (mul-le-mul_right L far) (le_of_eq (mul_right_comm (K * c) (2 ^ 53) L))) in
      let g : a * L < K * c * L = mul-lt-mul_of_pos_right less (omega arith) in
      let h : 2 ^ 52 * (c * 2 ^ k) < K * c * L = lt_of_le_of_lt (le_of_eq (sym (mul_assoc (2 ^ 52) c (2 ^ k)) ∙ mul_right_comm (2 ^ 52) c (2 ^ k))) (lt_of_lt_of_le (mul-lt-mul_of_pos_right digits C) (le_of_eq (mul_right_comm K L c))) in
      let t : closest (a * L) (c * 2 ^ k) * (c * 2 ^ k) < K * c * L = stays_below (a * L / (c * 2 ^ k)) (a * L % (c * 2 ^ k)) (c * 2 ^ k) (a * L) (K * c * L) (div-add-mod' (a * L) (c * 2 ^ k)) f g h in
      lt_of_mul-lt-mul_right c (lt_of_le_of_lt (le_of_eq (mul_right_comm (closest (a * L) (c * 2 ^ k)) (2 ^ k) c ∙ mul_assoc (closest (a * L) (c * 2 ^ k)) c (2 ^ k))) (lt_of_lt_of_le t (le_of_eq (mul_right_comm K c L))))

-- a value of fewer than K * L units of 1 / L lies below K
value_floor : (z : Float) (g K L : ℕ) → 0 < L → HasValue z false g L → g < K * L → floor z < K
unfolding floor
value_floor nan g K L LP v h = absurd v
value_floor (inf s) g K L LP v h = absurd v
value_floor (fin true m e) g K L LP v h = absurd (true≢false v.0)
value_floor (fin false m e) g K L LP v h =
    (div-lt_iff_lt-mul (down_pos e)).1
    (lt_of_mul-lt-mul_right L (lt_of_le_of_lt (le_of_eq v.1) (lt_of_lt_of_le (mul-lt-mul_of_pos_right h (down_pos e)) (le_of_eq (mul_right_comm K L (down e))))))

pub upper : (a c K : ℕ) → 0 < c → 0 < K → K ≤ 2 ^ 53 → K * c + a * 2 ^ 53 ≤ K * c * 2 ^ 53 → a < K * c → floor (round binary64 false a c) < K
upper a c K C KP KB far less =
    let g : grid binary64 a c < K * 2 ^ low binary64 = grid_less a c K (2 ^ low binary64) C KP (pow_mono {i = 53} {j = 1074} (omega arith)) far less in
    let o : K * 2 ^ low binary64 ≤ overflow binary64 = le_trans (mul-le-mul_right (2 ^ low binary64) (le_trans KB (pow_mono {i = 53} {j = 1024} (omega arith)))) (le_of_eq (sym (pow-add 2 1024 1074))) in
    value_floor (round binary64 false a c) (grid binary64 a c) K (2 ^ low binary64) (pow_pos 1074) (round_val binary64 a c (lt_of_lt_of_le g o)) g

-- ---- from below

pub lower : (a c j : ℕ) → 0 < c → j ≤ 2 ^ 53 → j * c ≤ a → j ≤ floor (round binary64 false a c)
unfolding of_int
lower a c j C J h =
    let t : T (le (round binary64 false j 1) (round binary64 false a c)) = round_mono binary64 j 1 a c (omega arith) C (le_trans h (le_of_eq (sym (mul-one a)))) in
    let f : T (ordered (round binary64 false a c)) = and_i (fits binary64 (round binary64 false a c)) (not_nan (round binary64 false a c)) (round-fits binary64 false a c) (le_not_nan (round binary64 false j 1) (round binary64 false a c) t) in
    floor_at_least (round binary64 false a c) j f (le_trans (le_of_eq (sym (rank_whole j J))) (le_rank (round binary64 false j 1) (round binary64 false a c) (whole_ordered j J) f t))

-- ---- the quotient of two values

div_by : (m : ℕ) (e : ℤ) (b : ℕ) (z : Float) → 0 < b → HasValue z false b 1 → div binary64 (fin false m e) z ≡ round binary64 false (m * up e) (b * down e)
unfolding div
div_by m e b nan bp v = absurd v
div_by m e b (inf s) bp v = absurd v
div_by m e b (fin true n d) bp v = absurd (true≢false v.0)
div_by m e b (fin false n d) bp v =
    let E : n * up d ≡ b * down d = sym (mul-one (n * up d)) ∙ v.1 in
    let P : 0 < b * down d = mul-pos bp (down_pos d) in
    let nz : n ≡ 0 → ⊥ = λ z. let y : n * up d ≡ 0 = ap (λ (k : ℕ). k * up d) z ∙ zero-mul (up d) in omega arith in
    rw (ne_eqb n 0 nz)
    (round_same binary64 false (m * up e * down d) (n * up d * down e) (m * up e) (b * down e) (mul-pos (lt_of_lt_of_le P (le_of_eq (sym E))) (down_pos e)) (mul-pos bp (down_pos e))
    (mul_assoc (m * up e) (down d) (b * down e) ∙ ap (λ (k : ℕ). m * up e * k) (mul_left_comm (down d) b (down e) ∙ sym (mul_assoc b (down d) (down e)) ∙ ap (λ (k : ℕ). k * down e) (sym E))))

-- ---- a value below a whole number N is below it by N / 2 ^ 53 at least

gap_at : (a X : ℕ) → a < X → (X ≤ 2 ^ 53) ⊎ (a < 2 ^ 53) → X + a * 2 ^ 53 ≤ X * 2 ^ 53
gap_at a X h o = ⊎_elim
    (λ (k : X ≤ 2 ^ 53). omega arith)
    (λ (k : a < 2 ^ 53). ⊎_elim (λ (l : X ≤ 2 ^ 53). omega arith) (λ (l : 2 ^ 53 < X). omega arith) (le_or_lt X (2 ^ 53)))
    o

fits_small : (s : Bool) (m : ℕ) (e : ℤ) → T (fits binary64 (fin s m e)) → m < 2 ^ 53
unfolding fits
fits_small s zero e t = omega arith
fits_small s (suc m) e t =
    let A = eqb (suc m % 2) 1 in let B = ltb (suc m) (2 ^ 53) in let C = leb (down e) (2 ^ 1074) in let D = ltb (suc m * up e) (2 ^ 1024 * down e) in
    ltb→lt (suc m) (2 ^ 53) (and_r A B (and_l (A && B) C (and_l (A && B && C) D t)))

gap : (m : ℕ) (e : ℤ) (N : ℕ) → T (fits binary64 (fin false m e)) → N ≤ 2 ^ 53 → m * up e < N * down e → N * down e + m * up e * 2 ^ 53 ≤ N * down e * 2 ^ 53
gap m (pos k) N t h l = gap_at (m * 2 ^ k) (N * 1) l (inl (omega (arith, mul-one N)))
gap m (negsuc k) N t h l = gap_at (m * 1) (N * 2 ^ suc k) l (inr (omega (arith, mul-one m, fits_small false m (negsuc k) t)))

-- ---- the row

module _ (m : ℕ) (e : ℤ) (b r : ℕ) (t : T (fits binary64 (fin false m e))) (bp : 0 < b) (bb : b ≤ 32768) (rb : r < 32768) where
  abbrev q : ℕ
  q = m * up e / down e / b

  below_q : q * (b * down e) ≤ m * up e
  below_q = le_trans (le_of_eq (sym (mul_assoc q b (down e)))) (le_trans (mul-le-mul_right (down e) (div-mul-le_self (m * up e / down e) b)) (div-mul-le_self (m * up e) (down e)))

  above_q : m * up e < suc q * b * down e
  above_q =
      let x : m * up e / down e < q * b + b = lt-div-mul-add bp in
      let y : m * up e < m * up e / down e * down e + down e = lt-div-mul-add (down_pos e) in
      let z : suc (m * up e / down e) * down e ≤ (q * b + b) * down e = mul-le-mul_right (down e) x in
      lt_of_lt_of_le y (le_trans (le_of_eq (sym (suc-mul (m * up e / down e) (down e)))) (le_trans z (le_of_eq (ap (λ (k : ℕ). k * down e) (sym (suc-mul q b))))))

  small : q < r → suc q * b ≤ 2 ^ 53
  small h = le_trans (mul-le-mul {n₁ = suc q} {m₁ = b} {n₂ = 32768} {m₂ = 32768} (omega arith) bb) (omega arith)

  from_above : q < r → floor (round binary64 false (m * up e) (b * down e)) < suc q
  from_above h =
      let g = gap m e (suc q * b) t (small h) above_q in
      let z : suc q * b * down e ≡ suc q * (b * down e) = mul_assoc (suc q) b (down e) in
      upper (m * up e) (b * down e) (suc q) (mul-pos bp (down_pos e)) (omega arith) (omega arith)
      (subst (λ (k : ℕ). k + m * up e * 2 ^ 53 ≤ k * 2 ^ 53) z g) (subst (λ (k : ℕ). m * up e < k) z above_q)

  from_below : min q r ≤ floor (round binary64 false (m * up e) (b * down e))
  from_below = lower (m * up e) (b * down e) (min q r) (mul-pos bp (down_pos e)) (omega arith) (le_trans (mul-le-mul_right (b * down e) (omega arith)) below_q)

  pub quotient : min (floor (div binary64 (fin false m e) (whole b))) r ≡ min (floor (fin false m e) / b) r
  unfolding floor of_int
  quotient =
      let d : div binary64 (fin false m e) (round binary64 false b 1) ≡ round binary64 false (m * up e) (b * down e) = div_by m e b (round binary64 false b 1) bp (round_whole binary64 false b (omega arith)) in
      ap (λ (z : Float). min (floor z) r) d ∙ both
    where
      both : min (floor (round binary64 false (m * up e) (b * down e))) r ≡ min q r
      both = ⊎_elim
          (λ (h : r ≤ q). omega (arith, from_below))
          (λ (h : q < r). omega (arith, from_below, from_above h))
          (le_or_lt r q)
