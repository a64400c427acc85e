-- IEEE 754 orders the binary64 values that are no NaN. `rank` counts each of them as a natural number, in units of the smallest positive value, so
-- that every question of order becomes one of natural numbers, which `omega` answers. Assumes nothing.
use mathlib.Core.Path.{◌≡◌, refl, sym, ap, ◌∙◌, subst}
use mathlib.Core.Bool.{Bool, true, false, not, ◌&&◌, ◌||◌, true≢false}
use Prim.Native.Nat.{ℕ, zero, suc, ◌+◌, ◌-◌, ◌*◌, ◌/◌, ◌%◌, ◌^◌, ◌≤◌, ◌<◌}
use native.Mathlib.Nat.{le_trans, le_of_lt, le_of_eq, lt_of_lt_of_le, lt_of_le_of_lt, not-le_of_lt, mul_comm, mul_assoc, mul_right_comm, mul-one, one-mul, zero-mul, mul-pos, mul-le-mul_right, mul-lt-mul_of_pos_right, lt_of_mul-lt-mul_right, eq_of_mul-eq-mul_right, sub-add_cancel, add-mul, le-div_iff_mul-le, mul-div_cancel}
use native.Mathlib.Omega.{arith}
use lib.IntN.{ℤ, pos, negsuc}
use lib.Dec.{T, leb, ltb, eqb, leb→le, ltb→lt, lt→ltb, nltb→le, eqb→eq}
use lib.Pow.{pow-add, pow_pos, pow-lt}
use lib.Ieee.{Float, nan, inf, fin, binary64, up, down, below, level, fits, is_nan, lt, eq, le, of_int, round}
use lib.Ieee.Fits.{and_l, and_r, up_pos, down_pos, of_int-fits, eq→eqb, and_i}
use lib.Ieee.Exact.{HasValue}
use lib.Ieee.Back.{round_whole}
use lib.Ieee.Nearest.{div_same}
use lib.Ieee.Scale.{finite}
use borrow.Author.Tests.{ltb-true, ltb-false, lt-ltb, le-ltb, eq-eqb, ne_eqb, eqb-true}
use Rattle.base_lists.proofs.Bools.{same_bool}

-- A whole number p is p * unit units; every finite magnitude is below `middle` units. Both stay shut: as numerals they would swamp `omega`.
unfoldable pub unit : ℕ
unit = 2 ^ 1074

unfoldable pub middle : ℕ
middle = 2 ^ 2098

-- 2 ^ e in units
unfoldable pub scale : ℤ → ℕ
scale (pos k) = 2 ^ k * unit
scale (negsuc k) = 2 ^ (1074 - suc k)

abbrev pub signed : Bool → ℕ → ℕ
signed false n = middle + n
signed true n = middle - n

-- Zeros stand in the middle, minus infinity at 0, infinity at twice the middle. A NaN has no rank, and is given 0.
unfoldable pub rank : Float → ℕ
rank nan = 0
rank (inf s) = signed s middle
rank (fin s m e) = signed s (m * scale e)

-- ---- the scale of a value that fits
pub unit_pos : 0 < unit
unfolding unit
unit_pos = pow_pos 1074

pub scale_pos : (e : ℤ) → 0 < scale e
unfolding scale
scale_pos (pos k) = mul-pos (pow_pos k) unit_pos
scale_pos (negsuc k) = pow_pos (1074 - suc k)

pow_le_back : (i j : ℕ) → 2 ^ i ≤ 2 ^ j → i ≤ j
pow_le_back i j h = nltb→le j i (go (ltb j i) (ltb→lt j i))
  where
    go : (b : Bool) → (T b → j < i) → T (not b)
    go true k = absurd (not-le_of_lt (pow-lt (k tt)) h)
    go false k = tt

scale_law : (e : ℤ) → down e ≤ 2 ^ 1074 → scale e * down e ≡ up e * unit
unfolding scale unit
scale_law (pos k) h = mul-one (2 ^ k * unit)
scale_law (negsuc k) h =
    sym (pow-add 2 (1074 - suc k) (suc k)) ∙ ap (λ (x : ℕ). 2 ^ x) (sub-add_cancel (pow_le_back (suc k) 1074 h)) ∙ sym (one-mul (2 ^ 1074))

-- ---- what a finite value that fits has
small_exp : (s : Bool) (m : ℕ) (e : ℤ) → T (fits binary64 (fin s m e)) → down e ≤ 2 ^ 1074
unfolding fits
small_exp s zero e t = le_trans (le_trans (le_of_eq (sym (one-mul (down e)))) (mul-le-mul_right (down e) (up_pos e))) (le_trans (le_of_eq (eqb→eq (up e * down e) 1 t)) (pow_pos 1074))
small_exp s (suc m) e t =
    let a : Bool = eqb (suc m % 2) 1 && ltb (suc m) (2 ^ 53) in
    let b : Bool = leb (down e) (2 ^ 1074) in
    let c : Bool = ltb (suc m * up e) (2 ^ 1024 * down e) in
    leb→le (down e) (2 ^ 1074) (and_r a b (and_l (a && b) c t))

-- m * 2 ^ e, in units, against the library's fraction of it
pub magnitude_law : (s : Bool) (m : ℕ) (e : ℤ) → T (fits binary64 (fin s m e)) → m * scale e * down e ≡ m * up e * unit
magnitude_law s m e t = mul_assoc m (scale e) (down e) ∙ ap (λ (x : ℕ). m * x) (scale_law e (small_exp s m e t)) ∙ sym (mul_assoc m (up e) unit)

pub middle_is : middle ≡ 2 ^ 1024 * unit
unfolding middle unit
middle_is = refl

pub middle_pos : 0 < middle
unfolding middle
middle_pos = pow_pos 2098

pub magnitude_lt : (s : Bool) (m : ℕ) (e : ℤ) → T (fits binary64 (fin s m e)) → m * scale e < middle
unfolding fits
magnitude_lt s zero e t = lt_of_le_of_lt (le_of_eq (zero-mul (scale e))) middle_pos
magnitude_lt s (suc m) e t =
    let a : Bool = eqb (suc m % 2) 1 && ltb (suc m) (2 ^ 53) in
    let b : Bool = leb (down e) (2 ^ 1074) in
    let c : Bool = ltb (suc m * up e) (2 ^ 1024 * down e) in
    let h : suc m * up e < 2 ^ 1024 * down e = ltb→lt (suc m * up e) (2 ^ 1024 * down e) (and_r (a && b) c t) in
    let k : suc m * up e * unit < 2 ^ 1024 * down e * unit = mul-lt-mul_of_pos_right h unit_pos in
    lt_of_lt_of_le (lt_of_mul-lt-mul_right (down e) (lt_of_le_of_lt (le_of_eq (magnitude_law s (suc m) e t)) (lt_of_lt_of_le k (le_of_eq (mul_right_comm (2 ^ 1024) (down e) unit))))) (le_of_eq (sym middle_is))

-- a / D and x / unit are one number, and so are b / D and y / unit: then a, b and x, y stand in the same order
module _ (a b x y D : ℕ) (dp : 0 < D) (p : x * D ≡ a * unit) (q : y * D ≡ b * unit) where
  pub up_lt : a < b → x < y
  up_lt h = lt_of_mul-lt-mul_right D (lt_of_le_of_lt (le_of_eq p) (lt_of_lt_of_le (mul-lt-mul_of_pos_right h unit_pos) (le_of_eq (sym q))))

  pub down_lt : x < y → a < b
  down_lt h = lt_of_mul-lt-mul_right unit (lt_of_le_of_lt (le_of_eq (sym p)) (lt_of_lt_of_le (mul-lt-mul_of_pos_right h dp) (le_of_eq q)))

  up_eq : a ≡ b → x ≡ y
  up_eq h = eq_of_mul-eq-mul_right D dp x y (p ∙ ap (λ (z : ℕ). z * unit) h ∙ sym q)

  down_eq : x ≡ y → a ≡ b
  down_eq h = eq_of_mul-eq-mul_right unit unit_pos a b (sym p ∙ ap (λ (z : ℕ). z * D) h ∙ q)

-- the cross products of two values, against their magnitudes in units
cross : (m : ℕ) (e d : ℤ) → m * scale e * down e ≡ m * up e * unit → m * scale e * (down e * down d) ≡ m * up e * down d * unit
cross m e d h = sym (mul_assoc (m * scale e) (down e) (down d)) ∙ ap (λ (x : ℕ). x * down d) h ∙ mul_right_comm (m * up e) unit (down d)

cross' : (n : ℕ) (e d : ℤ) → n * scale d * down d ≡ n * up d * unit → n * scale d * (down e * down d) ≡ n * up d * down e * unit
cross' n e d h = ap (λ (x : ℕ). n * scale d * x) (mul_comm (down e) (down d)) ∙ cross n d e h

-- the order of ranks
below_plus_plus : (a b x y : ℕ) → (a < b → x < y) → (x < y → a < b) → ltb a b ≡ ltb (middle + x) (middle + y)
below_plus_plus a b x y f g = same_bool (ltb a b) (ltb (middle + x) (middle + y)) (λ t. let h = f (ltb→lt a b t) in omega (arith, lt→ltb)) (λ t. lt→ltb a b (g (omega (arith, ltb→lt))))

below_minus_plus : (a b x y : ℕ) → x < middle → (0 < a + b → 0 < x + y) → (0 < x + y → 0 < a + b) → ltb 0 (a + b) ≡ ltb (middle - x) (middle + y)
below_minus_plus a b x y l f g = same_bool (ltb 0 (a + b)) (ltb (middle - x) (middle + y)) (λ t. let h = f (ltb→lt 0 (a + b) t) in omega (arith, lt→ltb)) (λ t. lt→ltb 0 (a + b) (g (omega (arith, ltb→lt))))

below_plus_minus : (x y : ℕ) → false ≡ ltb (middle + x) (middle - y)
below_plus_minus x y = same_bool false (ltb (middle + x) (middle - y)) (λ t. absurd t) (λ t. let h = ltb→lt (middle + x) (middle - y) t in omega arith)

below_minus_minus : (a b x y : ℕ) → x < middle → (b < a → y < x) → (y < x → b < a) → ltb b a ≡ ltb (middle - x) (middle - y)
below_minus_minus a b x y l f g = same_bool (ltb b a) (ltb (middle - x) (middle - y)) (λ t. let h = f (ltb→lt b a t) in omega (arith, lt→ltb)) (λ t. lt→ltb b a (g (omega (arith, ltb→lt))))

-- the order and the equality of two finite values, by their magnitudes in units
module _ (a b x y D : ℕ) (dp : 0 < D) (p : x * D ≡ a * unit) (q : y * D ≡ b * unit) (xl : x < middle) (yl : y < middle) where
  by_rank_lt : (s t : Bool) → below s a t b ≡ ltb (signed s x) (signed t y)
  by_rank_lt false false = below_plus_plus a b x y (up_lt a b x y D dp p q) (down_lt a b x y D dp p q)
  by_rank_lt false true = below_plus_minus x y
  by_rank_lt true false =
      let z : 0 * D ≡ 0 * unit = zero-mul D ∙ sym (zero-mul unit) in
      let w : (x + y) * D ≡ (a + b) * unit = add-mul x y D ∙ ap (λ (k : ℕ). k + y * D) p ∙ ap (λ (k : ℕ). a * unit + k) q ∙ sym (add-mul a b unit) in
      below_minus_plus a b x y xl (up_lt 0 (a + b) 0 (x + y) D dp z w) (down_lt 0 (a + b) 0 (x + y) D dp z w)
  by_rank_lt true true = below_minus_minus a b x y xl (up_lt b a y x D dp q p) (down_lt b a y x D dp q p)

  by_rank_eq : (s t : Bool) → level s a t b ≡ eqb (signed s x) (signed t y)
  by_rank_eq s t = same_bool (level s a t b) (eqb (signed s x) (signed t y)) (there s t) (back s t)
    where
      zero_of : (u v : ℕ) → u * D ≡ v * unit → v ≡ 0 → u ≡ 0
      zero_of u v r z = eq_of_mul-eq-mul_right D dp u 0 (r ∙ ap (λ (w : ℕ). w * unit) z ∙ zero-mul unit ∙ sym (zero-mul D))

      zero_back : (u v : ℕ) → u * D ≡ v * unit → u ≡ 0 → v ≡ 0
      zero_back u v r z = eq_of_mul-eq-mul_right unit unit_pos v 0 (sym r ∙ ap (λ (w : ℕ). w * D) z ∙ zero-mul D ∙ sym (zero-mul unit))

      zeros : x ≡ 0 → y ≡ 0 → T (eqb a b && eqb a 0)
      zeros u v =
          let az = zero_back x a p u in
          let bz = zero_back y b q v in
          and_i (eqb a b) (eqb a 0) (eq→eqb (az ∙ sym bz)) (eq→eqb az)

      both_zero : T (eqb a b && eqb a 0) → T (eqb (middle + x) (middle - y))
      both_zero h =
          let e = eqb→eq a b (and_l (eqb a b) (eqb a 0) h) in
          let z = eqb→eq a 0 (and_r (eqb a b) (eqb a 0) h) in
          let u = zero_of x a p z in
          let v = zero_of y b q (sym e ∙ z) in
          let g : middle + x ≡ middle - y = omega arith in
          eq→eqb g

      sym_test : T (eqb (middle + x) (middle - y)) → T (eqb (middle - x) (middle + y))
      sym_test h =
          let e = eqb→eq (middle + x) (middle - y) h in
          let g : middle - x ≡ middle + y = omega arith in
          eq→eqb g

      there : (s t : Bool) → T (level s a t b) → T (eqb (signed s x) (signed t y))
      there false false h = eq→eqb (ap (λ (k : ℕ). middle + k) (up_eq a b x y D dp p q (eqb→eq a b (and_l (eqb a b) true h))))
      there true true h = eq→eqb (ap (λ (k : ℕ). middle - k) (up_eq a b x y D dp p q (eqb→eq a b (and_l (eqb a b) true h))))
      there false true h = both_zero h
      there true false h = sym_test (both_zero h)

      back : (s t : Bool) → T (eqb (signed s x) (signed t y)) → T (level s a t b)
      back false false h = and_i (eqb a b) true (eq→eqb (down_eq a b x y D dp p q (let e = eqb→eq (middle + x) (middle + y) h in omega arith))) tt
      back true true h = and_i (eqb a b) true (eq→eqb (down_eq a b x y D dp p q (let e = eqb→eq (middle - x) (middle - y) h in omega arith))) tt
      back false true h = zeros (let e = eqb→eq (middle + x) (middle - y) h in omega arith) (let e = eqb→eq (middle + x) (middle - y) h in omega arith)
      back true false h = zeros (let e = eqb→eq (middle - x) (middle + y) h in omega arith) (let e = eqb→eq (middle - x) (middle + y) h in omega arith)

finite_lt : (s : Bool) (m : ℕ) (e : ℤ) (t : Bool) (n : ℕ) (d : ℤ) → T (fits binary64 (fin s m e)) → T (fits binary64 (fin t n d)) → lt (fin s m e) (fin t n d) ≡ ltb (rank (fin s m e)) (rank (fin t n d))
unfolding lt rank
finite_lt s m e t n d p q =
    by_rank_lt (m * up e * down d) (n * up d * down e) (m * scale e) (n * scale d) (down e * down d) (mul-pos (down_pos e) (down_pos d)) (cross m e d (magnitude_law s m e p)) (cross' n e d (magnitude_law t n d q)) (magnitude_lt s m e p) (magnitude_lt t n d q) s t

finite_eq : (s : Bool) (m : ℕ) (e : ℤ) (t : Bool) (n : ℕ) (d : ℤ) → T (fits binary64 (fin s m e)) → T (fits binary64 (fin t n d)) → eq (fin s m e) (fin t n d) ≡ eqb (rank (fin s m e)) (rank (fin t n d))
unfolding eq rank
finite_eq s m e t n d p q =
    by_rank_eq (m * up e * down d) (n * up d * down e) (m * scale e) (n * scale d) (down e * down d) (mul-pos (down_pos e) (down_pos d)) (cross m e d (magnitude_law s m e p)) (cross' n e d (magnitude_law t n d q)) (magnitude_lt s m e p) (magnitude_lt t n d q) s t

-- ---- for all that fit and are no NaN
no_less : (a b : ℕ) → b ≤ a → false ≡ ltb a b
no_less a b h = same_bool false (ltb a b) (λ t. absurd t) (λ t. let k = ltb→lt a b t in let n : ⊥ = omega arith in absurd n)

less : (a b : ℕ) → a < b → true ≡ ltb a b
less a b h = same_bool true (ltb a b) (λ t. lt→ltb a b h) (λ t. tt)

lt_cases : (x y : Float) → T (fits binary64 x) → T (fits binary64 y) → T (not (is_nan x)) → T (not (is_nan y)) → lt x y ≡ ltb (rank x) (rank y)
unfolding lt rank is_nan
lt_cases nan y p q n k = absurd n
lt_cases (inf s) nan p q n k = absurd k
lt_cases (inf false) (inf false) p q n k = no_less (middle + middle) (middle + middle) (omega arith)
lt_cases (inf false) (inf true) p q n k = no_less (middle + middle) (middle - middle) (omega arith)
lt_cases (inf true) (inf false) p q n k = less (middle - middle) (middle + middle) (let h = middle_pos in omega arith)
lt_cases (inf true) (inf true) p q n k = no_less (middle - middle) (middle - middle) (omega arith)
lt_cases (inf false) (fin false m e) p q n k = no_less (middle + middle) (middle + m * scale e) (let h = magnitude_lt false m e q in omega arith)
lt_cases (inf false) (fin true m e) p q n k = no_less (middle + middle) (middle - m * scale e) (omega arith)
lt_cases (inf true) (fin false m e) p q n k = less (middle - middle) (middle + m * scale e) (let h = middle_pos in omega arith)
lt_cases (inf true) (fin true m e) p q n k = less (middle - middle) (middle - m * scale e) (let h = magnitude_lt true m e q in omega arith)
lt_cases (fin s m e) nan p q n k = absurd k
lt_cases (fin false m e) (inf false) p q n k = less (middle + m * scale e) (middle + middle) (let h = magnitude_lt false m e p in omega arith)
lt_cases (fin true m e) (inf false) p q n k = less (middle - m * scale e) (middle + middle) (let h = middle_pos in omega arith)
lt_cases (fin false m e) (inf true) p q n k = no_less (middle + m * scale e) (middle - middle) (omega arith)
lt_cases (fin true m e) (inf true) p q n k = no_less (middle - m * scale e) (middle - middle) (omega arith)
lt_cases (fin s m e) (fin t n' d) p q n k = finite_lt s m e t n' d p q

-- ---- the values that the order is about: they fit, and are no NaN
abbrev pub not_nan : Float → Bool
not_nan nan = false
not_nan (inf s) = true
not_nan (fin s m e) = true

abbrev pub ordered : Float → Bool
ordered x = fits binary64 x && not_nan x

pub ordered_fits : (x : Float) → T (ordered x) → T (fits binary64 x)
ordered_fits x t = and_l (fits binary64 x) (not_nan x) t

pub ordered_not_nan : (x : Float) → T (ordered x) → T (not_nan x)
ordered_not_nan x t = and_r (fits binary64 x) (not_nan x) t

-- by what a need is handed of a parameter
pub ordered_of : (x : Float) → fits binary64 x ≡ true → T (not_nan x) → T (ordered x)
ordered_of x e t = and_i (fits binary64 x) (not_nan x) (subst T (sym e) tt) t

pub no_nan : (x : Float) → T (not_nan x) → T (not (is_nan x))
unfolding is_nan
no_nan nan t = t
no_nan (inf s) t = tt
no_nan (fin s m e) t = tt

pub finite_not_nan : (x : Float) → T (finite x) → T (not_nan x)
finite_not_nan nan t = t
finite_not_nan (inf s) t = tt
finite_not_nan (fin s m e) t = tt

pub rank_lt : (x y : Float) → T (ordered x) → T (ordered y) → lt x y ≡ ltb (rank x) (rank y)
rank_lt x y p q = lt_cases x y (ordered_fits x p) (ordered_fits y q) (no_nan x (and_r (fits binary64 x) (not_nan x) p)) (no_nan y (and_r (fits binary64 y) (not_nan y) q))

differ : (a b : ℕ) → (a ≡ b → ⊥) → false ≡ eqb a b
differ a b f = sym (ne_eqb a b f)

agree : (a : ℕ) → true ≡ eqb a a
agree a = sym (eq-eqb a a refl)

pub rank_eq : (x y : Float) → T (ordered x) → T (ordered y) → eq x y ≡ eqb (rank x) (rank y)
unfolding eq rank
rank_eq nan y p q = absurd (and_r (fits binary64 nan) false p)
rank_eq (inf s) nan p q = absurd (and_r (fits binary64 nan) false q)
rank_eq (inf true) (inf true) p q = agree (middle - middle)
rank_eq (inf false) (inf false) p q = agree (middle + middle)
rank_eq (inf true) (inf false) p q = let h = middle_pos in differ (middle - middle) (middle + middle) (λ e. omega arith)
rank_eq (inf false) (inf true) p q = let h = middle_pos in differ (middle + middle) (middle - middle) (λ e. omega arith)
rank_eq (inf true) (fin true n d) p q = let h = magnitude_lt true n d (ordered_fits (fin true n d) q) in differ (middle - middle) (middle - n * scale d) (λ e. omega arith)
rank_eq (inf true) (fin false n d) p q = let h = middle_pos in differ (middle - middle) (middle + n * scale d) (λ e. omega arith)
rank_eq (inf false) (fin true n d) p q = let h = middle_pos in differ (middle + middle) (middle - n * scale d) (λ e. omega arith)
rank_eq (inf false) (fin false n d) p q = let h = magnitude_lt false n d (ordered_fits (fin false n d) q) in differ (middle + middle) (middle + n * scale d) (λ e. omega arith)
rank_eq (fin s m e) nan p q = absurd (and_r (fits binary64 nan) false q)
rank_eq (fin true m e) (inf true) p q = let h = magnitude_lt true m e (ordered_fits (fin true m e) p) in differ (middle - m * scale e) (middle - middle) (λ w. omega arith)
rank_eq (fin true m e) (inf false) p q = let h = middle_pos in differ (middle - m * scale e) (middle + middle) (λ w. omega arith)
rank_eq (fin false m e) (inf true) p q = let h = middle_pos in differ (middle + m * scale e) (middle - middle) (λ w. omega arith)
rank_eq (fin false m e) (inf false) p q = let h = magnitude_lt false m e (ordered_fits (fin false m e) p) in differ (middle + m * scale e) (middle + middle) (λ w. omega arith)
rank_eq (fin s m e) (fin t n d) p q = finite_eq s m e t n d (ordered_fits (fin s m e) p) (ordered_fits (fin t n d) q)

-- what passes a test is no NaN
pub lt_right : (x y : Float) → lt x y ≡ true → T (not_nan y)
unfolding lt
lt_right nan nan e = subst T (sym e) tt
lt_right (inf s) nan e = subst T (sym e) tt
lt_right (fin s m d) nan e = subst T (sym e) tt
lt_right nan (inf t) e = tt
lt_right (inf s) (inf t) e = tt
lt_right (fin s m d) (inf t) e = tt
lt_right nan (fin t n g) e = tt
lt_right (inf s) (fin t n g) e = tt
lt_right (fin s m d) (fin t n g) e = tt

-- a test, as a fact on ranks, and back
pub lt_ranks : (x y : Float) → T (ordered x) → T (ordered y) → lt x y ≡ true → rank x < rank y
lt_ranks x y p q e = ltb-true (rank x) (rank y) (sym (rank_lt x y p q) ∙ e)

pub not_lt_ranks : (x y : Float) → T (ordered x) → T (ordered y) → lt x y ≡ false → rank y ≤ rank x
not_lt_ranks x y p q e = ltb-false (rank x) (rank y) (sym (rank_lt x y p q) ∙ e)

pub ranks_lt : (x y : Float) → T (ordered x) → T (ordered y) → rank x < rank y → lt x y ≡ true
ranks_lt x y p q h = rank_lt x y p q ∙ lt-ltb (rank x) (rank y) h

pub ranks_not_lt : (x y : Float) → T (ordered x) → T (ordered y) → rank y ≤ rank x → lt x y ≡ false
ranks_not_lt x y p q h = rank_lt x y p q ∙ le-ltb (rank x) (rank y) h

pub eq_ranks : (x y : Float) → T (ordered x) → T (ordered y) → eq x y ≡ true → rank x ≡ rank y
eq_ranks x y p q e = eqb-true (rank x) (rank y) (sym (rank_eq x y p q) ∙ e)

pub ranks_eq : (x y : Float) → T (ordered x) → T (ordered y) → rank x ≡ rank y → eq x y ≡ true
ranks_eq x y p q h = rank_eq x y p q ∙ eq-eqb (rank x) (rank y) h

-- at most, which is below or equal
pub le_not_nan : (x y : Float) → T (le x y) → T (not_nan y)
unfolding le lt eq
le_not_nan nan nan t = t
le_not_nan (inf s) nan t = t
le_not_nan (fin s m e) nan t = t
le_not_nan nan (inf s) t = tt
le_not_nan (inf r) (inf s) t = tt
le_not_nan (fin r m e) (inf s) t = tt
le_not_nan nan (fin s n d) t = tt
le_not_nan (inf r) (fin s n d) t = tt
le_not_nan (fin r m e) (fin s n d) t = tt

pub le_rank : (x y : Float) → T (ordered x) → T (ordered y) → T (le x y) → rank x ≤ rank y
unfolding le
le_rank x y f g t = go (lt x y) (eq x y) (rank_lt x y f g) (rank_eq x y f g) t
  where
    go : (p q : Bool) → p ≡ ltb (rank x) (rank y) → q ≡ eqb (rank x) (rank y) → T (p || q) → rank x ≤ rank y
    go true q e h u = le_of_lt (ltb-true (rank x) (rank y) (sym e))
    go false true e h u = le_of_eq (eqb-true (rank x) (rank y) (sym h))
    go false false e h u = absurd u

-- a finite value lies above minus infinity
pub finite_above : (x : Float) → T (ordered x) → T (finite x) → 0 < rank x
unfolding rank
finite_above nan t u = absurd u
finite_above (inf s) t u = absurd u
finite_above (fin false m e) t u = omega (arith, middle_pos)
finite_above (fin true m e) t u = omega (arith, magnitude_lt true m e (ordered_fits (fin true m e) t))

-- ---- integers
at_one : (x : Float) (p : ℕ) → T (fits binary64 x) → HasValue x false p 1 → rank x ≡ middle + p * unit
unfolding rank
at_one nan p t v = absurd v
at_one (inf s) p t v = absurd v
at_one (fin true m e) p t v = absurd (true≢false v.0)
at_one (fin false m e) p t v =
    let k : m * up e ≡ p * down e = sym (mul-one (m * up e)) ∙ v.1 in
    ap (λ (z : ℕ). middle + z) (eq_of_mul-eq-mul_right (down e) (down_pos e) (m * scale e) (p * unit) (magnitude_law false m e t ∙ ap (λ (z : ℕ). z * unit) k ∙ mul_right_comm p (down e) unit))

pub rank_whole : (p : ℕ) → p ≤ 2 ^ 53 → rank (of_int binary64 (pos p)) ≡ middle + p * unit
unfolding of_int
rank_whole p h = at_one (round binary64 false p 1) p (of_int-fits binary64 (pos p)) (round_whole binary64 false p h)

number_of_value : (x : Float) (p : ℕ) → HasValue x false p 1 → T (not_nan x)
number_of_value nan p v = v
number_of_value (inf s) p v = absurd v
number_of_value (fin s m e) p v = tt

pub whole_ordered : (p : ℕ) → p ≤ 2 ^ 53 → T (ordered (of_int binary64 (pos p)))
unfolding of_int
whole_ordered p h = and_i (fits binary64 (round binary64 false p 1)) (not_nan (round binary64 false p 1)) (of_int-fits binary64 (pos p)) (number_of_value (round binary64 false p 1) p (round_whole binary64 false p h))

-- ---- the whole part, by the rank
pub whole_part : (s : Bool) (m : ℕ) (e : ℤ) → T (fits binary64 (fin s m e)) → m * up e / down e ≡ m * scale e / unit
whole_part s m e t = div_same (m * up e) (down e) (m * scale e) unit (down_pos e) unit_pos (sym (magnitude_law s m e t))

pub middle_part : (middle + middle - middle) / unit ≡ 2 ^ 1024
middle_part = let h : middle + middle - middle ≡ middle = omega arith in ap (λ (z : ℕ). z / unit) (h ∙ middle_is) ∙ mul-div_cancel (2 ^ 1024) unit_pos

-- p is at most the whole part of x when p is at most x
pub to_floor : (x p : ℕ) → p * unit ≤ x → p ≤ x / unit
to_floor x p h = (le-div_iff_mul-le unit_pos).1 h
