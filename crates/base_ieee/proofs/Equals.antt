-- IEEE 754's equality goes both ways and follows on itself, for floats of any format, NaN included. Assumes nothing.
use mathlib.Core.Path.{◌≡◌, sym, ap, ◌∙◌, subst}
use mathlib.Core.Bool.{Bool, true, false, ◌||◌, beq}
use Prim.Native.Nat.{ℕ, ◌*◌, ◌<◌}
use native.Mathlib.Nat.{mul_right_comm, eq_of_mul-eq-mul_right, zero-mul}
use lib.Dec.{T, eqb, eqb→eq, eqb_refl}
use lib.Ieee.{Float, nan, inf, fin, up, down, level, eq}
use lib.Ieee.Fits.{and_i, and_l, and_r, down_pos}
use Rattle.base_lists.proofs.Relations.{Per, Passes}

-- ---- signs
beq_flip : (s t : Bool) → T (beq s t) → T (beq t s)
beq_flip true true x = x
beq_flip false false x = x
beq_flip true false x = absurd x
beq_flip false true x = absurd x

beq_chain : (s t u : Bool) → T (beq s t) → T (beq t u) → T (beq s u)
beq_chain true true u x y = y
beq_chain false false u x y = y
beq_chain true false u x y = absurd x
beq_chain false true u x y = absurd x

or_cases : {P : Type 0} (a b : Bool) → (T a → P) → (T b → P) → T (a || b) → P
or_cases true b f g t = f tt
or_cases false b f g t = g t

or_left : (a b : Bool) → T a → T (a || b)
or_left true b t = tt
or_left false b t = absurd t

or_right : (a b : Bool) → T b → T (a || b)
or_right true b t = tt
or_right false b t = t

-- ---- magnitudes, as fractions: p over a is q over b, and of zeros the sign does not count
cross : (p q r a b c : ℕ) → 0 < b → p * b ≡ q * a → q * c ≡ r * b → p * c ≡ r * a
cross p q r a b c B e f = eq_of_mul-eq-mul_right b B (p * c) (r * a)
    (mul_right_comm p c b ∙ ap (λ z. z * c) e ∙ mul_right_comm q a c ∙ ap (λ z. z * a) f ∙ mul_right_comm r b a)

no_part : (a d : ℕ) → 0 < d → a * d ≡ 0 → a ≡ 0
no_part a d D e = eq_of_mul-eq-mul_right d D a 0 (e ∙ sym (zero-mul d))

nothing : (a d : ℕ) → a ≡ 0 → T (eqb (a * d) 0)
nothing a d e = subst (λ n. T (eqb n 0)) (sym (ap (λ n. n * d) e ∙ zero-mul d)) tt

module _ (s t : Bool) (p q a b : ℕ) where
  abbrev alike : Bool
  alike = beq s t || eqb (p * b) 0

  level_parts : T (level s (p * b) t (q * a)) → (p * b ≡ q * a) × T alike
  level_parts h = (eqb→eq (p * b) (q * a) (and_l (eqb (p * b) (q * a)) alike h), and_r (eqb (p * b) (q * a)) alike h)

  level_of : p * b ≡ q * a → T alike → T (level s (p * b) t (q * a))
  level_of e h = and_i (eqb (p * b) (q * a)) alike (subst (λ n. T (eqb (p * b) n)) e (eqb_refl (p * b))) h

level_flip : (s t : Bool) (p q a b : ℕ) → T (level s (p * b) t (q * a)) → T (level t (q * a) s (p * b))
level_flip s t p q a b h =
    let k = level_parts s t p q a b h in
    level_of t s q p b a (sym k.0)
    (or_cases (beq s t) (eqb (p * b) 0) (λ x. or_left (beq t s) (eqb (q * a) 0) (beq_flip s t x)) (λ x. or_right (beq t s) (eqb (q * a) 0) (subst (λ n. T (eqb n 0)) k.0 x)) k.1)

level_chain : (s t u : Bool) (p q r a b c : ℕ) → 0 < b → 0 < c → T (level s (p * b) t (q * a)) → T (level t (q * c) u (r * b)) → T (level s (p * c) u (r * a))
level_chain s t u p q r a b c B C h k =
    let x = level_parts s t p q a b h in
    let y = level_parts t u q r b c k in
    level_of s u p r a c (cross p q r a b c B x.0 y.0)
    (or_cases (beq s t) (eqb (p * b) 0)
    (λ f. or_cases (beq t u) (eqb (q * c) 0)
    (λ g. or_left (beq s u) (eqb (p * c) 0) (beq_chain s t u f g))
    (λ g. or_right (beq s u) (eqb (p * c) 0) (nothing p c (no_part p b B (x.0 ∙ ap (λ n. n * a) (no_part q c C (eqb→eq (q * c) 0 g)) ∙ zero-mul a))))
    y.1)
    (λ f. or_right (beq s u) (eqb (p * c) 0) (nothing p c (no_part p b B (eqb→eq (p * b) 0 f))))
    x.1)

-- ---- floats
eq_flip : (x y : Float) → T (eq x y) → T (eq y x)
unfolding eq
eq_flip nan y h = absurd h
eq_flip (inf s) nan h = absurd h
eq_flip (inf s) (inf t) h = beq_flip s t h
eq_flip (inf s) (fin t n d) h = absurd h
eq_flip (fin s m e) nan h = absurd h
eq_flip (fin s m e) (inf t) h = absurd h
eq_flip (fin s m e) (fin t n d) h = level_flip s t (m * up e) (n * up d) (down e) (down d) h

eq_chain : (x y z : Float) → T (eq x y) → T (eq y z) → T (eq x z)
unfolding eq
eq_chain nan y z h k = absurd h
eq_chain (inf s) nan z h k = absurd h
eq_chain (inf s) (fin t n d) z h k = absurd h
eq_chain (inf s) (inf t) nan h k = absurd k
eq_chain (inf s) (inf t) (fin u l g) h k = absurd k
eq_chain (inf s) (inf t) (inf u) h k = beq_chain s t u h k
eq_chain (fin s m e) nan z h k = absurd h
eq_chain (fin s m e) (inf t) z h k = absurd h
eq_chain (fin s m e) (fin t n d) nan h k = absurd k
eq_chain (fin s m e) (fin t n d) (inf u) h k = absurd k
eq_chain (fin s m e) (fin t n d) (fin u l g) h k = level_chain s t u (m * up e) (n * up d) (l * up g) (down e) (down d) (down g) (down_pos d) (down_pos g) h k

pub per_float : Per (Passes eq)
per_float = record { flip = eq_flip; chain = eq_chain }
