-- The larger and the smaller of two numbers are the maximum and the minimum of their ranks. Assumes nothing.
use Rattle.std.proofs.Common.{◌≡◌, ℕ, ◌<◌, ◌≤◌, min, max, Bool, true, false, T, arith}
use lib.Ieee.{Float, lt}
use Rattle.base_lists.specs.Pick.{pick}
use Rattle.base_lists.proofs.Picks.{pick_cases, pick_true, pick_false}
use Rattle.base_ieee.proofs.Rank.{rank, ordered, lt_ranks, not_lt_ranks, ranks_lt, ranks_not_lt}
use Rattle.base_ieee.specs.Values.{Same}
use Rattle.base_ieee.proofs.Values.{lt_same}
use Rattle.base_floats.specs.Order.{larger, smaller}

-- both are one of the two
pub larger_either : (P : Float → Type 0) (a b : Float) → P a → P b → P (larger a b)
unfolding larger
larger_either P a b p q = pick_cases P (lt a b) b a (λ _. q) (λ _. p)

pub smaller_either : (P : Float → Type 0) (a b : Float) → P a → P b → P (smaller a b)
unfolding smaller
smaller_either P a b p q = pick_cases P (lt b a) b a (λ _. q) (λ _. p)

module _ (a b : Float) (p : T (ordered a)) (q : T (ordered b)) where
  pub larger_rank : rank (larger a b) ≡ max (rank a) (rank b)
  unfolding larger
  larger_rank = pick_cases (λ z. rank z ≡ max (rank a) (rank b)) (lt a b) b a (λ e. let h = lt_ranks a b p q e in omega arith) (λ e. let h = not_lt_ranks a b p q e in omega arith)

  pub smaller_rank : rank (smaller a b) ≡ min (rank a) (rank b)
  unfolding smaller
  smaller_rank = pick_cases (λ z. rank z ≡ min (rank a) (rank b)) (lt b a) b a (λ e. let h = lt_ranks b a q p e in omega arith) (λ e. let h = not_lt_ranks b a q p e in omega arith)

  pub larger_ordered : T (ordered (larger a b))
  larger_ordered = larger_either (λ z. T (ordered z)) a b p q

  pub smaller_ordered : T (ordered (smaller a b))
  smaller_ordered = smaller_either (λ z. T (ordered z)) a b p q

  -- which of the two, where the order is known
  pub larger_first : rank b ≤ rank a → larger a b ≡ a
  unfolding larger
  larger_first h = pick_false (lt a b) b a (ranks_not_lt a b p q h)

  pub larger_second : rank a < rank b → larger a b ≡ b
  unfolding larger
  larger_second h = pick_true (lt a b) b a (ranks_lt a b p q h)

  pub smaller_first : rank a ≤ rank b → smaller a b ≡ a
  unfolding smaller
  smaller_first h = pick_false (lt b a) b a (ranks_not_lt b a q p h)

  pub smaller_second : rank b < rank a → smaller a b ≡ b
  unfolding smaller
  smaller_second h = pick_true (lt b a) b a (ranks_lt b a q p h)

-- ---- by value
pick_same : (t u : Bool) (a a' b b' : Float) → t ≡ u → Same a a' → Same b b' → Same (pick t b a) (pick u b' a')
pick_same true true a a' b b' e p q = q
pick_same false false a a' b b' e p q = p
pick_same true false a a' b b' e p q = let z : ◌≡◌ {A = ℕ} 0 1 = cc in absurd (omega arith)
pick_same false true a a' b b' e p q = let z : ◌≡◌ {A = ℕ} 0 1 = cc in absurd (omega arith)

pub larger_same : (a a' b b' : Float) → Same a a' → Same b b' → Same (larger a b) (larger a' b')
unfolding larger
larger_same a a' b b' p q = pick_same (lt a b) (lt a' b') a a' b b' (lt_same a a' b b' p q) p q

pub smaller_same : (a a' b b' : Float) → Same a a' → Same b b' → Same (smaller a b) (smaller a' b')
unfolding smaller
smaller_same a a' b b' p q = pick_same (lt b a) (lt b' a') a a' b b' (lt_same b b' a a' q p) p q
