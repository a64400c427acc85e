-- Bytes that stand twice in a strip.
use Rattle.std.specs.Prelude.{◌≡◌, ℕ, ◌+◌, ◌<◌, List, get_or}

-- the n bytes from p on are those from q on
unfoldable pub SameBytes : List ℕ → ℕ → ℕ → ℕ → Type 0
SameBytes s p q n = (k : ℕ) → k < n → get_or s (p + k) 0 ≡ get_or s (q + k) 0
