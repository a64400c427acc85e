-- The parts of a program's lines, as bytes.
use Rattle.std.specs.Prelude.{List, ℕ, ◌++◌, codes, decimal, flat_map}

-- each number after a blank
abbrev pub numbers : List ℕ → List ℕ
numbers ns = flat_map (λ n. codes " " ++ decimal n) ns

-- how many regions, and how many pixels they have
abbrev pub totals : ℕ → ℕ → List ℕ
totals regions pixels = codes "regions " ++ (decimal regions ++ (codes " pixels " ++ decimal pixels))
