-- How means are printed: outward, with six digits after the point.
use Rattle.std.specs.Prelude.{ℕ, suc, ◌+◌, ◌/◌, ◌%◌, List, ◌∷◌, ◌++◌, drop, decimal, ℤ, pos, negsuc, ◌*ℤ◌}
use Rattle.topic_counts.specs.Numbers.{floor_of, ceiling_of}

-- the six digits of a number of millionths below one
abbrev pub six_digits : ℕ → List ℕ
six_digits n = drop 1 (decimal (1000000 + n))

-- a number of millionths: the whole part, a point, and six digits
abbrev pub millionths : ℕ → List ℕ
millionths n = decimal (n / 1000000) ++ 46 ∷ six_digits (n % 1000000)

-- the same with a sign, where it is negative
abbrev pub decimal_text : ℤ → List ℕ
decimal_text (pos n) = millionths n
decimal_text (negsuc n) = 45 ∷ millionths (suc n)

-- a lower end rounded down to millionths, and an upper end rounded up, each a sum over a number of parts
abbrev pub ends_text : ℕ → ℤ → ℤ → List ℕ
ends_text parts lo hi = decimal_text (floor_of (lo *ℤ pos 1000000) parts) ++ 32 ∷ decimal_text (ceiling_of (hi *ℤ pos 1000000) parts)
