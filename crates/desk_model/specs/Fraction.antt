-- Exact fractions, their sums and means, and whole numbers beside a difference of two.
use Rattle.std.specs.Prelude.{ℕ, zero, suc, ◌+◌, ◌*◌, ◌<◌, ◌≡◌, List, [], ◌∷◌, length, ℤ, pos, ◌-ℤ◌, ◌*ℤ◌, ◌≤ℤ◌}

-- a number of parts, and how many of them make one
pub record Fraction : Type 0 where
  pub num : ℕ
  pub den : ℕ

-- n over d, and 0 where d is 0
abbrev pub over : ℕ → ℕ → Fraction
over n zero = record { num = 0; den = 1 }
over n (suc d) = record { num = n; den = suc d }

-- x is smaller than y
abbrev pub IsBelow : Fraction → Fraction → Type 0
IsBelow x y = x.num * y.den < y.num * x.den

-- x and y are one number
abbrev pub IsSame : Fraction → Fraction → Type 0
IsSame x y = x.num * y.den ≡ y.num * x.den

-- the sum of two fractions
abbrev pub plus : Fraction → Fraction → Fraction
plus x y = record { num = x.num * y.den + y.num * x.den; den = x.den * y.den }

-- the sum of a list of fractions
abbrev pub total : List Fraction → Fraction
total [] = record { num = 0; den = 1 }
total (x ∷ xs) = plus x (total xs)

-- the sum divided by how many there are
abbrev pub mean : List Fraction → Fraction
mean xs = record { num = (total xs).num; den = (total xs).den * length xs }

-- a whole number that is at most unit times (x minus y)
abbrev pub IsAtMost : ℤ → ℕ → Fraction → Fraction → Type 0
IsAtMost z unit x y = (z *ℤ pos (x.den * y.den)) ≤ℤ (pos unit *ℤ (pos (x.num * y.den) -ℤ pos (y.num * x.den)))

-- a whole number that is at least unit times (x minus y)
abbrev pub IsAtLeast : ℤ → ℕ → Fraction → Fraction → Type 0
IsAtLeast z unit x y = (pos unit *ℤ (pos (x.num * y.den) -ℤ pos (y.num * x.den))) ≤ℤ (z *ℤ pos (x.den * y.den))
