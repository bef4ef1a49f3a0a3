-- The line of a pair that rounding alone leaves undecided.
use Rattle.std.specs.Prelude.{List, ℕ, ℤ, ◌∷◌, ◌++◌, codes}
use Rattle.std.specs.Fmt.{signed_decimal}
use Rattle.desk_model.specs.declared.types.Totals.{Totals}

-- a sum as a whole number, after a space
abbrev pub sum_text : ℤ → List ℕ
sum_text sum = 32 ∷ signed_decimal sum

-- the four sums: the ends of the least difference, and those of the greatest
abbrev pub sums_text : Totals → List ℕ
sums_text totals = sum_text totals.least_lo ++ sum_text totals.least_hi ++ sum_text totals.most_lo ++ sum_text totals.most_hi

-- `close FIRST SECOND LL LH ML MH`
abbrev pub close_line : List ℕ → List ℕ → Totals → List ℕ
close_line first second totals = codes "close " ++ first ++ 32 ∷ second ++ sums_text totals
