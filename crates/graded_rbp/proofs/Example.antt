-- The numbers of one topic with two grades, computed.
use Rattle.std.proofs.Common.{◌≡◌, [], ◌∷◌, pos, negsuc, refl}
use Rattle.measure_laws.specs.Powers.{low_power, high_power}
use Rattle.graded_rbp.specs.Example.{two_grades, half}
use Rattle.graded_rbp.specs.Numbers.{graded_totals, graded_bounds}

pub totals_are : graded_totals half 0 1 (two_grades ∷ []) ≡ record { least_lo = negsuc 499999999999999999; least_hi = negsuc 499999999999999997; most_lo = pos 1499999999999999998; most_hi = pos 1500000000000000000 }
unfolding low_power high_power
totals_are = refl

pub first_is : graded_bounds half 0 (two_grades ∷ []) ≡ record { lo = pos 1000000000000000000; hi = pos 2000000000000000000 }
unfolding low_power high_power
first_is = refl

pub second_is : graded_bounds half 1 (two_grades ∷ []) ≡ record { lo = pos 500000000000000000; hi = pos 1500000000000000000 }
unfolding low_power high_power
second_is = refl
