-- Floors and ceilings in units, the extremes of a topic, and verdicts.
use Rattle.std.proofs.Common.{◌≡◌, ◌^◌, Bool, true, false, [], ◌∷◌, refl, arith, lit<, ℤ, pos, negsuc, neg_ℤ, ◌≤ℤ◌}
use Rattle.std.proofs.lemmas.Int.{ints}
use Rattle.desk_model.specs.Completion.{Completes}
use Rattle.desk_model.specs.Fraction.{IsAtMost, IsAtLeast}
use Rattle.desk_model.specs.Extremes.{IsGreatest, IsSmallest, AreExtremes, AreBounds, IsAtMostScore, IsAtLeastScore}
use Rattle.desk_model.specs.Verdict.{whole_sum, totals_of, verdict}
use Rattle.desk_model.specs.declared.types.Verdict.TheVariants.{Above, Below, Equal, Open, Close}
use Rattle.desk_model.specs.declared.types.MeasureName.TheVariants.{Precision, Recall, Reciprocal}
use Rattle.desk_laws.specs.Example.{marks_401, a, b, parts, d3_false, d3_true, sums, ends}
use Rattle.desk_laws.proofs.Completions.{precision_of_two, completion_with_d3_false, completion_with_d3_true}

-- ---- whole numbers beside a difference: 2 * (2/2 - 1/2) = 1
pub at_most_in_units_of_two : IsAtMost (pos 1) 2 (parts 2 2) (parts 1 2)
at_most_in_units_of_two = omega (arith, ints)

pub at_least_in_units_of_two : IsAtLeast (pos 1) 2 (parts 2 2) (parts 1 2)
at_least_in_units_of_two = omega (arith, ints)

pub two_is_not_at_most : IsAtMost (pos 2) 2 (parts 2 2) (parts 1 2) → ⊥
two_is_not_at_most h = absurd (omega (arith, ints))

-- the difference of two zeros
pub zero_beside_zeros : IsAtMost (pos 0) 2 (parts 0 1) (parts 0 7) × IsAtLeast (pos 0) 2 (parts 0 1) (parts 0 7)
zero_beside_zeros = (omega (arith, ints), omega (arith, ints))

-- a third in units of 10^18: its floor and its ceiling
pub floor_of_a_third : IsGreatest (λ z. IsAtMost z (10 ^ 18) (parts 1 3) (parts 0 1)) (pos 333333333333333333)
floor_of_a_third = record { so = omega (arith, ints); others = λ w h. omega (arith, ints) }

pub ceiling_of_a_third : IsSmallest (λ z. IsAtLeast z (10 ^ 18) (parts 1 3) (parts 0 1)) (pos 333333333333333334)
ceiling_of_a_third = record { so = omega (arith, ints); others = λ w h. omega (arith, ints) }

-- and of minus a third: the floor is the one that is further from 0
pub floor_of_minus_a_third : IsGreatest (λ z. IsAtMost z (10 ^ 18) (parts 0 1) (parts 1 3)) (neg_ℤ (pos 333333333333333334))
floor_of_minus_a_third = record { so = omega (arith, ints); others = λ w h. omega (arith, ints) }

-- a score is the difference from 0
pub ceiling_of_a_score : IsSmallest (λ z. IsAtLeastScore z 2 (parts 1 2)) (pos 1)
ceiling_of_a_score = record { so = omega (arith, ints); others = λ w h. omega (arith, ints) }

-- ---- the extremes of the example under P_2: A's d1 is relevant, B's d2 is not, and d3 is in both
half_at_most : (w : ℤ) (x y z : Bool) → x ≡ true → y ≡ false → w ≤ℤ pos 1 → IsAtMost w 2 (precision_of_two x z) (precision_of_two y z)
half_at_most w x y true e f h = rw (e, f) (omega (arith, ints))
half_at_most w x y false e f h = rw (e, f) (omega (arith, ints))

half_at_least : (w : ℤ) (x y z : Bool) → x ≡ true → y ≡ false → pos 1 ≤ℤ w → IsAtLeast w 2 (precision_of_two x z) (precision_of_two y z)
half_at_least w x y true e f h = rw (e, f) (omega (arith, ints))
half_at_least w x y false e f h = rw (e, f) (omega (arith, ints))

at_most_half : (w : ℤ) (x y z : Bool) → x ≡ true → y ≡ false → IsAtMost w 2 (precision_of_two x z) (precision_of_two y z) → w ≤ℤ pos 1
at_most_half w x y true e f h = let g = rw (e, f) at h in omega (arith, ints)
at_most_half w x y false e f h = let g = rw (e, f) at h in omega (arith, ints)

at_least_half : (w : ℤ) (x y z : Bool) → x ≡ true → y ≡ false → IsAtLeast w 2 (precision_of_two x z) (precision_of_two y z) → pos 1 ≤ℤ w
at_least_half w x y true e f h = let g = rw (e, f) at h in omega (arith, ints)
at_least_half w x y false e f h = let g = rw (e, f) at h in omega (arith, ints)

pub extremes_of_the_example : AreExtremes (Precision 2) 2 marks_401 a b (ends (pos 1) (pos 1) (pos 1) (pos 1))
extremes_of_the_example = record {
  least_lo = record {
    so = λ truth s t h. half_at_most (pos 1) (truth 0) (truth 1) (truth 2) (h 0 (lit< tt)) (h 1 (lit< tt)) (omega (arith, ints));
    others = λ w h. at_most_half w true false false refl refl (h d3_false [] [] completion_with_d3_false);
  };
  least_hi = record {
    so = (d3_false, [], [], completion_with_d3_false, half_at_least (pos 1) true false false refl refl (omega (arith, ints)));
    others = λ w h. at_least_half w (h.0 0) (h.0 1) (h.0 2) (h.3 0 (lit< tt)) (h.3 1 (lit< tt)) h.4;
  };
  most_hi = record {
    so = λ truth s t h. half_at_least (pos 1) (truth 0) (truth 1) (truth 2) (h 0 (lit< tt)) (h 1 (lit< tt)) (omega (arith, ints));
    others = λ w h. at_least_half w true false false refl refl (h d3_false [] [] completion_with_d3_false);
  };
  most_lo = record {
    so = (d3_false, [], [], completion_with_d3_false, half_at_most (pos 1) true false false refl refl (omega (arith, ints)));
    others = λ w h. at_most_half w (h.0 0) (h.0 1) (h.0 2) (h.3 0 (lit< tt)) (h.3 1 (lit< tt)) h.4;
  };
}

-- the ends 0 and 1 are not its extremes: 0 is not the greatest that is at most every difference
pub zero_is_no_extreme_of_the_example : AreExtremes (Precision 2) 2 marks_401 a b (ends (pos 0) (pos 1) (pos 1) (pos 1)) → ⊥
zero_is_no_extreme_of_the_example h =
    let e = h.least_lo.others (pos 1) (λ truth s t c. half_at_most (pos 1) (truth 0) (truth 1) (truth 2) (c 0 (lit< tt)) (c 1 (lit< tt)) (omega (arith, ints))) in
    absurd (omega (arith, ints))

-- a topic without documents: both rankings are empty and both recalls are 0
pub extremes_of_an_empty_universe : AreExtremes (Recall 5) (10 ^ 18) [] [] [] (ends (pos 0) (pos 0) (pos 0) (pos 0))
extremes_of_an_empty_universe = record {
  least_lo = record { so = λ truth s t h. omega (arith, ints); others = λ w h. let e = h d3_false [] [] none in omega (arith, ints) };
  least_hi = record { so = (d3_false, [], [], none, omega (arith, ints)); others = λ w h. let e = h.4 in omega (arith, ints) };
  most_hi = record { so = λ truth s t h. omega (arith, ints); others = λ w h. let e = h d3_false [] [] none in omega (arith, ints) };
  most_lo = record { so = (d3_false, [], [], none, omega (arith, ints)); others = λ w h. let e = h.4 in omega (arith, ints) };
}
  where
    none : Completes [] d3_false
    none doc h = absurd (omega arith)

-- ---- the bounds of A under P_2 are 1 and 2, those of B 0 and 1
two_at_least : (x z : Bool) → x ≡ true → IsAtMostScore (pos 1) 2 (precision_of_two x z) × IsAtLeastScore (pos 2) 2 (precision_of_two x z)
two_at_least x true e = rw e (omega (arith, ints), omega (arith, ints))
two_at_least x false e = rw e (omega (arith, ints), omega (arith, ints))

pub bounds_of_a : AreBounds (Precision 2) 2 marks_401 a (pos 1) (pos 2)
bounds_of_a = record {
  low = record { so = λ truth t h. (two_at_least (truth 0) (truth 2) (h 0 (lit< tt))).0; others = λ w h. let e = h d3_false [] completion_with_d3_false in omega (arith, ints) };
  high = record { so = λ truth t h. (two_at_least (truth 0) (truth 2) (h 0 (lit< tt))).1; others = λ w h. let e = h d3_true [] completion_with_d3_true in omega (arith, ints) };
}

one_at_least : (y z : Bool) → y ≡ false → IsAtMostScore (pos 0) 2 (precision_of_two y z) × IsAtLeastScore (pos 1) 2 (precision_of_two y z)
one_at_least y true e = rw e (omega (arith, ints), omega (arith, ints))
one_at_least y false e = rw e (omega (arith, ints), omega (arith, ints))

pub bounds_of_b : AreBounds (Precision 2) 2 marks_401 b (pos 0) (pos 1)
bounds_of_b = record {
  low = record { so = λ truth t h. (one_at_least (truth 1) (truth 2) (h 1 (lit< tt))).0; others = λ w h. let e = h d3_false [] completion_with_d3_false in omega (arith, ints) };
  high = record { so = λ truth t h. (one_at_least (truth 1) (truth 2) (h 1 (lit< tt))).1; others = λ w h. let e = h d3_true [] completion_with_d3_true in omega (arith, ints) };
}

-- a run that retrieved nothing scores 0 in every completion
pub bounds_of_an_empty_ranking : AreBounds Reciprocal (10 ^ 18) marks_401 [] (pos 0) (pos 0)
bounds_of_an_empty_ranking = record {
  low = record { so = λ truth t h. omega (arith, ints); others = λ w h. let e = h d3_false [] completion_with_d3_false in omega (arith, ints) };
  high = record { so = λ truth t h. omega (arith, ints); others = λ w h. let e = h d3_false [] completion_with_d3_false in omega (arith, ints) };
}

-- ---- sums over topics
pub sum_of_no_topic : whole_sum [] ≡ pos 0
sum_of_no_topic = refl

pub sum_of_both_signs : whole_sum (pos 3 ∷ negsuc 4 ∷ pos 1 ∷ []) ≡ negsuc 0
sum_of_both_signs = refl

-- 1/3 on one topic and -1/3 on another
pub sums_of_a_third_and_minus_a_third :
    totals_of (ends (pos 333333333333333333) (pos 333333333333333334) (pos 333333333333333333) (pos 333333333333333334)
    ∷ ends (neg_ℤ (pos 333333333333333334)) (neg_ℤ (pos 333333333333333333)) (neg_ℤ (pos 333333333333333334)) (neg_ℤ (pos 333333333333333333)) ∷ [])
    ≡ sums (negsuc 0) (pos 1) (negsuc 0) (pos 1)
sums_of_a_third_and_minus_a_third = refl

pub sums_of_one_topic : totals_of (ends (negsuc 1) (negsuc 0) (pos 3) (pos 4) ∷ []) ≡ sums (negsuc 1) (negsuc 0) (pos 3) (pos 4)
sums_of_one_topic = refl

pub sums_of_no_topic : totals_of [] ≡ sums (pos 0) (pos 0) (pos 0) (pos 0)
sums_of_no_topic = refl

-- ---- verdicts by LL, LH, ML and MH
pub verdict_of_the_example : verdict (sums (pos 1) (pos 1) (pos 1) (pos 1)) ≡ Above
verdict_of_the_example = refl

pub verdict_by_one_unit : verdict (sums (pos 1) (pos 2) (pos 8) (pos 9)) ≡ Above
verdict_by_one_unit = refl

pub verdict_of_the_runs_swapped : verdict (sums (negsuc 0) (negsuc 0) (negsuc 0) (negsuc 0)) ≡ Below
verdict_of_the_runs_swapped = refl

pub verdict_of_zeros : verdict (sums (pos 0) (pos 0) (pos 0) (pos 0)) ≡ Equal
verdict_of_zeros = refl

-- A smaller in one completion, equal in another
pub verdict_of_smaller_or_equal : verdict (sums (negsuc 0) (negsuc 0) (pos 0) (pos 0)) ≡ Open
verdict_of_smaller_or_equal = refl

-- A equal in one completion, greater in another
pub verdict_of_equal_or_greater : verdict (sums (pos 0) (pos 0) (pos 1) (pos 1)) ≡ Open
verdict_of_equal_or_greater = refl

pub verdict_of_smaller_or_greater : verdict (sums (negsuc 2) (negsuc 1) (pos 1) (pos 2)) ≡ Open
verdict_of_smaller_or_greater = refl

-- equal means whose thirds were rounded apart
pub verdict_of_thirds_rounded_apart : verdict (sums (negsuc 0) (pos 1) (negsuc 0) (pos 1)) ≡ Close
verdict_of_thirds_rounded_apart = refl

-- the least difference may be 0, and is not known to be below
pub verdict_of_a_least_sum_that_may_be_zero : verdict (sums (negsuc 0) (pos 0) (pos 0) (pos 1)) ≡ Close
verdict_of_a_least_sum_that_may_be_zero = refl

-- the least is below 0 for certain, and the greatest is so perhaps
pub verdict_of_a_greatest_sum_that_may_be_zero : verdict (sums (negsuc 4) (negsuc 3) (negsuc 0) (pos 0)) ≡ Close
verdict_of_a_greatest_sum_that_may_be_zero = refl
