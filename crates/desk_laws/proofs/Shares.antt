-- Powers, weights and shares of rank-biased precision, and weights of documents in a pair.
use Rattle.std.proofs.Common.{◌≡◌, [], ◌∷◌, refl, Some, None, pos, neg_ℤ, arith}
use Rattle.std.proofs.lemmas.Int.{ints}
use Rattle.desk_model.specs.Verdict.{totals_of, verdict}
use Rattle.desk_model.specs.declared.types.Verdict.TheVariants.{Open}
use Rattle.desk_model.specs.declared.types.Mark.TheVariants.{Unjudged, Relevant}
use Rattle.desk_model.specs.declared.types.MeasureName.TheVariants.{Precision, Recall, RPrecision, Reciprocal, Biased}
use Rattle.measure_laws.specs.Measures.{unit_of}
use Rattle.measure_laws.specs.Powers.{ceil_div, low_power, high_power, low_weight, high_weight}
use Rattle.measure_laws.specs.Shares.{low_share, high_share, biased_ends, biased_bound_lo, biased_bound_hi, AreNear, IsModest}
use Rattle.measure_laws.specs.Weights.{weight_of}
use Rattle.desk_laws.specs.Example.{marks_401, a, b}

-- ---- units
pub unit_of_precision : unit_of (Precision 5) ≡ 5
unit_of_precision = refl

pub unit_of_reciprocal_rank : unit_of Reciprocal ≡ 1000000000000000000
unit_of_reciprocal_rank = refl

pub unit_of_rank_biased_precision : unit_of (Biased 8 10) ≡ 1000000000000000000
unit_of_rank_biased_precision = refl

-- ---- rounded up
pub seven_thirds_rounded_up : ceil_div 7 3 ≡ 3
seven_thirds_rounded_up = refl

pub six_thirds_rounded_up : ceil_div 6 3 ≡ 2
six_thirds_rounded_up = refl

pub zero_thirds_rounded_up : ceil_div 0 3 ≡ 0
zero_thirds_rounded_up = refl

-- ---- powers of 0.5 and of 1/3
pub power_zero : low_power 5 10 0 ≡ 1000000000000000000
unfolding low_power
power_zero = refl

pub low_power_two_of_a_half : low_power 5 10 2 ≡ 250000000000000000
unfolding low_power
low_power_two_of_a_half = refl

pub high_power_two_of_a_half : high_power 5 10 2 ≡ 250000000000000000
unfolding high_power
high_power_two_of_a_half = refl

pub low_power_two_of_a_third : low_power 1 3 2 ≡ 111111111111111111
unfolding low_power
low_power_two_of_a_third = refl

-- 333333333333333334 / 3, rounded up
pub high_power_two_of_a_third : high_power 1 3 2 ≡ 111111111111111112
unfolding high_power
high_power_two_of_a_third = refl

-- half to the power of 70 is below one part: 0 and 1
pub low_power_beyond_the_parts : low_power 5 10 70 ≡ 0
unfolding low_power
low_power_beyond_the_parts = refl

pub high_power_beyond_the_parts : high_power 5 10 70 ≡ 1
unfolding high_power
high_power_beyond_the_parts = refl

-- ---- weights of ranks
pub low_weight_of_the_first_rank : low_weight 5 10 (Some 1) ≡ 500000000000000000
unfolding low_power
low_weight_of_the_first_rank = refl

pub low_weight_of_the_second_rank : low_weight 5 10 (Some 2) ≡ 250000000000000000
unfolding low_power
low_weight_of_the_second_rank = refl

pub high_weight_of_the_second_rank : high_weight 5 10 (Some 2) ≡ 250000000000000000
unfolding high_power
high_weight_of_the_second_rank = refl

pub low_weight_of_an_absent_rank : low_weight 5 10 None ≡ 0
low_weight_of_an_absent_rank = refl

pub high_weight_of_an_absent_rank : high_weight 5 10 None ≡ 0
high_weight_of_an_absent_rank = refl

-- p = 1/3: 2/3 and 2/9
pub low_weight_of_two_thirds : low_weight 1 3 (Some 1) ≡ 666666666666666666
unfolding low_power
low_weight_of_two_thirds = refl

pub high_weight_of_two_thirds : high_weight 1 3 (Some 1) ≡ 666666666666666667
unfolding high_power
high_weight_of_two_thirds = refl

pub low_weight_of_two_ninths : low_weight 1 3 (Some 2) ≡ 222222222222222222
unfolding low_power
low_weight_of_two_ninths = refl

pub high_weight_of_two_ninths : high_weight 1 3 (Some 2) ≡ 222222222222222223
unfolding high_power
high_weight_of_two_ninths = refl

-- ---- shares, p = 0.5: A ranks d1, d2 and B ranks d2, d3
pub low_share_of_d1 : low_share 5 10 (Some 1) None ≡ pos 500000000000000000
unfolding low_power high_power
low_share_of_d1 = refl

pub high_share_of_d1 : high_share 5 10 (Some 1) None ≡ pos 500000000000000000
unfolding low_power high_power
high_share_of_d1 = refl

pub low_share_of_d2 : low_share 5 10 (Some 2) (Some 1) ≡ neg_ℤ (pos 250000000000000000)
unfolding low_power high_power
low_share_of_d2 = refl

pub high_share_of_d2 : high_share 5 10 (Some 2) (Some 1) ≡ neg_ℤ (pos 250000000000000000)
unfolding low_power high_power
high_share_of_d2 = refl

pub low_share_of_d3 : low_share 5 10 None (Some 2) ≡ neg_ℤ (pos 250000000000000000)
unfolding low_power high_power
low_share_of_d3 = refl

pub high_share_of_d3 : high_share 5 10 None (Some 2) ≡ neg_ℤ (pos 250000000000000000)
unfolding low_power high_power
high_share_of_d3 = refl

pub share_of_a_document_ranked_alike : low_share 5 10 (Some 7) (Some 7) ≡ pos 0
share_of_a_document_ranked_alike = refl

pub share_of_a_document_of_neither : high_share 5 10 None None ≡ pos 0
share_of_a_document_of_neither = refl

-- p = 1/3, rounded outward: 2/3 - 2/9 = 4/9
pub low_share_of_four_ninths : low_share 1 3 (Some 1) (Some 2) ≡ pos 444444444444444443
unfolding low_power high_power
low_share_of_four_ninths = refl

pub high_share_of_four_ninths : high_share 1 3 (Some 1) (Some 2) ≡ pos 444444444444444445
unfolding low_power high_power
high_share_of_four_ninths = refl

pub low_share_of_minus_four_ninths : low_share 1 3 (Some 2) (Some 1) ≡ neg_ℤ (pos 444444444444444445)
unfolding low_power high_power
low_share_of_minus_four_ninths = refl

pub high_share_of_minus_four_ninths : high_share 1 3 (Some 2) (Some 1) ≡ neg_ℤ (pos 444444444444444443)
unfolding low_power high_power
high_share_of_minus_four_ninths = refl

-- ranks whose weights are both below one part: the lower end of A's share is 0 and not below, the upper end of B's is 0 and not above
pub low_share_far_down : low_share 5 10 (Some 90) (Some 91) ≡ pos 0
unfolding low_power high_power
low_share_far_down = refl

pub high_share_far_down : high_share 5 10 (Some 91) (Some 90) ≡ pos 0
unfolding low_power high_power
high_share_far_down = refl

-- ---- the four ends of that pair, where d1 is relevant and d2 and d3 are unjudged: 0 - 1/4 and 1/2 + 1/4
pub ends_of_the_shares : biased_ends 5 10 (Relevant ∷ Unjudged ∷ Unjudged ∷ []) (0 ∷ 1 ∷ []) (1 ∷ 2 ∷ []) ≡ record {
  least_lo = neg_ℤ (pos 250000000000000000);
  least_hi = neg_ℤ (pos 249999999999999999);
  most_lo = pos 749999999999999999;
  most_hi = pos 750000000000000000;
}
unfolding low_power high_power
ends_of_the_shares = refl

-- equal rankings stay open: both have d1, which is relevant, and the tails are independent
pub ends_of_equal_rankings : biased_ends 5 10 (Relevant ∷ []) (0 ∷ []) (0 ∷ []) ≡ record {
  least_lo = neg_ℤ (pos 500000000000000000);
  least_hi = neg_ℤ (pos 499999999999999999);
  most_lo = pos 499999999999999999;
  most_hi = pos 500000000000000000;
}
unfolding low_power high_power
ends_of_equal_rankings = refl

pub verdict_of_equal_rankings : verdict (totals_of (biased_ends 5 10 (Relevant ∷ []) (0 ∷ []) (0 ∷ []) ∷ [])) ≡ Open
unfolding low_power high_power
verdict_of_equal_rankings = refl

-- two runs that retrieved nothing: all is tail
pub ends_of_empty_rankings : biased_ends 5 10 [] [] [] ≡ record {
  least_lo = neg_ℤ (pos 1000000000000000000);
  least_hi = neg_ℤ (pos 999999999999999999);
  most_lo = pos 999999999999999999;
  most_hi = pos 1000000000000000000;
}
unfolding low_power high_power
ends_of_empty_rankings = refl

-- ---- bounds of one run
pub lower_bound_of_one_relevant_document : biased_bound_lo 5 10 (Relevant ∷ []) (0 ∷ []) ≡ 500000000000000000
unfolding low_power
lower_bound_of_one_relevant_document = refl

pub upper_bound_of_one_relevant_document : biased_bound_hi 5 10 (Relevant ∷ []) (0 ∷ []) ≡ 1000000000000000000
unfolding high_power
upper_bound_of_one_relevant_document = refl

pub lower_bound_of_an_empty_ranking : biased_bound_lo 5 10 (Relevant ∷ []) [] ≡ 0
lower_bound_of_an_empty_ranking = refl

pub upper_bound_of_an_empty_ranking : biased_bound_hi 5 10 (Relevant ∷ []) [] ≡ 1000000000000000000
unfolding high_power
upper_bound_of_an_empty_ranking = refl

-- d2 is judged and not relevant, d3 may be: 1/4 and the tail's 1/4
pub upper_bound_of_the_second_run : biased_bound_hi 5 10 marks_401 b ≡ 500000000000000000
unfolding high_power
upper_bound_of_the_second_run = refl

pub lower_bound_of_the_second_run : biased_bound_lo 5 10 marks_401 b ≡ 0
unfolding low_power
lower_bound_of_the_second_run = refl

-- p = 1/3, rounded up past 1 and cut: 2/3 and 1/3
pub upper_bound_is_cut : biased_bound_hi 1 3 (Relevant ∷ []) (0 ∷ []) ≡ 1000000000000000000
unfolding high_power
upper_bound_is_cut = refl

-- ---- how far apart ends may be
pub two_empty_rankings_are_eight_apart : AreNear [] [] (pos 0) (pos 8)
two_empty_rankings_are_eight_apart = omega (arith, ints)

pub nine_is_too_far_apart : AreNear [] [] (pos 0) (pos 9) → ⊥
nine_is_too_far_apart h = absurd (omega (arith, ints))

-- 8 * (2 + 2 + 1)^2
pub rankings_of_two_are_two_hundred_apart : AreNear a b (neg_ℤ (pos 100)) (pos 100)
rankings_of_two_are_two_hundred_apart = omega (arith, ints)

pub two_is_modest : IsModest (pos 2000000000000000000)
two_is_modest = (omega (arith, ints), omega (arith, ints))

pub more_than_two_is_not_modest : IsModest (neg_ℤ (pos 2000000000000000001)) → ⊥
more_than_two_is_not_modest h = let e = h.0 in absurd (omega (arith, ints))

-- ---- weights of documents, with A = (d1, d3) and B = (d2, d3)
pub precision_weight_of_d1 : weight_of (Precision 2) marks_401 a b 0 ≡ 1
precision_weight_of_d1 = refl

pub precision_weight_of_d2 : weight_of (Precision 2) marks_401 a b 1 ≡ 1
precision_weight_of_d2 = refl

pub precision_weight_of_d3 : weight_of (Precision 2) marks_401 a b 2 ≡ 0
precision_weight_of_d3 = refl

pub recall_weight_beyond_the_rankings : weight_of (Recall 100) marks_401 a (1 ∷ []) 2 ≡ 1
recall_weight_beyond_the_rankings = refl

pub recall_weight_in_an_empty_ranking : weight_of (Recall 5) marks_401 [] [] 2 ≡ 0
recall_weight_in_an_empty_ranking = refl

-- one judged relevant document: the first rank alone
pub r_precision_weight_at_the_first_rank : weight_of RPrecision marks_401 a (1 ∷ []) 2 ≡ 0
r_precision_weight_at_the_first_rank = refl

-- two judged relevant documents: the first two ranks
pub r_precision_weight_at_two_ranks : weight_of RPrecision (Relevant ∷ Relevant ∷ Unjudged ∷ []) a (1 ∷ []) 2 ≡ 1
r_precision_weight_at_two_ranks = refl

-- none: still the first rank
pub r_precision_weight_with_no_judged_document : weight_of RPrecision (Unjudged ∷ Unjudged ∷ Unjudged ∷ []) a b 1 ≡ 1
r_precision_weight_with_no_judged_document = refl

pub reciprocal_weight_of_d1 : weight_of Reciprocal marks_401 a b 0 ≡ 1000000000000000000
reciprocal_weight_of_d1 = refl

pub reciprocal_weight_of_d3 : weight_of Reciprocal marks_401 a b 2 ≡ 0
reciprocal_weight_of_d3 = refl

-- 1/2 and 1/3, rounded down
pub reciprocal_weight_of_ranks_two_and_three : weight_of Reciprocal marks_401 (0 ∷ 2 ∷ []) (0 ∷ 1 ∷ 2 ∷ []) 2 ≡ 166666666666666667
reciprocal_weight_of_ranks_two_and_three = refl

pub biased_weight_of_d1 : weight_of (Biased 5 10) marks_401 a b 0 ≡ 500000000000000000
unfolding low_power
biased_weight_of_d1 = refl

-- rank 2 in A and rank 1 in B: the sign does not count
pub biased_weight_of_ranks_two_and_one : weight_of (Biased 5 10) marks_401 (0 ∷ 1 ∷ []) (1 ∷ 0 ∷ []) 1 ≡ 250000000000000000
unfolding low_power
biased_weight_of_ranks_two_and_one = refl

pub biased_weight_of_a_document_of_neither : weight_of (Biased 5 10) marks_401 [] [] 1 ≡ 0
unfolding low_power
biased_weight_of_a_document_of_neither = refl
