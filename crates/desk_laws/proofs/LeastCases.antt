-- The least case of a pair, by measure.
use Rattle.std.proofs.Common.{◌≡◌, ℕ, Bool, true, false, List, [], ◌∷◌, refl, Some, None, arith, lit≤}
use Rattle.desk_model.specs.declared.types.Mark.TheVariants.{Unjudged, Relevant, Other}
use Rattle.desk_model.specs.declared.types.MeasureName.TheVariants.{Precision, Recall, RPrecision, Reciprocal, Biased}
use Rattle.measure_laws.specs.Prefixes.{only_second, neutral}
use Rattle.measure_laws.specs.Ranks.{comes_before}
use Rattle.measure_laws.specs.Classes.{judged_count}
use Rattle.measure_laws.specs.Differences.{IsNoGreater, Scores, is_smaller, first_least}
use Rattle.measure_laws.specs.RprecCase.{rprec_counts, rprec_count}
use Rattle.measure_laws.specs.ReciprocalCase.{unjudged_of, reciprocal_choice}
use Rattle.measure_laws.specs.Cases.{least_truth, HasLeastTails}
use Rattle.desk_model.specs.declared.types.Mark.{Mark}
use Rattle.desk_laws.specs.Example.{marks_401, a, b, parts}

-- the truth values of documents 0, 1 and 2
abbrev of_three : (ℕ → Bool) → List Bool
of_three truth = truth 0 ∷ truth 1 ∷ truth 2 ∷ []

abbrev three_unjudged : List Mark
three_unjudged = Unjudged ∷ Unjudged ∷ Unjudged ∷ []

-- ---- classes of documents
pub d2_in_the_first_two_of_b_alone : only_second 2 a b 1 ≡ true
d2_in_the_first_two_of_b_alone = refl

pub d3_in_the_first_two_of_both : only_second 2 a b 2 ≡ false
d3_in_the_first_two_of_both = refl

pub d3_in_neither_first_rank : neutral 1 a b 2 ≡ true
d3_in_neither_first_rank = refl

pub d1_in_the_first_rank_of_a_alone : neutral 1 a b 0 ≡ false
d1_in_the_first_rank_of_a_alone = refl

pub all_neutral_to_empty_rankings : neutral 5 [] [] 0 ≡ true
all_neutral_to_empty_rankings = refl

pub first_rank_before_second : comes_before (Some 1) (Some 2) ≡ true
first_rank_before_second = refl

pub same_rank_before_neither : comes_before (Some 2) (Some 2) ≡ false
same_rank_before_neither = refl

pub any_rank_before_an_absent_one : comes_before (Some 10000) None ≡ true
any_rank_before_an_absent_one = refl

pub absent_before_nothing : comes_before None None ≡ false
absent_before_nothing = refl

pub judged_relevant_documents : judged_count (Relevant ∷ Other ∷ Unjudged ∷ Relevant ∷ []) ≡ 2
judged_relevant_documents = refl

pub judged_relevant_of_an_empty_universe : judged_count [] ≡ 0
judged_relevant_of_an_empty_universe = refl

-- ---- differences: 1/2 - 2/2 is at most 1/3 - 2/3, and not the other way round
abbrev minus_a_half : Scores
minus_a_half = record { first = parts 1 2; second = parts 2 2 }

abbrev minus_a_third : Scores
minus_a_third = record { first = parts 1 3; second = parts 2 3 }

abbrev no_difference : Scores
no_difference = record { first = parts 0 1; second = parts 0 2 }

pub minus_a_half_is_no_greater : IsNoGreater (parts 1 2) (parts 2 2) (parts 1 3) (parts 2 3)
minus_a_half_is_no_greater = lit≤ tt

pub minus_a_third_is_greater : IsNoGreater (parts 1 3) (parts 2 3) (parts 1 2) (parts 2 2) → ⊥
minus_a_third_is_greater h = absurd (omega arith)

pub minus_a_half_is_smaller : is_smaller minus_a_half minus_a_third ≡ true
minus_a_half_is_smaller = refl

pub difference_is_not_smaller_than_itself : is_smaller minus_a_third minus_a_third ≡ false
difference_is_not_smaller_than_itself = refl

pub no_difference_is_not_smaller : is_smaller no_difference minus_a_third ≡ false
no_difference_is_not_smaller = refl

pub first_of_the_least : first_least (λ s. s) no_difference (minus_a_third ∷ minus_a_half ∷ minus_a_third ∷ []) ≡ minus_a_half
first_of_the_least = refl

pub least_of_one : first_least (λ s. s) minus_a_third [] ≡ minus_a_third
least_of_one = refl

-- ---- precision: the unjudged documents of B's first k that are not in A's
-- d3 is in both, and stays false
pub least_case_of_the_example : of_three (least_truth (Precision 2) marks_401 a b) ≡ true ∷ false ∷ false ∷ []
least_case_of_the_example = refl

pub least_case_at_the_first_rank : of_three (least_truth (Precision 1) three_unjudged a b) ≡ false ∷ true ∷ false ∷ []
least_case_at_the_first_rank = refl

-- the most case is the least case of the swapped runs
pub most_case_at_the_first_rank : of_three (least_truth (Precision 1) three_unjudged b a) ≡ true ∷ false ∷ false ∷ []
most_case_at_the_first_rank = refl

pub least_case_beyond_the_rankings : of_three (least_truth (Precision 100) three_unjudged (0 ∷ []) b) ≡ false ∷ true ∷ true ∷ []
least_case_beyond_the_rankings = refl

pub least_case_of_empty_rankings : of_three (least_truth (Precision 5) three_unjudged [] []) ≡ false ∷ false ∷ false ∷ []
least_case_of_empty_rankings = refl

-- ---- recall: where A still leads, the documents of both or neither too, since they make R greater
-- A has d1, B has d2, and d2 made relevant takes the lead away: 1/2 - 1/2
pub least_case_of_recall_without_a_lead : of_three (least_truth (Recall 1) (Relevant ∷ Unjudged ∷ Unjudged ∷ []) (0 ∷ []) (1 ∷ [])) ≡ true ∷ true ∷ false ∷ []
least_case_of_recall_without_a_lead = refl

-- d2 is judged, A keeps its lead, and d3 makes it 1/2 in place of 1
pub least_case_of_recall_with_a_lead : of_three (least_truth (Recall 1) (Relevant ∷ Other ∷ Unjudged ∷ []) (0 ∷ []) (1 ∷ [])) ≡ true ∷ false ∷ true ∷ []
least_case_of_recall_with_a_lead = refl

pub least_case_of_recall_of_empty_rankings : of_three (least_truth (Recall 5) three_unjudged [] []) ≡ false ∷ false ∷ false ∷ []
least_case_of_recall_of_empty_rankings = refl

-- ---- R-precision: A ranks d1, B ranks d1 and d2, all three unjudged: -1/2 at R = 2
pub possible_numbers_of_relevant_documents : rprec_counts three_unjudged ≡ 0 ∷ 1 ∷ 2 ∷ 3 ∷ []
possible_numbers_of_relevant_documents = refl

pub number_with_the_least_difference : rprec_count three_unjudged (0 ∷ []) (0 ∷ 1 ∷ []) ≡ 2
number_with_the_least_difference = refl

-- d2, which B alone has, and then d1, the first of those in both or neither
pub least_case_of_r_precision : of_three (least_truth RPrecision three_unjudged (0 ∷ []) (0 ∷ 1 ∷ [])) ≡ true ∷ true ∷ false ∷ []
least_case_of_r_precision = refl

-- the swapped runs: no R gives less than 0, and 0 is the smallest R
pub number_with_no_difference : rprec_count three_unjudged (0 ∷ 1 ∷ []) (0 ∷ []) ≡ 0
number_with_no_difference = refl

pub most_case_of_r_precision : of_three (least_truth RPrecision three_unjudged (0 ∷ 1 ∷ []) (0 ∷ [])) ≡ false ∷ false ∷ false ∷ []
most_case_of_r_precision = refl

-- all judged: the number of relevant documents is known
pub number_where_all_is_judged : rprec_counts (Relevant ∷ Other ∷ []) ≡ 1 ∷ []
number_where_all_is_judged = refl

pub number_of_an_empty_universe : rprec_count [] [] [] ≡ 0
number_of_an_empty_universe = refl

-- ---- reciprocal rank: r (0) is relevant, u (1) is not judged, A ranks u, r and B ranks r, u
abbrev marks_of_r_and_u : List Mark
marks_of_r_and_u = Relevant ∷ Unjudged ∷ []

-- 1/2 - 1 without u, 1 - 1 with it
pub no_document_of_the_least_case : reciprocal_choice marks_of_r_and_u (1 ∷ 0 ∷ []) (0 ∷ 1 ∷ []) ≡ None
no_document_of_the_least_case = refl

pub document_of_the_most_case : reciprocal_choice marks_of_r_and_u (0 ∷ 1 ∷ []) (1 ∷ 0 ∷ []) ≡ Some 1
document_of_the_most_case = refl

pub least_case_of_reciprocal_rank : of_three (least_truth Reciprocal marks_of_r_and_u (1 ∷ 0 ∷ []) (0 ∷ 1 ∷ [])) ≡ true ∷ false ∷ false ∷ []
least_case_of_reciprocal_rank = refl

-- B's first document alone has -1, its second -1/2
pub first_document_of_b : reciprocal_choice three_unjudged (0 ∷ []) (1 ∷ 2 ∷ []) ≡ Some 1
first_document_of_b = refl

pub no_document_of_an_empty_ranking : reciprocal_choice three_unjudged (0 ∷ []) [] ≡ None
no_document_of_an_empty_ranking = refl

pub unjudged_documents_in_the_order_of_the_ranking : unjudged_of (Unjudged ∷ Relevant ∷ Unjudged ∷ []) (2 ∷ 1 ∷ 0 ∷ []) ≡ Some 2 ∷ Some 0 ∷ []
unjudged_documents_in_the_order_of_the_ranking = refl

-- ---- rank-biased precision: the unjudged documents that B ranks before A, or alone. A ranks d1, d2 and B ranks d2, d3
pub least_case_of_shares : of_three (least_truth (Biased 5 10) (Relevant ∷ Unjudged ∷ Unjudged ∷ []) (0 ∷ 1 ∷ []) (1 ∷ 2 ∷ [])) ≡ true ∷ true ∷ true ∷ []
least_case_of_shares = refl

pub most_case_of_shares : of_three (least_truth (Biased 5 10) (Relevant ∷ Unjudged ∷ Unjudged ∷ []) (1 ∷ 2 ∷ []) (0 ∷ 1 ∷ [])) ≡ true ∷ false ∷ false ∷ []
most_case_of_shares = refl

pub least_case_of_equal_rankings : of_three (least_truth (Biased 5 10) three_unjudged a a) ≡ false ∷ false ∷ false ∷ []
least_case_of_equal_rankings = refl

-- ---- tails of the least case
pub tails_of_precision : HasLeastTails (Precision 2) [] []
tails_of_precision = (refl, refl)

pub tails_of_recall_are_empty : HasLeastTails (Recall 2) [] (true ∷ []) → ⊥
tails_of_recall_are_empty h = let e = h.1 in absurd (cc)

-- B's tail is long under rank-biased precision
pub tails_of_rank_biased_precision_are_long : HasLeastTails (Biased 5 10) [] (true ∷ []) → ⊥
tails_of_rank_biased_precision_are_long h = let e = h.1.length_is in absurd (omega arith)
