-- Counts and scores of rankings in a completion.
use Rattle.std.proofs.Common.{◌≡◌, true, nat_eq, [], ◌∷◌, refl, Some}
use Rattle.desk_model.specs.Score.{true_count, true_among, first_true, score}
use Rattle.desk_model.specs.declared.types.MeasureName.TheVariants.{Precision, Recall, RPrecision, Reciprocal, Biased}
use Rattle.desk_laws.specs.Example.{a, b, parts, d3_false, d3_true, no_document, every_document}

-- ---- R: the number of true documents of the universe
pub relevant_documents : true_count d3_true 3 ≡ 2
relevant_documents = refl

pub no_relevant_document : true_count no_document 3 ≡ 0
no_relevant_document = refl

pub empty_universe : true_count every_document 0 ≡ 0
empty_universe = refl

-- ---- rel(k)
pub relevant_at_the_first_rank : true_among d3_true 1 a ≡ 1
relevant_at_the_first_rank = refl

pub relevant_beyond_the_ranking : true_among d3_true 5 a ≡ 2
relevant_beyond_the_ranking = refl

pub relevant_of_an_empty_ranking : true_among d3_true 5 [] ≡ 0
relevant_of_an_empty_ranking = refl

pub relevant_at_rank_two_of_b : true_among d3_true 2 b ≡ 1
relevant_at_rank_two_of_b = refl

-- ---- precision: rel(k) / k
pub precision_of_the_example : score (Precision 2) 3 d3_true a [] ≡ parts 2 2
precision_of_the_example = refl

pub precision_with_d3_false : score (Precision 2) 3 d3_false a [] ≡ parts 1 2
precision_with_d3_false = refl

-- k and not the length of the ranking is below
pub precision_beyond_the_ranking : score (Precision 5) 3 d3_true a [] ≡ parts 2 5
precision_beyond_the_ranking = refl

pub precision_of_an_empty_ranking : score (Precision 5) 3 d3_true [] [] ≡ parts 0 5
precision_of_an_empty_ranking = refl

-- ---- recall: rel(k) / R
pub recall_at_the_first_rank : score (Recall 1) 3 d3_true a [] ≡ parts 1 2
recall_at_the_first_rank = refl

pub recall_beyond_the_ranking : score (Recall 5) 3 d3_true a [] ≡ parts 2 2
recall_beyond_the_ranking = refl

pub recall_of_an_empty_ranking : score (Recall 5) 3 d3_true [] [] ≡ parts 0 2
recall_of_an_empty_ranking = refl

-- a true document that no run retrieved counts in R
pub recall_with_a_document_of_the_judgements_alone : score (Recall 2) 4 every_document a [] ≡ parts 2 4
recall_with_a_document_of_the_judgements_alone = refl

pub recall_with_no_relevant_document : score (Recall 2) 3 no_document a [] ≡ parts 0 1
recall_with_no_relevant_document = refl

-- ---- R-precision: rel(R) / R
pub r_precision_of_a : score RPrecision 3 d3_true a [] ≡ parts 2 2
r_precision_of_a = refl

pub r_precision_of_b : score RPrecision 3 d3_true b [] ≡ parts 1 2
r_precision_of_b = refl

-- with one relevant document the first rank alone counts
pub r_precision_at_the_first_rank : score RPrecision 3 (λ doc. nat_eq doc 2) a [] ≡ parts 0 1
r_precision_at_the_first_rank = refl

pub r_precision_with_more_relevant_documents_than_ranks : score RPrecision 4 every_document a [] ≡ parts 2 4
r_precision_with_more_relevant_documents_than_ranks = refl

pub r_precision_with_no_relevant_document : score RPrecision 3 no_document a [] ≡ parts 0 1
r_precision_with_no_relevant_document = refl

pub r_precision_of_an_empty_ranking : score RPrecision 3 d3_true [] [] ≡ parts 0 2
r_precision_of_an_empty_ranking = refl

-- ---- reciprocal rank: 1 / i for the first relevant rank i
pub first_relevant_rank_of_b : first_true d3_true b ≡ Some 2
first_relevant_rank_of_b = refl

pub reciprocal_rank_of_the_first : score Reciprocal 3 d3_true a [] ≡ parts 1 1
reciprocal_rank_of_the_first = refl

pub reciprocal_rank_of_the_second : score Reciprocal 3 d3_true b [] ≡ parts 1 2
reciprocal_rank_of_the_second = refl

pub reciprocal_rank_with_no_relevant_document : score Reciprocal 3 no_document a [] ≡ parts 0 1
reciprocal_rank_with_no_relevant_document = refl

pub reciprocal_rank_of_an_empty_ranking : score Reciprocal 3 every_document [] [] ≡ parts 0 1
reciprocal_rank_of_an_empty_ranking = refl

-- the tail is not looked at
pub reciprocal_rank_with_a_tail : score Reciprocal 3 no_document a (true ∷ []) ≡ parts 0 1
reciprocal_rank_with_a_tail = refl

pub precision_with_a_tail : score (Precision 3) 3 d3_true a (true ∷ []) ≡ parts 2 3
precision_with_a_tail = refl

-- ---- rank-biased precision, p = 5/10: (10 - 5) * (1 * 10 + 0 * 5) / 100
pub biased_precision_of_the_example : score (Biased 5 10) 3 d3_false a [] ≡ parts 50 100
biased_precision_of_the_example = refl

-- 1/2 + 1/4
pub biased_precision_of_both : score (Biased 5 10) 3 d3_true a [] ≡ parts 75 100
biased_precision_of_both = refl

-- a relevant place after the ranking has rank 3: 1/2 + 1/8
pub biased_precision_with_a_tail : score (Biased 5 10) 3 d3_false a (true ∷ []) ≡ parts 625 1000
biased_precision_with_a_tail = refl

-- p = 0.8, b = (not relevant, relevant): 2/10 * 8/10
pub biased_precision_of_a_patient_user : score (Biased 8 10) 3 d3_true b [] ≡ parts 16 100
biased_precision_of_a_patient_user = refl

pub biased_precision_of_an_empty_ranking : score (Biased 5 10) 3 d3_true [] [] ≡ parts 0 1
biased_precision_of_an_empty_ranking = refl

-- an empty ranking and one relevant place after it: 1/2
pub biased_precision_of_a_tail_alone : score (Biased 5 10) 3 d3_true [] (true ∷ []) ≡ parts 5 10
biased_precision_of_a_tail_alone = refl
