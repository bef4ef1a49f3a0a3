-- Universes, rankings, pools and desks.
use Rattle.std.proofs.Common.{◌≡◌, ℕ, ◌<◌, true, false, [], ◌∷◌, length, refl, Some, None, arith, lit<, lit≤}
use Rattle.std.specs.Prelude.{codes}
use Rattle.std.proofs.lemmas.List.Elements.{All-from_recursion}
use Rattle.std.specs.List.{IsDistinct}
use Rattle.std.specs.List.Sorted.{IsStrictlySortedBy}
use Rattle.desk_model.specs.Book.{IsBook, file_grade_of}
use Rattle.desk_model.specs.Desk.{IsDesk, AreRankingsOver, pair_count, ranking_of, is_pooled, file_marks, AreMarksOf, topics_under}
use Rattle.desk_model.specs.Name.{is_name}
use Rattle.desk_model.specs.Pairs.{pairs_of}
use Rattle.desk_model.specs.Ranking.{IsRanking, rank, is_in}
use Rattle.desk_model.specs.declared.types.Mark.TheVariants.{Unjudged, Relevant, Other}
use Rattle.desk_laws.specs.Example.{topic_401, two_runs, two_topics, marks_401, a, b}

-- ---- ranks, from 1
pub rank_of_the_best : rank a 0 ≡ Some 1
rank_of_the_best = refl

pub rank_of_the_second : rank a 2 ≡ Some 2
rank_of_the_second = refl

pub rank_of_a_document_not_retrieved : rank a 1 ≡ None
rank_of_a_document_not_retrieved = refl

pub rank_in_an_empty_ranking : rank [] 0 ≡ None
rank_in_an_empty_ranking = refl

pub document_in_a_ranking : is_in b 2 ≡ true
document_in_a_ranking = refl

pub document_in_an_empty_ranking : is_in [] 2 ≡ false
document_in_an_empty_ranking = refl

-- ---- rankings of a universe of three documents
pub ranking_of_two_documents : IsRanking 3 a
unfolding IsDistinct
ranking_of_two_documents = record { distinct = ((refl, tt), (tt, tt)); within = All-from_recursion (λ doc. doc < 3) (0 ∷ 2 ∷ []) (lit< tt, (lit< tt, tt)); short = lit≤ tt }

pub ranking_of_run_b_is_one : IsRanking 3 b
unfolding IsDistinct
ranking_of_run_b_is_one = record { distinct = ((refl, tt), (tt, tt)); within = All-from_recursion (λ doc. doc < 3) (1 ∷ 2 ∷ []) (lit< tt, (lit< tt, tt)); short = lit≤ tt }

pub empty_ranking_of_an_empty_universe : IsRanking 0 []
unfolding IsDistinct
empty_ranking_of_an_empty_universe = record { distinct = tt; within = All-from_recursion (λ doc. doc < 0) [] tt; short = lit≤ tt }

pub ranking_with_a_document_twice : IsRanking 3 (1 ∷ 1 ∷ []) → ⊥
unfolding IsDistinct
ranking_with_a_document_twice h = let e = h.distinct.0.0 in absurd (cc)

pub ranking_with_a_document_of_another_universe : IsRanking 3 (3 ∷ []) → ⊥
ranking_with_a_document_of_another_universe h = let e = h.within 0 0 (lit< tt) in absurd (omega arith)

-- ---- the rankings of a desk's runs; a run that lacks a topic has the empty one
pub ranking_of_run_b : ranking_of two_runs 1 0 ≡ 1 ∷ 2 ∷ []
ranking_of_run_b = refl

pub ranking_of_a_run_without_the_topic : ranking_of two_topics 0 1 ≡ []
ranking_of_a_run_without_the_topic = refl

-- ---- the pool of depth 1 is d1 and d2, that of depth 2 all three
pub d1_in_the_pool_of_depth_one : is_pooled two_runs 0 1 0 ≡ true
d1_in_the_pool_of_depth_one = refl

pub d2_in_the_pool_of_depth_one : is_pooled two_runs 0 1 1 ≡ true
d2_in_the_pool_of_depth_one = refl

pub d3_outside_the_pool_of_depth_one : is_pooled two_runs 0 1 2 ≡ false
d3_outside_the_pool_of_depth_one = refl

pub d3_in_the_pool_of_depth_two : is_pooled two_runs 0 2 2 ≡ true
d3_in_the_pool_of_depth_two = refl

pub depth_beyond_the_rankings : is_pooled two_runs 0 100 2 ≡ true
depth_beyond_the_rankings = refl

-- B alone has topic 402, and its d9 is in the pool
pub pool_with_a_run_without_the_topic : is_pooled two_topics 1 1 0 ≡ true
pool_with_a_run_without_the_topic = refl

pub pool_of_depth_zero : is_pooled two_runs 0 0 0 ≡ false
pool_of_depth_zero = refl

-- ---- grades and marks by the judgements file
pub grade_of_an_unlisted_document : file_grade_of topic_401 2 ≡ None
grade_of_an_unlisted_document = refl

pub marks_at_level_one : file_marks 1 topic_401 ≡ Relevant ∷ Other ∷ Unjudged ∷ []
marks_at_level_one = refl

pub marks_at_level_two : file_marks 2 topic_401 ≡ Other ∷ Other ∷ Unjudged ∷ []
marks_at_level_two = refl

pub marks_of_an_empty_universe : file_marks 1 (record { name = codes "403"; docs = []; grades = [] }) ≡ []
marks_of_an_empty_universe = refl

-- ---- topics as completions see them
pub topic_of_two_runs : topics_under two_runs (marks_401 ∷ []) ≡ record { marks = Relevant ∷ Other ∷ Unjudged ∷ []; ranking = λ run. ranking_of two_runs run 0 } ∷ []
topic_of_two_runs = refl

pub number_of_topics : length (topics_under two_topics (marks_401 ∷ (Relevant ∷ []) ∷ [])) ≡ 2
number_of_topics = refl

pub topics_without_marks : topics_under two_runs [] ≡ []
topics_without_marks = refl

pub marks_of_another_number_of_topics : AreMarksOf two_runs [] → ⊥
marks_of_another_number_of_topics h = h

-- ---- pairs of runs: none of one run, one of two, three of three
pub pairs_of_one_run : pair_count 1 ≡ 0
pairs_of_one_run = refl

pub pairs_of_two_runs : pair_count 2 ≡ 1
pairs_of_two_runs = refl

pub pairs_of_all_runs_allowed : pair_count 256 ≡ 32640
pairs_of_all_runs_allowed = refl

pub order_of_pairs : pairs_of {X = ℕ} (0 ∷ 1 ∷ 2 ∷ []) ≡ (0, 1) ∷ (0, 2) ∷ (1, 2) ∷ []
order_of_pairs = refl

pub no_pair_of_one_run : pairs_of {X = ℕ} (0 ∷ []) ≡ []
no_pair_of_one_run = refl

-- ---- books: names ascend, and each document has a place for its grade
pub book_of_the_example : IsBook topic_401
unfolding IsStrictlySortedBy
book_of_the_example = record {
  named = refl;
  documents = All-from_recursion (λ doc. is_name doc ≡ true) topic_401.docs (refl, (refl, (refl, tt)));
  ascending = ((refl, (refl, tt)), ((refl, tt), (tt, tt)));
  small = lit≤ tt;
  graded = refl;
}

pub book_without_documents : IsBook (record { name = codes "403"; docs = []; grades = [] })
unfolding IsStrictlySortedBy
book_without_documents = record { named = refl; documents = All-from_recursion (λ doc. is_name doc ≡ true) [] tt; ascending = tt; small = lit≤ tt; graded = refl }

pub book_out_of_order : IsBook (record { name = codes "401"; docs = codes "d2" ∷ codes "d10" ∷ []; grades = None ∷ None ∷ [] }) → ⊥
unfolding IsStrictlySortedBy
book_out_of_order h = let e = h.ascending.0.0 in absurd (cc)

-- ---- desks
pub desk_of_the_example : IsDesk two_runs
unfolding IsDistinct IsStrictlySortedBy
desk_of_the_example = record {
  books = All-from_recursion IsBook two_runs.topics (book_of_the_example, tt);
  ascending = (tt, tt);
  some_topic = lit< tt;
  topics = lit≤ tt;
  named = All-from_recursion (λ run. is_name run ≡ true) two_runs.runs (refl, (refl, tt));
  distinct = ((refl, tt), (tt, tt));
  some_run = lit< tt;
  runs = lit≤ tt;
  cells = lit≤ tt;
  ranked = refl;
  rankings = All-from_recursion (AreRankingsOver two_runs.topics) two_runs.rankings ((ranking_of_two_documents, tt), ((ranking_of_run_b_is_one, tt), tt));
}

-- a run without the topic has a ranking there, the empty one: no ranking at all is no desk
pub desk_with_a_ranking_missing : IsDesk (record { topics = topic_401 ∷ []; runs = codes "A" ∷ []; rankings = [] ∷ [] }) → ⊥
desk_with_a_ranking_missing h = h.rankings 0 [] (lit< tt)

pub desk_without_runs : IsDesk (record { topics = topic_401 ∷ []; runs = []; rankings = [] }) → ⊥
desk_without_runs h = let e = h.some_run in absurd (omega arith)

pub desk_without_topics : IsDesk (record { topics = []; runs = codes "A" ∷ []; rankings = [] ∷ [] }) → ⊥
desk_without_topics h = let e = h.some_topic in absurd (omega arith)
