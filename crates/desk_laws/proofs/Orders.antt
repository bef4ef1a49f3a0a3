-- The order of a topic's rows, the desk of the rows of files, and the pool.
use Rattle.std.proofs.Common.{◌≡◌, ℕ, ◌<◌, zero, suc, Bool, true, false, ◌||◌, List, [], ◌∷◌, slice_index_or, refl, ap, subst, Some, None, ℤ, pos, negsuc, arith, lit<, lit≤}
use Rattle.std.specs.Prelude.{codes, Option, slice_get}
use Rattle.std.specs.Str.{bytes_eq}
use Rattle.std.specs.List.{IsDistinct}
use Rattle.std.specs.List.Sorted.{IsStrictlySortedBy}
use Rattle.std.specs.declared.cmp.Ordering.TheVariants.{Less, Equal, Greater}
use Rattle.std.proofs.lemmas.List.Elements.{All-from_recursion}
use Rattle.desk_model.specs.Book.{Book, IsBook, file_grade_of}
use Rattle.desk_model.specs.Desk.{Desk, IsDesk, AreRankingsOver, ranking_of}
use Rattle.desk_model.specs.Name.{is_name}
use Rattle.desk_model.specs.Ranking.{IsRanking}
use Rattle.desk_model.specs.declared.types.Mark.{Mark}
use Rattle.desk_model.specs.declared.types.Mark.TheVariants.{Unjudged, Relevant, Other}
use Rattle.file_rows.specs.Grouped.{TopicRows, rows_in, Valued}
use Rattle.run_reader.specs.Run.{Run, rows_on_topic}
use Rattle.topic_universe.specs.Order.{trec_cmp, IsTrecOrder}
use Rattle.topic_universe.proofs.Unique.{one_order}
use Rattle.topics_pool.specs.Names.{HaveSameNames}
use Rattle.topics_pool.specs.Rows.{names_on, grade_in, doc_names, IsBookOf, IsDeskOf, first_repeated, cells_of, IsNoFault, IsFaultOf}
use Rattle.topics_pool.specs.Pool.{pool_of, IsCountOf}
use Rattle.topics_pool.specs.declared.fault.DeskFault.TheVariants.{SameName, TooManyCells}
use Rattle.desk_laws.proofs.Names.{different}

-- a row: a document and the value of its score
abbrev row : List ℕ → ℤ → Valued
row document score = record { document = document; value = score }

-- ---- the greater score stands first, and of equal scores the greater name
pub greater_score_first : trec_cmp (row (codes "d1") (pos 2)) (row (codes "d9") (pos 1)) ≡ Less
greater_score_first = refl

pub greater_name_first : trec_cmp (row (codes "d2") (pos 1)) (row (codes "d1") (pos 1)) ≡ Less
greater_name_first = refl

pub negative_score_last : trec_cmp (row (codes "d2") (negsuc 0)) (row (codes "d1") (pos 0)) ≡ Greater
negative_score_last = refl

pub row_beside_itself : trec_cmp (row (codes "d1") (pos 1)) (row (codes "d1") (pos 1)) ≡ Equal
row_beside_itself = refl

-- d1 and d2 with equal scores
pub order_of_equal_scores : IsTrecOrder (row (codes "d1") (pos 1) ∷ row (codes "d2") (pos 1) ∷ []) (codes "d2" ∷ codes "d1" ∷ [])
unfolding IsStrictlySortedBy
order_of_equal_scores = record {
  ranked = row (codes "d2") (pos 1) ∷ row (codes "d1") (pos 1) ∷ [];
  once = record { moves = (0, 1) ∷ []; below = (lit< tt, lit< tt, tt); is = refl };
  ordered = ((refl, tt), (tt, tt));
  are_names = refl;
}

-- no other order of the two
pub order_of_the_file : IsTrecOrder (row (codes "d1") (pos 1) ∷ row (codes "d2") (pos 1) ∷ []) (codes "d1" ∷ codes "d2" ∷ []) → ⊥
order_of_the_file h =
    let same = one_order (row (codes "d1") (pos 1) ∷ row (codes "d2") (pos 1) ∷ []) (codes "d1" ∷ codes "d2" ∷ []) (codes "d2" ∷ codes "d1" ∷ []) h order_of_equal_scores in
    different (codes "d1") (codes "d2") refl refl (ap (λ names. slice_index_or names 0 []) same)

pub order_of_no_rows : IsTrecOrder [] []
unfolding IsStrictlySortedBy
order_of_no_rows = record { ranked = []; once = record { moves = []; below = tt; is = refl }; ordered = tt; are_names = refl }

-- ---- the judgements list c with grade 2 and a with grade 0 on topic 401; the first run has c and d, the second e and a
abbrev qrels : List TopicRows
qrels = record { name = codes "401"; rows = record { document = codes "c"; value = pos 2 } ∷ record { document = codes "a"; value = pos 0 } ∷ [] } ∷ []

abbrev first_run : Run
first_run = record { name = codes "one"; topics = record { name = codes "401"; rows = row (codes "c") (pos 9) ∷ row (codes "d") (pos 8) ∷ [] } ∷ []; used = record { rows = 2; name_bytes = 4 } }

-- its rows stand in the file from the smaller score to the greater
abbrev second_run : Run
second_run = record { name = codes "two"; topics = record { name = codes "401"; rows = row (codes "a") (pos 3) ∷ row (codes "e") (pos 5) ∷ [] } ∷ []; used = record { rows = 4; name_bytes = 6 } }

-- the universe is a, c, d, e
abbrev book : Book
book = record { name = codes "401"; docs = codes "a" ∷ codes "c" ∷ codes "d" ∷ codes "e" ∷ []; grades = Some (pos 0) ∷ Some (pos 2) ∷ None ∷ None ∷ [] }

abbrev desk : Desk
desk = record { topics = book ∷ []; runs = codes "one" ∷ codes "two" ∷ []; rankings = ((1 ∷ 2 ∷ []) ∷ []) ∷ ((3 ∷ 0 ∷ []) ∷ []) ∷ [] }

abbrev marks : List Mark
marks = Other ∷ Relevant ∷ Unjudged ∷ Unjudged ∷ []

pub names_in_the_rows : names_on qrels (first_run ∷ second_run ∷ []) (codes "401") ≡ codes "c" ∷ codes "a" ∷ codes "c" ∷ codes "d" ∷ codes "a" ∷ codes "e" ∷ []
names_in_the_rows = refl

pub no_names_on_another_topic : names_on qrels (first_run ∷ second_run ∷ []) (codes "402") ≡ []
no_names_on_another_topic = refl

any_order : (a c d e : Bool) → (a || (c || (d || (e || false)))) ≡ (c || (a || (c || (d || (a || (e || false))))))
any_order true true d e = refl
any_order true false d e = refl
any_order false true d e = refl
any_order false false true e = refl
any_order false false false true = refl
any_order false false false false = refl

pub universe_of_the_rows : HaveSameNames (codes "a" ∷ codes "c" ∷ codes "d" ∷ codes "e" ∷ []) (names_on qrels (first_run ∷ second_run ∷ []) (codes "401"))
universe_of_the_rows name = any_order (bytes_eq name (codes "a")) (bytes_eq name (codes "c")) (bytes_eq name (codes "d")) (bytes_eq name (codes "e"))

pub universe_without_a_retrieved_document : HaveSameNames (codes "a" ∷ codes "c" ∷ codes "d" ∷ []) (names_on qrels (first_run ∷ second_run ∷ []) (codes "401")) → ⊥
universe_without_a_retrieved_document h = let e = h (codes "e") in absurd (cc)

pub universe_of_no_rows : HaveSameNames [] (names_on [] [] (codes "401"))
universe_of_no_rows name = refl

pub grade_that_is_listed : grade_in (record { document = codes "c"; value = pos 2 } ∷ []) (codes "c") ≡ Some (pos 2)
grade_that_is_listed = refl

pub grade_that_is_not_listed : grade_in (record { document = codes "c"; value = pos 2 } ∷ []) (codes "d") ≡ None
grade_that_is_not_listed = refl

-- what holds of the value that is there
there : (P : List ℕ → Type 0) (x name : List ℕ) → P x → Some x ≡ Some name → P name
there P x name p e = let same : x ≡ name = cc in subst P same p

abbrev graded_as : Option ℤ → List ℕ → Type 0
graded_as grade name = grade ≡ grade_in (rows_in (codes "401") qrels) name

pub book_of_the_rows : IsBookOf qrels (first_run ∷ second_run ∷ []) book
book_of_the_rows = record { universe = universe_of_the_rows; grades = graded }
  where
    graded : (doc : ℕ) (name : List ℕ) → slice_get book.docs doc ≡ Some name → file_grade_of book doc ≡ grade_in (rows_in book.name qrels) name
    graded zero name h = there (graded_as (Some (pos 0))) (codes "a") name refl h
    graded (suc zero) name h = there (graded_as (Some (pos 2))) (codes "c") name refl h
    graded (suc (suc zero)) name h = there (graded_as None) (codes "d") name refl h
    graded (suc (suc (suc zero))) name h = there (graded_as None) (codes "e") name refl h
    graded (suc (suc (suc (suc doc)))) name h = absurd (cc)

-- the first run ranks c, d and the second e, a
order_of_the_first_run : IsTrecOrder (row (codes "c") (pos 9) ∷ row (codes "d") (pos 8) ∷ []) (codes "c" ∷ codes "d" ∷ [])
unfolding IsStrictlySortedBy
order_of_the_first_run = record {
  ranked = row (codes "c") (pos 9) ∷ row (codes "d") (pos 8) ∷ [];
  once = record { moves = []; below = tt; is = refl };
  ordered = ((refl, tt), (tt, tt));
  are_names = refl;
}

order_of_the_second_run : IsTrecOrder (row (codes "a") (pos 3) ∷ row (codes "e") (pos 5) ∷ []) (codes "e" ∷ codes "a" ∷ [])
unfolding IsStrictlySortedBy
order_of_the_second_run = record {
  ranked = row (codes "e") (pos 5) ∷ row (codes "a") (pos 3) ∷ [];
  once = record { moves = (0, 1) ∷ []; below = (lit< tt, lit< tt, tt); is = refl };
  ordered = ((refl, tt), (tt, tt));
  are_names = refl;
}

abbrev ranks_its_rows : ℕ → Run → Book → Type 0
ranks_its_rows r run topic = IsTrecOrder (rows_on_topic run topic.name) (doc_names topic (ranking_of desk r 0))

same_value : {X : Type 0} (x y : X) → Some x ≡ Some y → x ≡ y
same_value x y e = cc

-- ---- the desk of the rows is a valid one
valid_book : IsBook book
unfolding IsStrictlySortedBy
valid_book = record {
  named = refl;
  documents = All-from_recursion (λ doc. is_name doc ≡ true) book.docs (refl, (refl, (refl, (refl, tt))));
  ascending = ((refl, (refl, (refl, tt))), ((refl, (refl, tt)), ((refl, tt), (tt, tt))));
  small = lit≤ tt;
  graded = refl;
}

first_ranking : IsRanking 4 (1 ∷ 2 ∷ [])
unfolding IsDistinct
first_ranking = record { distinct = ((refl, tt), (tt, tt)); within = All-from_recursion (λ doc. doc < 4) (1 ∷ 2 ∷ []) (lit< tt, (lit< tt, tt)); short = lit≤ tt }

second_ranking : IsRanking 4 (3 ∷ 0 ∷ [])
unfolding IsDistinct
second_ranking = record { distinct = ((refl, tt), (tt, tt)); within = All-from_recursion (λ doc. doc < 4) (3 ∷ 0 ∷ []) (lit< tt, (lit< tt, tt)); short = lit≤ tt }

valid_desk : IsDesk desk
unfolding IsDistinct IsStrictlySortedBy
valid_desk = record {
  books = All-from_recursion IsBook desk.topics (valid_book, tt);
  ascending = (tt, tt);
  some_topic = lit< tt;
  topics = lit≤ tt;
  named = All-from_recursion (λ run. is_name run ≡ true) desk.runs (refl, (refl, tt));
  distinct = ((refl, tt), (tt, tt));
  some_run = lit< tt;
  runs = lit≤ tt;
  cells = lit≤ tt;
  ranked = refl;
  rankings = All-from_recursion (AreRankingsOver desk.topics) desk.rankings ((first_ranking, tt), ((second_ranking, tt), tt));
}

pub desk_of_the_rows : IsDeskOf qrels (first_run ∷ second_run ∷ []) desk
desk_of_the_rows = record {
  valid = valid_desk;
  topics = λ name. refl;
  books = All-from_recursion (IsBookOf qrels (first_run ∷ second_run ∷ [])) desk.topics (book_of_the_rows, tt);
  run_names = refl;
  rankings = ranked;
}
  where
    ranked : (r t : ℕ) (run : Run) (topic : Book) → slice_get (first_run ∷ second_run ∷ []) r ≡ Some run → slice_get desk.topics t ≡ Some topic →
        IsTrecOrder (rows_on_topic run topic.name) (doc_names topic (ranking_of desk r t))
    ranked zero zero run topic e f = subst (ranks_its_rows 0 run) (same_value book topic f) (subst (λ x. ranks_its_rows 0 x book) (same_value first_run run e) order_of_the_first_run)
    ranked (suc zero) zero run topic e f = subst (ranks_its_rows 1 run) (same_value book topic f) (subst (λ x. ranks_its_rows 1 x book) (same_value second_run run e) order_of_the_second_run)
    ranked (suc (suc r)) zero run topic e f = absurd (cc)
    ranked r (suc t) run topic e f = absurd (cc)

-- no desk has no topic
pub desk_of_no_rows : IsDeskOf [] [] (record { topics = []; runs = []; rankings = [] }) → ⊥
desk_of_no_rows h = let e = h.valid.some_topic in absurd (omega arith)

-- a desk that lists a topic twice is of no rows
pub desk_with_its_topic_twice : (rows : List TopicRows) (runs : List Run) (rankings : List (List (List ℕ))) → IsDeskOf rows runs (record { topics = book ∷ book ∷ []; runs = desk.runs; rankings = rankings }) → ⊥
unfolding IsStrictlySortedBy
desk_with_its_topic_twice rows runs rankings h = let e = h.valid.ascending.0.0 in absurd (cc)

-- the runs in another order are another desk
pub desk_of_the_runs_swapped : IsDeskOf qrels (second_run ∷ first_run ∷ []) desk → ⊥
desk_of_the_runs_swapped h = different (codes "one") (codes "two") refl refl (ap (λ names. slice_index_or names 0 []) h.run_names)

-- ---- rows that make no desk
pub different_run_names : first_repeated (codes "one" ∷ codes "two" ∷ []) ≡ None
different_run_names = refl

pub second_of_two_same_names : first_repeated (codes "one" ∷ codes "two" ∷ codes "one" ∷ codes "two" ∷ []) ≡ Some 2
second_of_two_same_names = refl

pub no_run_names : first_repeated [] ≡ None
no_run_names = refl

pub cells_of_two_runs : cells_of qrels (first_run ∷ second_run ∷ []) ≡ 1
cells_of_two_runs = refl

pub cells_of_one_run : cells_of qrels (first_run ∷ []) ≡ 0
cells_of_one_run = refl

pub two_runs_make_a_desk : IsNoFault qrels (first_run ∷ second_run ∷ [])
two_runs_make_a_desk = record { names = refl; cells = lit≤ tt }

pub same_run_twice : IsFaultOf qrels (first_run ∷ first_run ∷ []) (SameName 1)
same_run_twice = refl

pub few_cells_are_no_fault : IsFaultOf qrels (first_run ∷ second_run ∷ []) (TooManyCells 1) → ⊥
few_cells_are_no_fault h = let e = h.2 in absurd (omega arith)

-- ---- the pool of depth 1 is c and e: one judged and relevant, one unjudged
pub pool_of_depth_one : pool_of desk 0 1 ≡ 1 ∷ 3 ∷ []
pool_of_depth_one = refl

pub pool_beyond_the_rankings : pool_of desk 0 100 ≡ 0 ∷ 1 ∷ 2 ∷ 3 ∷ []
pool_beyond_the_rankings = refl

pub pool_of_no_topic : pool_of desk 1 1 ≡ []
pool_of_no_topic = refl

pub count_of_depth_one : IsCountOf (1 ∷ 3 ∷ []) marks (record { size = 2; judged = 1; relevant = 1; unjudged = 1 })
count_of_depth_one = record { size = refl; judged = refl; relevant = refl; unjudged = refl }

pub count_of_the_whole_universe : IsCountOf (0 ∷ 1 ∷ 2 ∷ 3 ∷ []) marks (record { size = 4; judged = 2; relevant = 1; unjudged = 2 })
count_of_the_whole_universe = record { size = refl; judged = refl; relevant = refl; unjudged = refl }

pub count_of_an_empty_pool : IsCountOf [] marks (record { size = 0; judged = 0; relevant = 0; unjudged = 0 })
count_of_an_empty_pool = record { size = refl; judged = refl; relevant = refl; unjudged = refl }
