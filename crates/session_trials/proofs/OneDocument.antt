-- A desk of one topic with one document, for tests.
use Rattle.std.proofs.Common.{◌≡◌, ℕ, List, [], ◌∷◌, true, Bool, None, length, refl, arith}
use Rattle.std.specs.List.{IsDistinct}
use Rattle.std.specs.List.Sorted.{IsStrictlySortedBy}
use Rattle.std.specs.declared.cmp.Ordering.{Ordering}
use Rattle.std.proofs.lemmas.List.Elements.{All-from_recursion}
use Rattle.desk_model.specs.Book.{Book, IsBook}
use Rattle.desk_model.specs.Desk.{IsDesk, AreRankingsOver}
use Rattle.desk_model.specs.Name.{is_name, is_same_name, name_cmp}
use Rattle.desk_model.specs.Ranking.{IsRanking}
use Rattle.std.specs.Prelude.{nat_eq}

one_ascends : {K : Type 0} (c : K → K → Ordering) (x : K) → IsStrictlySortedBy c (x ∷ [])
unfolding IsStrictlySortedBy
one_ascends c x = (tt, tt)

one_distinct : {K : Type 0} (e : K → K → Bool) (x : K) → IsDistinct e (x ∷ [])
unfolding IsDistinct
one_distinct e x = (tt, tt)

none_distinct : {K : Type 0} (e : K → K → Bool) → IsDistinct e []
unfolding IsDistinct
none_distinct e = tt

pub no_ranks : (universe : ℕ) → IsRanking universe []
no_ranks universe = record { distinct = none_distinct nat_eq; within = λ k d lt. absurd (omega (arith, lt)); short = omega arith }

pub one_book : (name doc : List ℕ) → is_name name ≡ true → is_name doc ≡ true → IsBook (record { name = name; docs = doc ∷ []; grades = None ∷ [] })
one_book name doc n d = record {
  named = n;
  documents = All-from_recursion (λ each. is_name each ≡ true) (doc ∷ []) (d, tt);
  ascending = one_ascends name_cmp doc;
  small = omega arith;
  graded = refl;
}

pub one_desk : (book : Book) (run : List ℕ) → IsBook book → is_name run ≡ true → IsDesk (record { topics = book ∷ []; runs = run ∷ []; rankings = ([] ∷ []) ∷ [] })
one_desk book run b r = record {
  books = All-from_recursion IsBook (book ∷ []) (b, tt);
  ascending = one_ascends name_cmp book.name;
  some_topic = omega arith;
  topics = omega arith;
  named = All-from_recursion (λ each. is_name each ≡ true) (run ∷ []) (r, tt);
  distinct = one_distinct is_same_name run;
  some_run = omega arith;
  runs = omega arith;
  cells = omega arith;
  ranked = refl;
  rankings = All-from_recursion (AreRankingsOver (book ∷ [])) (([] ∷ []) ∷ []) ((no_ranks (length book.docs), tt), tt);
}
