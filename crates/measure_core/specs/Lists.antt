-- Lists of the documents that a completion adds to the judged relevant ones.
use Rattle.std.specs.Prelude.{◌≡◌, ℕ, ◌+◌, ◌<◌, ◌^◌, nat_eq, Bool, ◌&&◌, List, ◌++◌, length, filter, map, take, slice_index, Option}
use Rattle.std.specs.List.{count_by, range_with_len}
use Rattle.desk_model.specs.Mark.{is_unjudged, mark_at}
use Rattle.desk_model.specs.Ranking.{rank}
use Rattle.desk_model.specs.declared.placed.Placed.{Placed}
use Rattle.desk_model.specs.Completion.{with_picked}
use Rattle.desk_model.specs.declared.types.Mark.{Mark}
use Rattle.desk_model.specs.declared.types.MeasureName.{MeasureName}
use Rattle.measure_laws.specs.Cases.{least_truth}
use Rattle.measure_laws.specs.Prefixes.{only_second, neutral}

-- the unjudged documents that a completion of a topic makes relevant, ascending
abbrev pub added_documents : List Mark → (ℕ → Bool) → List ℕ
added_documents marks truth = filter (λ doc. is_unjudged (mark_at marks doc) && truth doc) (range_with_len 0 (length marks))

-- those that the least case of two rankings makes relevant
abbrev pub least_documents : MeasureName → List Mark → List ℕ → List ℕ → List ℕ
least_documents measure marks a b = added_documents marks (least_truth measure marks a b)

-- and with them those of the most case, which is the least case of the swapped rankings
abbrev pub case_documents : MeasureName → List Mark → List ℕ → List ℕ → List ℕ
case_documents measure marks a b = least_documents measure marks a b ++ least_documents measure marks b a

-- ---- how often lists have documents
abbrev pub times : List ℕ → ℕ → ℕ
times docs doc = count_by (λ each. nat_eq each doc) docs

-- counts, document by document, have room for those of a list, and are greater by these than others
abbrev pub HaveRoomFor : List ℕ → List ℕ → Type 0
HaveRoomFor counts docs = (doc : ℕ) → doc < length counts → slice_index counts doc + times docs doc < 2 ^ 32

abbrev pub AreCounted : List ℕ → List ℕ → List ℕ → Type 0
AreCounted before docs after = (doc : ℕ) → doc < length before → slice_index after doc ≡ slice_index before doc + times docs doc

-- ---- documents by their ranks
-- the documents whose ranks in two rankings pass a test
abbrev pub passes_by_ranks : (Option ℕ → Option ℕ → Bool) → List ℕ → List ℕ → ℕ → Bool
passes_by_ranks test a b doc = test (rank a doc) (rank b doc)

-- the unjudged documents of some places where their places pass a test
abbrev pub placed_documents : List Mark → (Placed → Bool) → List Placed → List ℕ
placed_documents marks test places = map (λ (p : Placed). p.doc) (filter (λ (p : Placed). is_unjudged (mark_at marks p.doc) && test p) places)

-- the first unjudged documents whose ranks in two rankings pass a test, so many at most
abbrev pub first_by_ranks : ℕ → (Option ℕ → Option ℕ → Bool) → List Mark → List ℕ → List ℕ → List ℕ
first_by_ranks most test marks a b = take most (added_documents marks (with_picked marks (passes_by_ranks test a b)))

-- the unjudged documents that the second of two rankings alone has among its first k
abbrev pub own_documents : ℕ → List Mark → List ℕ → List ℕ → List ℕ
own_documents k marks a b = added_documents marks (with_picked marks (only_second k a b))

-- the first ones of those that both or neither have there, so many at most
abbrev pub first_neutral : ℕ → ℕ → List Mark → List ℕ → List ℕ → List ℕ
first_neutral k most marks a b = take most (added_documents marks (with_picked marks (neutral k a b)))
