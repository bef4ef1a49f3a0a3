-- The candidates of average precision: the completions in which a run's score is greatest or least where so many of its unjudged documents are
-- relevant; and the bounds of a run.
use Rattle.std.specs.Prelude.{ℕ, ◌-◌, min, nat_lt, Bool, not, ◌||◌, if◌then◌else◌, List, [], ◌∷◌, length, take, drop, filter}
use Rattle.std.specs.List.{range_with_len}
use Rattle.desk_model.specs.Completion.{with_picked}
use Rattle.desk_model.specs.Limits.{PARTS_OF_ONE}
use Rattle.desk_model.specs.Mark.{is_unjudged, mark_at}
use Rattle.desk_model.specs.Ranking.{is_in}
use Rattle.desk_model.specs.declared.types.Mark.{Mark}
use Rattle.measure_laws.specs.Parts.{low_average, high_average}

-- the unjudged documents of a ranking, in its order
abbrev pub open_docs : List Mark → List ℕ → List ℕ
open_docs marks docs = filter (λ doc. is_unjudged (mark_at marks doc)) docs

-- the t unjudged documents of smallest rank are true
abbrev pub high_truth : List Mark → List ℕ → ℕ → ℕ → Bool
high_truth marks docs t = with_picked marks (is_in (take t (open_docs marks docs)))

-- the t unjudged documents of greatest rank are true, and all unjudged ones that the ranking lacks
abbrev pub low_truth : List Mark → List ℕ → ℕ → ℕ → Bool
low_truth marks docs t = with_picked marks (λ doc. is_in (drop (length (open_docs marks docs) - t) (open_docs marks docs)) doc || not (is_in docs doc))

-- the numbers of the candidates after the first
abbrev pub later_candidates : List Mark → List ℕ → List ℕ
later_candidates marks docs = range_with_len 1 (length (open_docs marks docs))

-- the first of some candidates whose number is the smallest, and the greatest
abbrev pub first_smallest : (ℕ → ℕ) → ℕ → List ℕ → ℕ
first_smallest number best [] = best
first_smallest number best (t ∷ ts) = first_smallest number (if nat_lt (number t) (number best) then t else best) ts

abbrev pub first_greatest : (ℕ → ℕ) → ℕ → List ℕ → ℕ
first_greatest number best [] = best
first_greatest number best (t ∷ ts) = first_greatest number (if nat_lt (number best) (number t) then t else best) ts

-- the low candidate with the least average rounded down, and the high one with the greatest rounded up, each the first of its kind
abbrev pub low_choice : List Mark → List ℕ → ℕ
low_choice marks docs = first_smallest (λ t. low_average (length marks) (low_truth marks docs t) docs) 0 (later_candidates marks docs)

abbrev pub high_choice : List Mark → List ℕ → ℕ
high_choice marks docs = first_greatest (λ t. high_average (length marks) (high_truth marks docs t) docs) 0 (later_candidates marks docs)

-- the bounds of a run
unfoldable pub average_bound_lo : List Mark → List ℕ → ℕ
average_bound_lo marks docs = low_average (length marks) (low_truth marks docs (low_choice marks docs)) docs

unfoldable pub average_bound_hi : List Mark → List ℕ → ℕ
average_bound_hi marks docs = min PARTS_OF_ONE (high_average (length marks) (high_truth marks docs (high_choice marks docs)) docs)
