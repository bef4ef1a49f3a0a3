-- The ends of average precision for two rankings on a topic, its least case, and the ends of one completion.
use Rattle.std.specs.Prelude.{◌≡◌, ℕ, nat_eq, Bool, false, int_lt, if◌then◌else◌, List, length, ℤ, pos, neg_ℤ, ◌-ℤ◌}
use Rattle.std.specs.Cmp.Lexicographic.{pointwise}
use Rattle.desk_model.specs.Completion.{with_picked}
use Rattle.desk_model.specs.Extremes.{Ends}
use Rattle.desk_model.specs.declared.types.Mark.{Mark}
use Rattle.measure_laws.specs.Parts.{low_average, high_average}
use Rattle.measure_laws.specs.Candidates.{high_truth, low_truth, high_choice, low_choice, average_bound_lo, average_bound_hi}

-- whether two rankings are one list of documents
abbrev pub is_same_list : List ℕ → List ℕ → Bool
is_same_list a b = pointwise nat_eq a b

-- the upper end of S times the difference where these documents are true: a's average rounded up less b's rounded down, and 0 of one list
abbrev pub average_upper_end : ℕ → (ℕ → Bool) → List ℕ → List ℕ → ℤ
average_upper_end universe truth a b =
    if is_same_list a b then pos 0 else pos (high_average universe truth a) -ℤ pos (low_average universe truth b)

-- the completions that the least case is chosen of: b's high one and a's low one
abbrev pub high_case : List Mark → List ℕ → ℕ → Bool
high_case marks b = high_truth marks b (high_choice marks b)

abbrev pub low_case : List Mark → List ℕ → ℕ → Bool
low_case marks a = low_truth marks a (low_choice marks a)

-- the documents that are true in the least case: those of the one with the smaller upper end, of b's high one where they are even
unfoldable pub average_truth : List Mark → List ℕ → List ℕ → ℕ → Bool
average_truth marks a b =
    if is_same_list a b then with_picked marks (λ _. false)
    else if int_lt (average_upper_end (length marks) (low_case marks a) a b) (average_upper_end (length marks) (high_case marks b) a b) then low_case marks a
    else high_case marks b

-- the ends of the least difference
abbrev pub average_least_lo : List Mark → List ℕ → List ℕ → ℤ
average_least_lo marks a b = if is_same_list a b then pos 0 else pos (average_bound_lo marks a) -ℤ pos (average_bound_hi marks b)

abbrev pub average_least_hi : List Mark → List ℕ → List ℕ → ℤ
average_least_hi marks a b = average_upper_end (length marks) (average_truth marks a b) a b

-- the four ends: the greatest difference is the least one of the swapped runs, negated
abbrev pub average_ends : List Mark → List ℕ → List ℕ → Ends
average_ends marks a b = record {
  least_lo = average_least_lo marks a b;
  least_hi = average_least_hi marks a b;
  most_lo = neg_ℤ (average_least_hi marks b a);
  most_hi = neg_ℤ (average_least_lo marks b a);
}
