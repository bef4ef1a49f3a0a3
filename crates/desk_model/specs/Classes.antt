-- Precision by classes of documents: those of one ranking's first k alone, taken or not where they are unjudged.
use Rattle.std.specs.Prelude.{ℕ, Bool, true, false, not, ◌&&◌, List, take, count_by, ℤ, pos, ◌-ℤ◌}
use Rattle.desk_model.specs.Completion.{with_picked}
use Rattle.desk_model.specs.Ranking.{is_in}
use Rattle.desk_model.specs.Extremes.{Ends}
use Rattle.desk_model.specs.declared.types.Mark.{Mark}

-- how many documents of a list are true and not in another, where the unjudged ones are all true or all false
abbrev pub only_count : Bool → List Mark → List ℕ → List ℕ → ℕ
only_count taken marks docs others = count_by (λ doc. with_picked marks (λ _. taken) doc && not (is_in others doc)) docs

-- k times the least difference: a's own relevant documents, less b's own that are relevant or unjudged
abbrev pub precision_least : ℕ → List Mark → List ℕ → List ℕ → ℤ
precision_least k marks a b =
    pos (only_count false marks (take k a) (take k b)) -ℤ pos (only_count true marks (take k b) (take k a))

-- k times the greatest difference: a's own documents that are relevant or unjudged, less b's own relevant ones
abbrev pub precision_most : ℕ → List Mark → List ℕ → List ℕ → ℤ
precision_most k marks a b =
    pos (only_count true marks (take k a) (take k b)) -ℤ pos (only_count false marks (take k b) (take k a))

-- the ends of a topic under precision, which are whole numbers of units
abbrev pub precision_ends : ℕ → List Mark → List ℕ → List ℕ → Ends
precision_ends k marks a b = record {
  least_lo = precision_least k marks a b;
  least_hi = precision_least k marks a b;
  most_lo = precision_most k marks a b;
  most_hi = precision_most k marks a b;
}

-- how many of a ranking's first k are true, where the unjudged ones are all true or all false
abbrev pub prefix_count : Bool → ℕ → List Mark → List ℕ → ℕ
prefix_count taken k marks a = count_by (with_picked marks (λ _. taken)) (take k a)
