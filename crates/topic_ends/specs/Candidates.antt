-- The candidates of a run, from which its bounds under average precision are: on the high side the first of its unjudged documents are relevant,
-- on the low side the later ones, with the unjudged documents that the ranking lacks.
use Rattle.std.specs.Prelude.{ℕ, zero, suc, ◌+◌, ◌-◌, Bool, true, false, not, if◌then◌else◌, List, [], ◌∷◌, length, map}
use Rattle.desk_model.specs.Completion.{picked_value}
use Rattle.desk_model.specs.Mark.{is_unjudged, mark_at}
use Rattle.desk_model.specs.Precisions.{true_ranks}
use Rattle.desk_model.specs.Score.{true_count}
use Rattle.desk_model.specs.declared.types.Mark.{Mark}
use Rattle.measure_laws.specs.Candidates.{open_docs, high_truth, low_truth, average_bound_lo, average_bound_hi}
use Rattle.measure_laws.specs.Parts.{ranked_sum, low_out_of, high_out_of, low_average, high_average}
use Rattle.topic_ends.specs.PartSums.{worth_of}
use Rattle.topic_ends.specs.declared.counts.RelevantCounts.{RelevantCounts}

-- the marks along a ranking
abbrev pub along : List Mark → List ℕ → List Mark
along marks docs = map (mark_at marks) docs

-- whether an unjudged document is relevant where so many of the first ones are still to come
abbrev pub value_at : Bool → ℕ → Bool
value_at high zero = not high
value_at high (suc left) = high

-- which documents are relevant along a ranking whose first so many unjudged ones are as the first ones are
abbrev pub gains_by : Bool → List Mark → ℕ → List Bool
gains_by high [] left = []
gains_by high (m ∷ ms) left = picked_value (value_at high left) m ∷ gains_by high ms (left - (if is_unjudged m then 1 else 0))

-- the sum of a candidate's precisions
abbrev pub candidate_sum : Bool → List Mark → ℕ → ℕ
candidate_sum high ms count = ranked_sum (worth_of high) 1 (true_ranks 1 (gains_by high ms count))

-- a sum out of a number, rounded up or down
abbrev pub out_of : Bool → ℕ → ℕ → ℕ
out_of true = high_out_of
out_of false = low_out_of

-- average precision in parts, rounded up or down
abbrev pub rounded : Bool → ℕ → (ℕ → Bool) → List ℕ → ℕ
rounded high universe truth docs = out_of high (ranked_sum (worth_of high) 1 (true_ranks 1 (map truth docs))) (true_count truth universe)

-- how many documents of the topic are relevant in a candidate
abbrev pub documents_of : Bool → RelevantCounts → ℕ → ℕ
documents_of true all count = all.relevant + count
documents_of false all count = all.possible - count

-- average precision in a candidate, by how many its first unjudged documents are
abbrev pub number_of : Bool → List Mark → List ℕ → ℕ → ℕ
number_of true marks docs count = high_average (length marks) (high_truth marks docs count) docs
number_of false marks docs count = low_average (length marks) (low_truth marks docs (length (open_docs marks docs) - count)) docs

-- the bound of a run
abbrev pub bound_of : Bool → List Mark → List ℕ → ℕ
bound_of true = average_bound_hi
bound_of false = average_bound_lo
