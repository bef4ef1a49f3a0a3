-- The two sides of a run: its high candidates, where the first unjudged documents are true, and its low ones, where the first are not.
use Rattle.std.specs.Prelude.{◌≡◌, ℕ, zero, suc, ◌+◌, ◌-◌, ◌≤◌, Bool, true, false, not, List, [], ◌∷◌, length, map, if◌then◌else◌}
use Rattle.desk_model.specs.Completion.{picked_value, with_picked}
use Rattle.desk_model.specs.Limits.{DOCUMENT_LIMIT}
use Rattle.desk_model.specs.Score.{true_count}
use Rattle.desk_model.specs.Mark.{is_unjudged, mark_at}
use Rattle.desk_model.specs.declared.types.Mark.{Mark}
use Rattle.desk_model.specs.Precisions.{true_ranks}
use Rattle.measure_laws.specs.Parts.{ranked_sum, low_out_of, high_out_of, low_average, high_average}
use Rattle.measure_laws.specs.Candidates.{open_docs, high_truth, low_truth, low_choice, high_choice, average_bound_lo, average_bound_hi}
use Rattle.precision_candidates.specs.declared.candidate.Counts.{Counts}
use Rattle.precision_candidates.specs.declared.choice.Choice.{Choice}
use Rattle.precision_candidates.specs.Sums.{worth_of}

-- the marks along a ranking
abbrev pub along : List Mark → List ℕ → List Mark
along marks docs = map (mark_at marks) docs

-- whether an unjudged document is true where so many are still to be taken, or left out
abbrev pub value_at : Bool → ℕ → Bool
value_at high zero = not high
value_at high (suc left) = high

-- the truth values along a ranking of which the first so many unjudged ones are taken, or left out
abbrev pub gains_by : Bool → List Mark → ℕ → List Bool
gains_by high [] left = []
gains_by high (m ∷ ms) left = picked_value (value_at high left) m ∷ gains_by high ms (left - (if is_unjudged m then 1 else 0))

abbrev pub candidate_sum : Bool → List Mark → ℕ → ℕ
candidate_sum high ms count = ranked_sum (worth_of high) 1 (true_ranks 1 (gains_by high ms count))

abbrev pub out_of : Bool → ℕ → ℕ → ℕ
out_of true = high_out_of
out_of false = low_out_of

-- the number of a candidate, by how many unjudged documents it takes, or leaves out
abbrev pub number_of : Bool → List Mark → List ℕ → ℕ → ℕ
number_of true marks docs count = high_average (length marks) (high_truth marks docs count) docs
number_of false marks docs count = low_average (length marks) (low_truth marks docs (length (open_docs marks docs) - count)) docs

-- the counts of a topic's documents
pub record AreCounts (marks : List Mark) (all : Counts) : Type 0 where
  pub few : length marks ≤ DOCUMENT_LIMIT
  pub relevant : all.relevant ≡ true_count (with_picked marks (λ _. false)) (length marks)
  pub possible : all.possible ≡ true_count (with_picked marks (λ _. true)) (length marks)

-- how many documents are true in a candidate
abbrev pub documents_of : Bool → Counts → ℕ → ℕ
documents_of true all count = all.relevant + count
documents_of false all count = all.possible - count

-- how many unjudged documents the chosen candidate takes, or leaves out
abbrev pub choice_of : Bool → List Mark → List ℕ → ℕ
choice_of true marks docs = high_choice marks docs
choice_of false marks docs = length (open_docs marks docs) - low_choice marks docs

-- the bound of a run
abbrev pub bound_of : Bool → List Mark → List ℕ → ℕ
bound_of true = average_bound_hi
bound_of false = average_bound_lo

-- a run's chosen candidate, and its number, which is the bound
pub record IsChosen (high : Bool) (marks : List Mark) (docs : List ℕ) (choice : Choice) : Type 0 where
  pub count : choice.count ≡ choice_of high marks docs
  pub value : choice.value ≡ bound_of high marks docs
