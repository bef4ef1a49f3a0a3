-- What is kept of the runs of a topic while its cells are found.
use Rattle.std.specs.Prelude.{◌≡◌, ℕ, ◌-◌, ◌<◌, List, length, slice_index_or}
use Rattle.desk_model.specs.Score.{true_count}
use Rattle.desk_model.specs.declared.types.Mark.{Mark}
use Rattle.measure_laws.specs.AverageEnds.{high_case, low_case}
use Rattle.measure_laws.specs.Candidates.{average_bound_lo, average_bound_hi, high_choice, low_choice, open_docs}
use Rattle.measure_laws.specs.Parts.{low_average, high_average}
use Rattle.measure_core.specs.Pairs.{DeskTopic, ranking_on, runs_on}
use Rattle.measure_core.specs.declared.room.RunCandidates.{RunCandidates}

-- a run's bounds, its own numbers in its two candidates, how many documents are true in them, and how many unjudged ones the high one takes and
-- the low one leaves out
pub record IsKept (marks : List Mark) (docs : List ℕ) (kept : RunCandidates) : Type 0 where
  pub lo : kept.lo ≡ average_bound_lo marks docs
  pub hi : kept.hi ≡ average_bound_hi marks docs
  pub low_in_high : kept.low_in_high ≡ low_average (length marks) (high_case marks docs) docs
  pub high_in_low : kept.high_in_low ≡ high_average (length marks) (low_case marks docs) docs
  pub in_high : kept.in_high ≡ true_count (high_case marks docs) (length marks)
  pub in_low : kept.in_low ≡ true_count (low_case marks docs) (length marks)
  pub taken : kept.taken ≡ high_choice marks docs
  pub left_out : kept.left_out ≡ length (open_docs marks docs) - low_choice marks docs

-- the same of each run
abbrev pub AreRunsKept : List Mark → DeskTopic → List RunCandidates → Type 0
AreRunsKept marks t kept = (run : ℕ) → run < runs_on t → (none : RunCandidates) → IsKept marks (ranking_on t run) (slice_index_or kept run none)
