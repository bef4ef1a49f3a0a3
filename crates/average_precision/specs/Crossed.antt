-- The scores of rankings in the two candidates of other runs.
use Rattle.std.specs.Prelude.{◌≡◌, ℕ, ◌+◌, ◌*◌, ◌<◌, List, length, slice_index_or}
use Rattle.desk_model.specs.declared.types.Mark.{Mark}
use Rattle.measure_laws.specs.AverageEnds.{high_case, low_case}
use Rattle.measure_laws.specs.Parts.{low_average, high_average}
use Rattle.measure_core.specs.Pairs.{DeskTopic, ranking_on, runs_on}
use Rattle.measure_core.specs.declared.room.CrossScores.{CrossScores}

-- rounded up in the high candidate, and down in the low one
pub record AreCrossed (marks : List Mark) (run docs : List ℕ) (scores : CrossScores) : Type 0 where
  pub in_high : scores.in_high ≡ high_average (length marks) (high_case marks run) docs
  pub in_low : scores.in_low ≡ low_average (length marks) (low_case marks run) docs

-- where the scores of one run in the candidates of another stand, those in one run's candidates one after the other
abbrev pub place_of : DeskTopic → ℕ → ℕ → ℕ
place_of t run other = run * runs_on t + other

-- those of each two runs that stand before a place
abbrev pub AreCrossedTo : List Mark → DeskTopic → ℕ → List CrossScores → Type 0
AreCrossedTo marks t end scores =
    (run other : ℕ) → other < runs_on t → place_of t run other < end → (none : CrossScores) → AreCrossed marks (ranking_on t run) (ranking_on t other) (slice_index_or scores (place_of t run other) none)

-- those of each two runs
abbrev pub AreAllCrossed : List Mark → DeskTopic → List CrossScores → Type 0
AreAllCrossed marks t scores = AreCrossedTo marks t (runs_on t * runs_on t) scores
