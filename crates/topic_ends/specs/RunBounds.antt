-- The bounds of runs under average precision, where they were computed before.
use Rattle.std.specs.Prelude.{◌≡◌, ℕ, List, slice_get, Option, Some, None}
use Rattle.desk_model.specs.Desk.{Desk, ranking_of}
use Rattle.desk_model.specs.declared.types.Mark.{Mark}
use Rattle.measure_laws.specs.Candidates.{average_bound_lo, average_bound_hi}
use Rattle.topic_ends.specs.declared.run_bound.RunBounds.{RunBounds}

-- both bounds of a ranking
pub record AreRunBounds (marks : List Mark) (docs : List ℕ) (bounds : RunBounds) : Type 0 where
  pub low : bounds.low ≡ average_bound_lo marks docs
  pub high : bounds.high ≡ average_bound_hi marks docs

-- bounds that are there are those of a ranking
abbrev pub AreKnown : List Mark → List ℕ → Option RunBounds → Type 0
AreKnown marks docs None = Unit {0}
AreKnown marks docs (Some bounds) = AreRunBounds marks docs bounds

-- bounds of the first runs of a desk on a topic
abbrev pub AreBoundsOn : Desk → ℕ → List Mark → List RunBounds → Type 0
AreBoundsOn desk topic marks row = (run : ℕ) (bounds : RunBounds) → slice_get row run ≡ Some bounds → AreRunBounds marks (ranking_of desk run topic) bounds

-- the same on the first topics
abbrev pub AreBoundsOf : Desk → List (List Mark) → List (List RunBounds) → Type 0
AreBoundsOf desk marks rows = (topic : ℕ) (m : List Mark) (row : List RunBounds) → slice_get marks topic ≡ Some m → slice_get rows topic ≡ Some row → AreBoundsOn desk topic m row
