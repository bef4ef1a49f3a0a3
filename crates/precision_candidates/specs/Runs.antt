-- The chosen candidates of a run on a topic.
use Rattle.std.specs.Prelude.{true, false, ℕ, List}
use Rattle.desk_model.specs.declared.types.Mark.{Mark}
use Rattle.precision_candidates.specs.Side.{IsChosen}
use Rattle.precision_candidates.specs.declared.runs.Chosen.{Chosen}

-- the one of each side
pub record AreChosen (marks : List Mark) (docs : List ℕ) (chosen : Chosen) : Type 0 where
  pub low : IsChosen false marks docs chosen.low
  pub high : IsChosen true marks docs chosen.high
