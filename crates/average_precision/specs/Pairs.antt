-- The two runs of a pair.
use Rattle.std.specs.Prelude.{ℕ, List}
use Rattle.desk_model.specs.declared.types.Mark.{Mark}
use Rattle.average_precision.specs.Least.{AreNumbers}
use Rattle.average_precision.specs.Crossed.{AreCrossed}
use Rattle.average_precision.specs.declared.numbers.PairRun.{PairRun}

-- a run's numbers, and another run's scores in its two candidates
pub record IsPairRun (marks : List Mark) (run rival : List ℕ) (one : PairRun) : Type 0 where
  pub numbers : AreNumbers marks run one.numbers
  pub other : AreCrossed marks run rival one.other
