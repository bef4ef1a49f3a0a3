-- What is found of two runs.
use Rattle.std.specs.Prelude.{ℕ, List}
use Rattle.desk_model.specs.declared.types.Mark.{Mark}
use Rattle.measure_laws.specs.RprecCase.{IsSmallestAttained}
use Rattle.rprec.specs.declared.extremes.Cases.{Cases}
use Rattle.rprec.specs.declared.extremes.Extremes.{Extremes}
use Rattle.rprec.specs.Greedy.{IsLeast}
use Rattle.rprec.specs.Picks.{IsLeastCase}

-- the least candidates of both, and of the swapped runs, each with the smallest number of relevant documents that attains it
pub record AreLeastChoices (extremes : Extremes) (marks : List Mark) (a b : List ℕ) : Type 0 where
  pub least : IsLeast marks a b extremes.least.candidate
  pub most : IsLeast marks b a extremes.most.candidate
  pub least_first : IsSmallestAttained marks a b extremes.least.candidate.count
  pub most_first : IsSmallestAttained marks b a extremes.most.candidate.count

-- the least cases of both, and of the swapped runs
pub record AreLeastCases (cases : Cases) (marks : List Mark) (a b : List ℕ) : Type 0 where
  pub least : IsLeastCase marks a b cases.least
  pub most : IsLeastCase marks b a cases.most
