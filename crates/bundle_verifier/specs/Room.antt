-- A bundle beside a desk and its marks, with what was counted and looked up for them.
use Rattle.std.specs.Prelude.{ℕ, List, Option}
use Rattle.desk_model.specs.Desk.{Desk, AreMarksOf}
use Rattle.desk_model.specs.declared.types.Mark.{Mark}
use Rattle.order_bundle.specs.Bundle.{Bundle}
use Rattle.topic_ends.specs.Counted.{AreCountsOf}
use Rattle.topic_ends.specs.RunBounds.{AreBoundsOf}
use Rattle.topic_ends.specs.declared.counts.RelevantCounts.{RelevantCounts}
use Rattle.topic_ends.specs.declared.run_bound.RunBounds.{RunBounds}
use Rattle.bundle_verifier.specs.Rows.{AreNumbersOf}

-- a bundle beside a desk and marks
pub record BesideDesk : Type 0 where
  pub desk : Desk
  pub marks : List (List Mark)
  pub bundle : Bundle

-- the marks are the desk's, the counts are those of its topics, the numbers those of the bundle's documents, and the bounds those of the desk's runs
pub record IsRoom (beside : BesideDesk) (counts : List RelevantCounts) (numbers : List (List (Option ℕ))) (bounds : List (List RunBounds)) : Type 0 where
  pub own : AreMarksOf beside.desk beside.marks
  pub counted : AreCountsOf beside.marks counts
  pub numbered : AreNumbersOf beside.desk beside.bundle.topics numbers
  pub bounded : AreBoundsOf beside.desk beside.marks bounds
