-- The numbers of a desk before and after more judging.
use Rattle.std.specs.Prelude.{ℕ, ◌<◌, List, length}
use Rattle.std.specs.List.{AllZip}
use Rattle.desk_model.specs.Desk.{Desk, IsDesk, AreMarksOf, topics_under}
use Rattle.desk_model.specs.MeasureText.{IsMeasure}
use Rattle.desk_model.specs.declared.types.Mark.{Mark}
use Rattle.desk_model.specs.declared.types.MeasureName.{MeasureName}
use Rattle.desk_model.specs.declared.types.Totals.{Totals}
use Rattle.topic_counts.specs.declared.span.Span.{Span}
use Rattle.measure_laws.specs.Refinement.{AreRefinedBy}
use Rattle.pair_table.specs.Numbers.{ArePairNumbers, AreRunNumbers}

-- the marks of all topics before and after more judging
abbrev pub AreAllRefinedBy : List (List Mark) → List (List Mark) → Type 0
AreAllRefinedBy marks later = AllZip AreRefinedBy marks later

-- a fact of the sums of two runs before and after, in either order of the runs, where these are the numbers of a measure's name over a desk
abbrev pub ForRefinedPairs : (Totals → Totals → Type 0) → Type 0
ForRefinedPairs fact =
    (name : MeasureName) (desk : Desk) (marks later : List (List Mark)) (a b : ℕ) (before after : Totals) →
    IsMeasure name → IsDesk desk → AreMarksOf desk marks → a < length desk.runs → b < length desk.runs → AreAllRefinedBy marks later →
    ArePairNumbers name (topics_under desk marks) a b before → ArePairNumbers name (topics_under desk later) a b after → fact before after

-- a fact of the summed bounds of a run before and after
abbrev pub ForRefinedRuns : (Span → Span → Type 0) → Type 0
ForRefinedRuns fact =
    (name : MeasureName) (desk : Desk) (marks later : List (List Mark)) (run : ℕ) (before after : Span) →
    IsDesk desk → AreMarksOf desk marks → run < length desk.runs → AreAllRefinedBy marks later → AreRunNumbers name (topics_under desk marks) run before → AreRunNumbers name (topics_under desk later) run after → fact before after
