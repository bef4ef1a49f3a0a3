-- The numbers of a desk at the same judgements under two depths.
use Rattle.std.specs.Prelude.{ℕ, ◌<◌, List, length, Option}
use Rattle.desk_model.specs.Desk.{Desk, IsDesk, AreMarksOf, topics_under}
use Rattle.desk_model.specs.MeasureText.{IsMeasure}
use Rattle.desk_model.specs.Order.{Topic}
use Rattle.desk_model.specs.declared.types.Mark.{Mark}
use Rattle.desk_model.specs.declared.types.MeasureName.{MeasureName}
use Rattle.desk_model.specs.declared.types.Totals.{Totals}
use Rattle.topic_counts.specs.declared.span.Span.{Span}
use Rattle.pair_table.specs.Numbers.{ArePairNumbers, AreRunNumbers}
use Rattle.desk_model.specs.Closing.{closed_under, IsNoDeeper}

-- the topics of a desk under marks and a depth
abbrev pub topics_within : Desk → List (List Mark) → Option ℕ → List Topic
topics_within desk marks depth = topics_under desk (closed_under desk depth marks)

-- a fact of the sums of two runs under a depth and under one that is no deeper
abbrev pub ForPairsWithin : (Totals → Totals → Type 0) → Type 0
ForPairsWithin fact =
    (name : MeasureName) (desk : Desk) (marks : List (List Mark)) (deep depth : Option ℕ) (a b : ℕ) (under_deep under : Totals) →
    IsMeasure name → IsDesk desk → AreMarksOf desk marks → a < length desk.runs → b < length desk.runs → IsNoDeeper depth deep →
    ArePairNumbers name (topics_within desk marks deep) a b under_deep → ArePairNumbers name (topics_within desk marks depth) a b under → fact under_deep under

-- a fact of the summed bounds of a run under a depth and under one that is no deeper
abbrev pub ForRunsWithin : (Span → Span → Type 0) → Type 0
ForRunsWithin fact =
    (name : MeasureName) (desk : Desk) (marks : List (List Mark)) (deep depth : Option ℕ) (run : ℕ) (under_deep under : Span) →
    IsDesk desk → AreMarksOf desk marks → run < length desk.runs → IsNoDeeper depth deep →
    AreRunNumbers name (topics_within desk marks deep) run under_deep → AreRunNumbers name (topics_within desk marks depth) run under → fact under_deep under
