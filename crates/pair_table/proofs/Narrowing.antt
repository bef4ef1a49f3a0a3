-- What holds of refined marks holds under a depth that is no deeper.
use Rattle.desk_model.specs.declared.types.Totals.{Totals}
use Rattle.topic_counts.specs.declared.span.Span.{Span}
use Rattle.pair_table.specs.Refined.{ForRefinedPairs, ForRefinedRuns}
use Rattle.desk_model.specs.Closing.{closed_under}
use Rattle.pair_table.specs.Narrowing.{ForPairsWithin, ForRunsWithin}
use Rattle.desk_model.proofs.Closing.{marks-closed}
use Rattle.pair_table.proofs.Deeper.{refines}

pub pairs_within : (fact : Totals → Totals → Type 0) → ForRefinedPairs fact → ForPairsWithin fact
pairs_within fact law name desk marks deep depth a b under_deep under is valid over lt_a lt_b le =
    law name desk (closed_under desk deep marks) (closed_under desk depth marks) a b under_deep under is valid (marks-closed desk desk deep marks over) lt_a lt_b (refines desk marks deep depth le)

pub runs_within : (fact : Span → Span → Type 0) → ForRefinedRuns fact → ForRunsWithin fact
runs_within fact law name desk marks deep depth run under_deep under valid over lt le =
    law name desk (closed_under desk deep marks) (closed_under desk depth marks) run under_deep under valid (marks-closed desk desk deep marks over) lt (refines desk marks deep depth le)
