use Rattle.std.proofs.Common.{◌≡◌, [], take}
use Rattle.file_rows.specs.Grouped.{rows_at}
use Rattle.topic_universe.specs.Names.{with_names, AreDistinctNames}
use Rattle.topic_universe.specs.Universe.{listed}
use Rattle.topic_universe.proofs.universe.listed_names.Given as goal

abbrev pub invariant-loop-i : goal.invariant-loop-i
invariant-loop-i l = record { documents : l.names ≡ with_names [] (take l.i (listed (rows_at l.qrels l.t))); names : AreDistinctNames l.names }
