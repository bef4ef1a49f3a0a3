use Rattle.std.proofs.Common.{◌≡◌, ◌++◌}
use Rattle.std.specs.Prelude.{flat_map}
use Rattle.desk_report.specs.Table.{ended}
use Rattle.desk_report.proofs.Judgements.{lines_to}
use Rattle.desk_report.proofs.qrels.push_topic.Given as goal

abbrev pub invariant-loop-doc : goal.invariant-loop-doc
invariant-loop-doc l = l.out.items ≡ l.initial.out.items ++ flat_map ended (lines_to l.book l.grades l.doc)
