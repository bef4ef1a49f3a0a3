use Rattle.std.proofs.Common.{◌-◌}
use Rattle.desk_model.proofs.Halving.{AreParted}
use Rattle.desk_model.proofs.document_names.DocumentNames.find.Given as goal

abbrev pub invariant-loop-low : goal.invariant-loop-low
invariant-loop-low l = AreParted l.self l.name l.low l.high

abbrev pub decreases-loop-low : goal.decreases-loop-low
decreases-loop-low l = l.high - l.low
