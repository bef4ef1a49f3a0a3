use Rattle.std.proofs.Common.{◌-◌}
use Rattle.sheet_merge.proofs.Finding.{IsBetween}
use Rattle.sheet_merge.proofs.find.find.Given as goal

abbrev pub invariant-loop-low : goal.invariant-loop-low
invariant-loop-low l = record { between : IsBetween (l.topic, l.document) l.rows l.low l.high }

abbrev pub decreases-loop-low : goal.decreases-loop-low
decreases-loop-low l = l.high - l.low
