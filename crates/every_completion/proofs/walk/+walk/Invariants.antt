use Rattle.std.proofs.Common.{length, ◌-◌}
use Rattle.every_completion.proofs.walk.+walk.Given as goal

abbrev pub decreases-walk : goal.decreases-walk
decreases-walk l = length l.marks.now - l.from
