use Rattle.std.proofs.Common.{◌-◌, length}
use Rattle.desk_text.specs.Stops.{IsInField}
use Rattle.desk_text.proofs.stops.next_stop.Given as goal

abbrev pub invariant-loop-at : goal.invariant-loop-at
invariant-loop-at l = record { field : IsInField l.line l.from l.at }

abbrev pub decreases-loop-at : goal.decreases-loop-at
decreases-loop-at l = length l.line - l.at
