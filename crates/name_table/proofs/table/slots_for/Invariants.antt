use Rattle.std.proofs.Common.{◌*◌, ◌^◌, ◌-◌, ◌<◌}
use Rattle.name_table.proofs.table.slots_for.Given as goal

abbrev pub invariant-loop-slots : goal.invariant-loop-slots
invariant-loop-slots l = (0 < l.slots) × (l.slots < 2 ^ 35)

abbrev pub decreases-loop-slots : goal.decreases-loop-slots
decreases-loop-slots l = 2 * l.names - l.slots
