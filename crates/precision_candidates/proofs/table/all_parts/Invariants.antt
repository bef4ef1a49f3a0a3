use Rattle.precision_candidates.specs.Table.{ArePartsTo}
use Rattle.precision_candidates.proofs.table.all_parts.Given as goal

abbrev pub invariant-loop-place : goal.invariant-loop-place
invariant-loop-place l = ArePartsTo l.place l.parts.items
