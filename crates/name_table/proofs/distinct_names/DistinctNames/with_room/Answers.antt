use Rattle.std.proofs.Common.{sym, subst, arith, []}
use Rattle.name_table.specs.Finds.{AreFound}
use Rattle.name_table.proofs.distinct_names.DistinctNames.with_room.Goals as goal

pub invariant_of-result : goal.invariant_of-result
invariant_of-result c =
    subst (λ names. AreFound names c.in_ok-hashes.hashes.items c.in_ok-table.table) (sym c.in_ok-with_room.ensures)
    (record { finds = c.in_ok-table.ensures.table [] (λ i j li lj e. absurd (omega arith)); hashed = c.in_ok-hashes.ensures.items })
