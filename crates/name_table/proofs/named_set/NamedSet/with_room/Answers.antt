use Rattle.std.proofs.Common.{[], sym, subst, arith}
use Rattle.std.specs.Prelude.{map}
use Rattle.name_table.specs.Finds.{AreFound}
use Rattle.name_table.proofs.named_set.NamedSet.with_room.Goals as goal

pub invariant_of-result : goal.invariant_of-result
invariant_of-result g c =
    subst (λ keys. AreFound (map g.K.Named.name keys) c.in_ok-hashes.hashes.items c.in_ok-table.table) (sym c.in_ok-with_capacity.ensures.items)
    (record { finds = c.in_ok-table.ensures.table [] (λ i j li lj e. absurd (omega arith)); hashed = c.in_ok-hashes.ensures.items })
