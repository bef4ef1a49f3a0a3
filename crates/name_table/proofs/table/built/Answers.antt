use Rattle.std.proofs.Common.{◌≡◌, subst, arith, length}
use Rattle.name_table.specs.Finds.{Finds}
use Rattle.name_table.proofs.table.built.Goals as goal

pub loop-i-init : goal.loop-i-init
loop-i-init g c = (c.in_ok-table.ensures.table (g.N.Names.names c.args.names.now) c.requires.different, c.in_ok-table.ensures.room)

pub loop-i-preserved : goal.loop-i-preserved
loop-i-preserved g c =
    let names = g.N.Names.names c.args.names.now in
    let within = c.loop-i-test.true in
    let room = c.loop-i.invariant.1 in
    let size = c.enter.ensures.room in
    (c.in_ok-enter.ensures.ok names (omega (arith, c.count.ensures, within)) c.name.ensures c.loop-i.invariant.0, omega (arith, room, size))

pub returns-clause-table : goal.returns-clause-table
returns-clause-table g c =
    let names = g.N.Names.names c.args.names.now in
    let end : c.loop-i.i ≡ length names = omega arith in
    subst (λ n. Finds names n c.loop-i.table) end c.loop-i.invariant.0
