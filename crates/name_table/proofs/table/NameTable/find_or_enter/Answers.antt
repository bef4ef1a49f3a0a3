use Rattle.std.proofs.Common.{◌≡◌, ap, sym, ◌∙◌, length, arith, Some, None, unwrap_or}
use Rattle.name_table.specs.Table.{number_in}
use Rattle.name_table.proofs.Entering.{found_in_filled, found_in_kept, found_still, was_there, was_missing}
use Rattle.name_table.proofs.table.NameTable.find_or_enter.Goals as goal

pub returns-in-Found-clause-number : goal.returns-in-Found-clause-number
returns-in-Found-clause-number g c = sym c.in-Found.ensures

pub returns-in-Vacant-clause-number : goal.returns-in-Vacant-clause-number
returns-in-Vacant-clause-number g c = sym c.in-Vacant.ensures.1

pub returns-in-Vacant-clause-entered : goal.returns-in-Vacant-clause-entered
returns-in-Vacant-clause-entered g c =
    let names = g.N.Names.names c.args.names.now in
    let slots = c.args.self.now.slots.items in
    let rest = c.args.self.now.rest in
    let name = c.args.name.now in
    found_in_filled names slots c.fill.new.self.slots.items rest c.fill.new.self.rest name c.args.hash c.in-Vacant.at c.count-i.result c.count-i.ensures
    c.requires.hash c.requires.room c.in-Vacant.ensures.0 c.in-Vacant.ensures.1 c.fill.ensures.slots c.fill.ensures.rest c.requires.table

pub returns-then-number-i-clause-found : goal.returns-then-number-i-clause-found
returns-then-number-i-clause-found g c =
    let names = g.N.Names.names c.args.names.now in
    let rest = c.args.self.now.rest in
    let name = c.args.name.now in
    let number = c.in_ok-number-in-Beyond.number in
    let there : number_in name rest ≡ Some number = was_there (number_in name rest) number c.count-i.result c.in_ok-number-in-Beyond.ensures.number c.if-number-i.true in
    found_still names (length names) c.args.self.now.slots.items rest c.number_or_put.new.self name number there c.in_ok-number-in-Beyond.ensures.put c.in_ok-number-in-Beyond.ensures.others c.requires.table

pub returns-else-number-i-clause-entered : goal.returns-else-number-i-clause-entered
returns-else-number-i-clause-entered g c =
    let names = g.N.Names.names c.args.names.now in
    let slots = c.args.self.now.slots.items in
    let rest = c.args.self.now.rest in
    let more = c.number_or_put.new.self in
    let name = c.args.name.now in
    let number = c.in_ok-number-in-Beyond.number in
    let missing : number_in name rest ≡ None = was_missing (number_in name rest) number c.count-i.result c.in_ok-number-in-Beyond.ensures.number c.if-number-i.false (λ k e. let below = (c.requires.table.by_name name k e).0 in omega (arith, below, c.count-i.ensures)) in
    let counted : number ≡ length names = c.in_ok-number-in-Beyond.ensures.number ∙ ap (λ found. unwrap_or found c.count-i.result) missing ∙ c.count-i.ensures in
    found_in_kept names slots rest more name number counted c.requires.room c.in-Beyond.ensures.0 (sym c.in-Beyond.ensures.1 ∙ missing)
    c.in_ok-number-in-Beyond.ensures.put c.in_ok-number-in-Beyond.ensures.others c.requires.table
