use Rattle.std.proofs.Common.{sym}
use Rattle.name_table.proofs.Entering.{found_in_filled, finds_pushed}
use Rattle.name_table.proofs.distinct_names.found_or_pushed.Goals as goal

pub returns-in-Found-clause-number : goal.returns-in-Found-clause-number
returns-in-Found-clause-number c = sym c.in-Found.ensures

pub returns-in_ok-push-in-Vacant-clause-number : goal.returns-in_ok-push-in-Vacant-clause-number
returns-in_ok-push-in-Vacant-clause-number c = sym c.in-Vacant.ensures.1

pub returns-in_ok-push-in-Vacant-clause-table : goal.returns-in_ok-push-in-Vacant-clause-table
returns-in_ok-push-in-Vacant-clause-table c =
    let names = c.args.names.now in
    let table = c.args.table.now in
    let name = c.args.name.now in
    finds_pushed names c.push.new.self name c.fill.new.self c.in_ok-push-in-Vacant.ensures.ok
    (found_in_filled names table.slots.items c.fill.new.self.slots.items table.rest c.fill.new.self.rest name c.args.hash c.in-Vacant.at c.len-i.result c.len-i.ensures
    c.requires.hash c.requires.room c.in-Vacant.ensures.0 c.in-Vacant.ensures.1 c.fill.ensures.slots c.fill.ensures.rest c.requires.table)
