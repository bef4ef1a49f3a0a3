use Rattle.std.proofs.Common.{◌≡◌, ◌-◌, ap, sym, ◌∙◌, subst, length, take, Some, None, arith, unwrap_or}
use Rattle.name_table.specs.Finds.{FindsAll}
use Rattle.name_table.specs.Table.{number_in}
use Rattle.name_table.proofs.Cutting.{take_pushed}
use Rattle.name_table.proofs.Entering.{found_in_kept, found_still, finds_pushed, was_there, was_missing}
use Rattle.name_table.proofs.distinct_names.pushed_by_name.Goals as goal

pub returns-then-number-i-clause-table : goal.returns-then-number-i-clause-table
returns-then-number-i-clause-table c =
    let names = c.args.names.now in
    let slots = c.args.table.now.slots.items in
    let rest = c.args.table.now.rest in
    let more = c.number_or_put.new.self in
    let name = c.args.name.now in
    let there : number_in name rest ≡ Some c.in-Ok.number = was_there (number_in name rest) c.in-Ok.number c.len-i.result c.in-Ok.ensures.number c.if-number-i.true in
    let back : c.take_last.new.self ≡ names = c.take_last.ensures ∙ ap (λ ns. take (length ns - 1) ns) c.in_ok-push.ensures.ok ∙ take_pushed names name in
    subst (λ ns. FindsAll ns (record c.args.table.now { rest = more })) (sym back)
    (found_still names (length names) slots rest more name c.in-Ok.number there c.in-Ok.ensures.put c.in-Ok.ensures.others c.requires.table)

pub returns-else-number-i-clause-table : goal.returns-else-number-i-clause-table
returns-else-number-i-clause-table c =
    let names = c.args.names.now in
    let slots = c.args.table.now.slots.items in
    let rest = c.args.table.now.rest in
    let more = c.number_or_put.new.self in
    let name = c.args.name.now in
    let number = c.in-Ok.number in
    let missing : number_in name rest ≡ None = was_missing (number_in name rest) number c.len-i.result c.in-Ok.ensures.number c.if-number-i.false (λ k e. let below = (c.requires.table.by_name name k e).0 in omega (arith, below, c.len-i.ensures)) in
    let counted : number ≡ length names = c.in-Ok.ensures.number ∙ ap (λ found. unwrap_or found c.len-i.result) missing ∙ c.len-i.ensures in
    finds_pushed names c.push.new.self name (record c.args.table.now { rest = more }) c.in_ok-push.ensures.ok
    (found_in_kept names slots rest more name number counted c.requires.room c.requires.beyond.0 (sym c.requires.beyond.1 ∙ missing)
    c.in-Ok.ensures.put c.in-Ok.ensures.others c.requires.table)
