use Rattle.std.proofs.Common.{◌≤◌, false, arith, refl, ◌∙◌}
use Rattle.desk_model.specs.Classes.{prefix_count}
use Rattle.recall.proofs.Leading.{leads_by, too_few}
use Rattle.recall.proofs.recall.leads.Goals as goal

pub returns-then-first-own : goal.returns-then-first-own
returns-then-first-own c =
    leads_by c.args.k c.args.marks.now c.args.a.now c.args.b.now c.args.own c.relevant_among-first.result c.relevant_among.result c.requires.met.first c.requires.met.second c.requires.own c.relevant_among-first.ensures
    c.relevant_among.ensures

pub returns-else-first-own : goal.returns-else-first-own
returns-else-first-own c =
    let marks = c.args.marks.now in
    let first = c.relevant_among-first.result in
    let second = prefix_count false c.args.k marks c.args.b.now in
    let few : first ≤ c.args.own = omega (arith, c.if-first-own.false) in
    too_few c.args.own first second few ∙ leads_by c.args.k marks c.args.a.now c.args.b.now c.args.own first second c.requires.met.first c.requires.met.second c.requires.own c.relevant_among-first.ensures refl
