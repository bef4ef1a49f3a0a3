use Rattle.std.proofs.Common.{ap, length, ◌∙◌}
use Rattle.session_replies.proofs.Weighing.{verdict_each}
use Rattle.session_replies.proofs.comparing.weigh.Goals as goal

pub new-requires-clause-verdicts : goal.new-requires-clause-verdicts
new-requires-clause-verdicts g c =
    let table = c.args.table.now in
    ap length c.verdicts.ensures ∙ verdict_each (g.M.Measure.cell_of table.measure) (g.M.Measure.bounds_of table.measure) c.args.desk.now c.args.marks.now.rows table c.requires.table
