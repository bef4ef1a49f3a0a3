use Rattle.std.proofs.Common.{ap, length, ◌∙◌}
use Rattle.session_replies.proofs.Weighing.{verdict_each}
use Rattle.session_replies.proofs.changing.take_over.Goals as goal

pub update-requires-clause-verdicts : goal.update-requires-clause-verdicts
update-requires-clause-verdicts g c =
    let old = c.in-Some.table in
    ap length c.verdicts.ensures ∙ verdict_each (g.M.Measure.cell_of old.measure) (g.M.Measure.bounds_of old.measure) c.args.desk.now c.args.marks.now.rows c.change.new.self c.change.ensures.stands
