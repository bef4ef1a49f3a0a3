use Rattle.std.proofs.Common.{Some, subst}
use Rattle.std.proofs.lemmas.Result.{IfOk-weaker}
use Rattle.session_replies.specs.State.{AreWeightsFor}
use Rattle.session_replies.proofs.Weighing.{weights_ready}
use Rattle.session_replies.proofs.comparing.next_text.Goals as goal

pub returns-clause-text : goal.returns-clause-text
returns-clause-text g c =
    let table = c.args.table.now in
    let desk = c.args.desk.now in
    let marks = c.args.marks.now.rows in
    let M = g.M.Measure in
    IfOk-weaker c.kept_next_report.result _ _
    (λ text told s marked of. told s of.over marked
    (weights_ready (M.measured table.measure) (M.cell_of table.measure) (M.bounds_of table.measure) desk marks table c.in-Some.weights s c.valid.ensures
    (subst (λ o. AreWeightsFor (record { name = M.measured; cell = M.cell_of; bound = M.bounds_of }) desk marks o (Some table)) c.in-Some.is c.weigh.ensures.totals) marked of))
    c.kept_next_report.ensures
