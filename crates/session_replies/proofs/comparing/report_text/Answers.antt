use Rattle.std.proofs.Common.{ap, sym, subst, ◌∙◌}
use Rattle.std.proofs.lemmas.Result.{IfOk-weaker}
use Rattle.desk_report.specs.Reports.{IsSubjectOf}
use Rattle.pair_table.specs.Kept.{HeldSums}
use Rattle.session_replies.specs.State.{IsReported}
use Rattle.session_replies.proofs.comparing.report_text.Goals as goal

pub table_report-requires : goal.table_report-requires
table_report-requires g c = ap (λ (h : HeldSums _). h.runs) c.sums-sums.ensures ∙ c.requires.table.sums.runs

pub pair_report-requires-clause-sums : goal.pair_report-requires-clause-sums
pair_report-requires-clause-sums g c = ap (λ (h : HeldSums _). h.runs) c.sums-sums.ensures ∙ c.requires.table.sums.runs

pub returns-in-Table : goal.returns-in-Table
returns-in-Table g c =
    let M = g.M.Measure in
    let desk = c.args.given.now.desk.now in
    IfOk-weaker c.table_report.result _ _
    (λ text told s at under marked of. subst (λ r. IsReported s r text.items) (sym c.in-Table.is)
    (told s at under (subst (λ (h : HeldSums _). IsSubjectOf (M.measured h.measure) (M.cell_of h.measure) (M.bounds_of h.measure) desk h s) (sym c.sums-sums.ensures) of)))
    c.table_report.ensures

pub returns-in-Pair : goal.returns-in-Pair
returns-in-Pair g c =
    let M = g.M.Measure in
    let desk = c.args.given.now.desk.now in
    IfOk-weaker c.pair_report.result _ _
    (λ text told s at under marked of. subst (λ r. IsReported s r text.items) (sym c.in-Pair.is)
    (told s (subst (λ (h : HeldSums _). IsSubjectOf (M.measured h.measure) (M.cell_of h.measure) (M.bounds_of h.measure) desk h s) (sym c.sums-sums.ensures) of)))
    c.pair_report.ensures
