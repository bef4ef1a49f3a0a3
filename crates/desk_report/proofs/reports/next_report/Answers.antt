use Rattle.std.proofs.Common.{ap, sym, subst, ◌∙◌, length, ◌<◌}
use Rattle.std.specs.Prelude.{IfSome}
use Rattle.std.proofs.lemmas.List.{length-map}
use Rattle.desk_model.specs.Named.{book_at}
use Rattle.desk_model.specs.Pairs.{pairs_of}
use Rattle.desk_model.specs.Verdict.{verdict}
use Rattle.desk_report.specs.Judging.{next_line}
use Rattle.desk_report.specs.Table.{ended}
use Rattle.pair_table.specs.Sums.{run_numbers}
use Rattle.pair_table.proofs.PairNumbers.{length-pairs_of}
use Rattle.desk_report.proofs.Reporting.{next_is}
use Rattle.desk_report.proofs.reports.next_report.Goals as goal

pub next-proposal-requires-clause-verdicts : goal.next-proposal-requires-clause-verdicts
next-proposal-requires-clause-verdicts g c =
    let totals = c.args.sums.now.totals in
    ap length c.verdicts.ensures ∙ length-map totals verdict ∙ ap length (sym c.all_totals-sums.ensures.totals) ∙ c.all_totals-sums.ensures.count
    ∙ ap (λ n. length (pairs_of (run_numbers n))) c.requires.sums ∙ length-pairs_of c.args.desk.now.runs 0

pub next_line_text-requires-clause-topic : goal.next_line_text-requires-clause-topic
next_line_text-requires-clause-topic g c =
    subst (λ o. IfSome o (λ p. p.topic < length c.args.desk.now.topics)) (sym c.as_ref.ensures.value) c.next-proposal.ensures.topic

pub next_line_text-requires-clause-doc : goal.next_line_text-requires-clause-doc
next_line_text-requires-clause-doc g c =
    subst (λ o. IfSome o (λ p. p.doc < length (book_at c.args.desk.now p.topic).docs)) (sym c.as_ref.ensures.value) c.next-proposal.ensures.doc

pub returns : goal.returns
returns g c = λ s marked of.
    let sums = c.args.sums.now in
    let desk = c.args.desk.now in
    let M = g.M.Measure in
    let proposal = c.next-proposal.result in
    next_is (M.measured sums.measure) (M.cell_of sums.measure) (M.bounds_of sums.measure) desk c.valid.ensures sums s of c.args.marks.now.rows (M.measured c.measure.result.now) c.verdicts.result.now proposal c.in_ok-text.text.items marked
    (ap M.measured c.measure.ensures) c.verdicts.ensures c.next-proposal.ensures.next (c.in_ok-text.ensures ∙ ap (λ o. ended (next_line desk o)) c.as_ref.ensures.value)
