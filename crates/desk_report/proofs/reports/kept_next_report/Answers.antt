use Rattle.std.proofs.Common.{ap, sym, subst, ◌∙◌, length, ◌<◌}
use Rattle.std.specs.Prelude.{IfSome}
use Rattle.desk_model.specs.Named.{book_at}
use Rattle.desk_report.specs.Judging.{next_line}
use Rattle.desk_report.specs.Table.{ended}
use Rattle.desk_report.proofs.Reporting.{kept_next_is}
use Rattle.desk_report.proofs.reports.kept_next_report.Goals as goal

pub next-proposal-requires : goal.next-proposal-requires
next-proposal-requires c = c.requires.kept.1.over

pub next_line_text-requires-clause-topic : goal.next_line_text-requires-clause-topic
next_line_text-requires-clause-topic c =
    let desk = c.args.desk.now in
    let next = c.next-proposal.ensures c.requires.kept.0 desk c.valid.ensures c.requires.marks c.requires.kept.1 in
    subst (λ o. IfSome o (λ p. p.topic < length desk.topics)) (sym c.as_ref.ensures.value) next.topic

pub next_line_text-requires-clause-doc : goal.next_line_text-requires-clause-doc
next_line_text-requires-clause-doc c =
    let desk = c.args.desk.now in
    let next = c.next-proposal.ensures c.requires.kept.0 desk c.valid.ensures c.requires.marks c.requires.kept.1 in
    subst (λ o. IfSome o (λ p. p.doc < length (book_at desk p.topic).docs)) (sym c.as_ref.ensures.value) next.doc

pub returns : goal.returns
returns c = λ s over marked of.
    let desk = c.args.desk.now in
    kept_next_is desk c.args.marks.now.rows c.args.weights.now c.next-proposal.result s c.in_ok-text.text.items c.valid.ensures c.requires.marks c.next-proposal.ensures over marked of
    (c.in_ok-text.ensures ∙ ap (λ o. ended (next_line desk o)) c.as_ref.ensures.value)
