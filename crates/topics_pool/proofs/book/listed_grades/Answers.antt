use Rattle.std.proofs.Common.{ap, sym, subst, ◌∙◌}
use Rattle.std.proofs.lemmas.List.Elements.{All-get_or}
use Rattle.std.proofs.lemmas.Result.{IfOk-from_err}
use Rattle.file_rows.specs.Grouped.{rows_at}
use Rattle.topics_pool.specs.Rows.{grade_in}
use Rattle.topics_pool.specs.Made.{IsNumberedAfter}
use Rattle.topics_pool.proofs.Pushing.{pushed_next, pushed_all}
use Rattle.topics_pool.proofs.book.listed_grades.Goals as goal

pub returns-in_err-grades : goal.returns-in_err-grades
returns-in_err-grades c = IfOk-from_err c.from_residual.result _ c.from_residual.ensures.0

pub returns-in_err-push : goal.returns-in_err-push
returns-in_err-push c = IfOk-from_err c.from_residual-in_err-push.result _ c.from_residual-in_err-push.ensures.0

pub listed_grade-requires-clause-topic : goal.listed_grade-requires-clause-topic
listed_grade-requires-clause-topic c = c.requires.topic

pub listed_grade-requires-clause-number : goal.listed_grade-requires-clause-number
listed_grade-requires-clause-number c =
    let rows = rows_at c.args.qrels.now c.args.t in
    subst (λ doc. IsNumberedAfter rows doc.0.now doc.1) (sym c.doc-item.is)
    (All-get_or (λ doc. IsNumberedAfter rows doc.0.now doc.1) c.args.docs.now c.loop-doc.doc-index c.doc-item.result c.loop-doc-test.true c.requires.numbers)

pub loop-doc-preserved : goal.loop-doc-preserved
loop-doc-preserved c =
    let rows = rows_at c.args.qrels.now c.args.t in
    pushed_next (λ doc. grade_in rows doc.0.now) c.args.docs.now c.loop-doc.doc-index c.doc-item.result c.loop-doc.grades.items c.push.new.self.items c.listed_grade.result c.loop-doc-test.true c.loop-doc.invariant c.in_ok-push.ensures.items
    (c.listed_grade.ensures ∙ ap (λ doc. grade_in rows doc.0.now) c.doc-item.is)

pub loop-doc-init : goal.loop-doc-init
loop-doc-init c = c.in_ok-grades.ensures.items

pub returns : goal.returns
returns c = pushed_all (λ doc. grade_in (rows_at c.args.qrels.now c.args.t) doc.0.now) c.args.docs.now c.loop-doc.doc-index c.loop-doc.grades.items c.loop-doc-test.false c.loop-doc.invariant
