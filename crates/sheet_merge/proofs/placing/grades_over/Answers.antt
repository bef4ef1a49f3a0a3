use Rattle.std.proofs.Common.{[], ◌∷◌, ◌++◌, take, ap, sym, ◌∙◌, arith}
use Rattle.std.proofs.lemmas.List.{take_all}
use Rattle.sheet_merge.specs.Placed.{grade_under, grades_under}
use Rattle.sheet_merge.proofs.Standing.{grades_more, length-grades_under}
use Rattle.sheet_merge.proofs.placing.grades_over.Goals as goal

pub loop-doc-preserved : goal.loop-doc-preserved
loop-doc-preserved c =
    let book = c.args.book.now in
    let rows = c.args.rows.now in
    let i = c.loop-doc.doc in
    record {
      made = c.in_ok-push.ensures.items ∙ ap (λ gs. gs ++ c.grade_over.result ∷ []) c.loop-doc.invariant.made
          ∙ ap (λ g. take i (grades_under book rows) ++ g ∷ []) (c.grade_over.ensures ∙ ap (grade_under rows (c.name.result.now, c.doc_name.result.now)) c.file_grade.ensures)
          ∙ sym (grades_more book rows c.name.ensures.book i c.name.result.now c.doc_name.result.now (omega (arith, c.loop-doc-test.true, c.doc_count-count.ensures.count)) c.name.ensures.name c.doc_name.ensures);
    }

pub returns : goal.returns
returns c = c.loop-doc.invariant.made ∙ take_all c.loop-doc.doc (grades_under c.args.book.now c.args.rows.now)
    (omega (arith, c.loop-doc-test.false, c.doc_count-count.ensures.count, length-grades_under c.args.book.now c.args.rows.now c.doc_count-count.ensures.book))
