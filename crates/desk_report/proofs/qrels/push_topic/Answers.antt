use Rattle.std.proofs.Common.{get_or, ap, sym, ◌∙◌, None, Some, arith}
use Rattle.desk_report.proofs.Joins.{get_or-there}
use Rattle.desk_report.proofs.Judgements.{more_documents, all_documents}
use Rattle.desk_report.proofs.qrels.push_topic.Goals as goal

pub loop-doc-preserved : goal.loop-doc-preserved
loop-doc-preserved c =
    let book = c.args.book.now in
    let i = c.loop-doc.doc in
    let sound = c.name.ensures.book in
    let file = get_or-there book.grades i None (omega (arith, sound.graded)) ∙ ap Some (sym c.file_grade.ensures) in
    more_documents book c.args.grades.now i c.doc_name.result.now c.file_grade.result (get_or c.args.grades.now i None) c.args.out.now.items c.loop-doc.out.items c.push_document.new.out.items
    c.doc_name.ensures file (get_or-there c.args.grades.now i None (omega arith)) c.loop-doc.invariant (rw c.name.ensures.name at c.in_ok-push_document.ensures)

pub returns : goal.returns
returns c = all_documents c.args.book.now c.args.grades.now c.loop-doc.doc c.args.out.now.items c.loop-doc.out.items c.doc_count-doc-end.ensures.book c.requires (omega (arith, c.doc_count-doc-end.ensures.count)) c.loop-doc.invariant
