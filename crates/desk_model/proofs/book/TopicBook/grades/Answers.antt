use Rattle.std.proofs.Common.{◌<◌, None, length, arith, get_or, take}
use Rattle.std.proofs.lemmas.List.{take_all, take_more}
use Rattle.desk_model.proofs.book.TopicBook.grades.Goals as goal

pub loop-doc-preserved : goal.loop-doc-preserved
loop-doc-preserved c =
    let grades = c.args.self.now.grades in
    let doc = c.loop-doc.doc in
    let within : doc < length grades = omega (arith, c.loop-doc-test.true, c.doc_count-doc-end.ensures.count, c.doc_count-doc-end.ensures.book.graded) in
    rw (c.in_ok-push.ensures.items, take_more grades doc None within, c.loop-doc.invariant, c.file_grade.ensures)

pub returns : goal.returns
returns c =
    let whole = take_all c.loop-doc.doc c.args.self.now.grades (omega (arith, c.loop-doc-test.false, c.doc_count-doc-end.ensures.count, c.doc_count-doc-end.ensures.book.graded)) in
    rw (c.loop-doc.invariant, whole)
