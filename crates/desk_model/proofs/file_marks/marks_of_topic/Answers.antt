use Rattle.std.proofs.Common.{◌<◌, Option, None, ℤ, [], ◌∷◌, take, get_or, length, arith}
use Rattle.std.proofs.lemmas.List.{map-append, take_all, take_more}
use Rattle.desk_model.specs.Mark.{mark_of}
use Rattle.desk_model.proofs.file_marks.marks_of_topic.Goals as goal

pub loop-doc-preserved : goal.loop-doc-preserved
loop-doc-preserved c =
    let grades = c.args.book.now.grades in
    let doc = c.loop-doc.doc in
    let within : doc < length grades = omega (arith, c.loop-doc-test.true, c.doc_count-doc-end.ensures.count, c.doc_count-doc-end.ensures.book.graded) in
    let mark = λ (grade : Option ℤ). mark_of grade c.args.level in
    rw (
      c.in_ok-push.ensures.items,
      take_more grades doc None within,
      map-append mark (take doc grades) (get_or grades doc None ∷ []),
      c.loop-doc.invariant,
      c.mark.ensures,
      c.file_grade.ensures,
    )

pub returns : goal.returns
returns c =
    let whole = take_all c.loop-doc.doc c.args.book.now.grades (omega (arith, c.loop-doc-test.false, c.doc_count-doc-end.ensures.count, c.doc_count-doc-end.ensures.book.graded)) in
    rw (c.loop-doc.invariant, whole)
