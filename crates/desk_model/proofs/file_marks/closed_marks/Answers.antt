use Rattle.std.proofs.Common.{◌<◌, true, false, Option, None, ℤ, map, length, get_or, arith, ap, ap₂, List, [], ◌∷◌, ◌++◌, sym, ◌∙◌}
use Rattle.std.proofs.lemmas.List.{get_or_default, take_all}
use Rattle.desk_model.specs.declared.types.Mark.{Mark}
use Rattle.desk_model.specs.Closing.{closed_topic}
use Rattle.desk_model.specs.Mark.{mark_of}
use Rattle.desk_model.specs.Graded.{mark_within}
use Rattle.desk_model.proofs.RowByRow.{row_more}
use Rattle.desk_model.proofs.file_marks.closed_marks.Goals as goal

pub loop-doc-preserved : goal.loop-doc-preserved
loop-doc-preserved c =
    let pool = c.args.pool.now in
    let grades = c.args.book.now.grades in
    let doc = c.loop-doc.doc in
    let known : doc < length grades = omega (arith, c.loop-doc-test.true, c.doc_count-doc-end.ensures.count, c.doc_count-doc-end.ensures.book.graded) in
    let within : doc < length pool = omega (arith, known, c.requires) in
    let more = row_more (λ doc. get_or pool doc true) c.args.level grades doc known in
    c.in_ok-push.ensures.items
    ∙ ap₂ (λ (ms : List Mark) (m : Mark). ms ++ m ∷ []) c.loop-doc.invariant (c.mark.ensures
    ∙ ap (λ (g : Option ℤ). mark_within g c.args.level (get_or pool doc false)) c.file_grade.ensures
    ∙ ap (λ b. mark_within (get_or grades doc None) c.args.level b) (get_or_default pool doc false true within))
    ∙ sym more

pub returns : goal.returns
returns c =
    let whole = take_all c.loop-doc.doc c.args.book.now.grades (omega (arith, c.loop-doc-test.false, c.doc_count-doc-end.ensures.count, c.doc_count-doc-end.ensures.book.graded)) in
    c.loop-doc.invariant ∙ ap (λ grades. closed_topic (λ doc. get_or c.args.pool.now doc true) (map (λ grade. mark_of grade c.args.level) grades)) whole
