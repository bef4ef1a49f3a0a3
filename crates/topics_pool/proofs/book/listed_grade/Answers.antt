use Rattle.std.proofs.Common.{◌≡◌, ◌<◌, Some, length, get_or, [], ap, ◌∙◌, w32, FitsSigned, rules, arith}
use Rattle.std.proofs.lemmas.Int.{to_z-of_z}
use Rattle.file_rows.specs.Grouped.{rows_at}
use Rattle.topic_universe.specs.Universe.{listed}
use Rattle.topics_pool.proofs.Finding.{grade_found, grade_none}
use Rattle.topics_pool.proofs.book.listed_grade.Goals as goal

pub returns-then-place-doc_count : goal.returns-then-place-doc_count
returns-then-place-doc_count c =
    let docs = rows_at c.args.qrels.now c.args.t in
    let within : c.number-place.result < length docs = omega (arith, c.if-place-doc_count.true, c.doc_count.ensures.count) in
    let named : get_or (listed docs) c.number-place.result [] ≡ c.args.doc.now.0.now = ap (λ n. get_or (listed docs) n []) c.number-place.ensures ∙ c.requires.number.known (omega (arith, within, c.number-place.ensures)) in
    let fits : FitsSigned w32 c.grade.result = search rules in
    ap Some (to_z-of_z w32 c.grade.result fits) ∙ grade_found docs c.args.doc.now.0.now c.number-place.result c.grade.result within named c.doc_count.ensures.distinct c.grade.ensures

pub returns-else-place-doc_count : goal.returns-else-place-doc_count
returns-else-place-doc_count c =
    let docs = rows_at c.args.qrels.now c.args.t in
    grade_none docs c.args.doc.now.0.now (c.requires.number.others (omega (arith, c.if-place-doc_count.false, c.doc_count.ensures.count, c.number-place.ensures)))
