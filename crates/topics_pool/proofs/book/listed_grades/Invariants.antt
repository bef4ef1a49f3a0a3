use Rattle.std.proofs.Common.{◌≡◌, take, map}
use Rattle.file_rows.specs.Grouped.{rows_at}
use Rattle.topics_pool.specs.Rows.{grade_in}
use Rattle.topics_pool.proofs.book.listed_grades.Given as goal

abbrev pub invariant-loop-doc : goal.invariant-loop-doc
invariant-loop-doc l = l.grades.items ≡ map (λ doc. grade_in (rows_at l.qrels l.t) doc.0.now) (take l.doc-index l.docs)
