use Rattle.std.proofs.Common.{◌≡◌, take}
use Rattle.sheet_merge.specs.Placed.{grades_under}
use Rattle.sheet_merge.proofs.placing.grades_over.Given as goal

abbrev pub invariant-loop-doc : goal.invariant-loop-doc
invariant-loop-doc l = record { made : l.grades.items ≡ take l.doc (grades_under l.book l.rows) }
