use Rattle.std.proofs.Common.{◌≡◌, take}
use Rattle.std.specs.Prelude.{map}
use Rattle.desk_model.specs.Mark.{mark_of}
use Rattle.desk_model.proofs.file_marks.marks_of_topic.Given as goal

abbrev pub invariant-loop-doc : goal.invariant-loop-doc
invariant-loop-doc l = l.marks.items ≡ map (λ grade. mark_of grade l.level) (take l.doc l.book.grades)
