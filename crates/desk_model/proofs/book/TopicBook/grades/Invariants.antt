use Rattle.std.proofs.Common.{◌≡◌, take}
use Rattle.desk_model.proofs.book.TopicBook.grades.Given as goal

abbrev pub invariant-loop-doc : goal.invariant-loop-doc
invariant-loop-doc l = l.grades.items ≡ take l.doc l.self.grades
