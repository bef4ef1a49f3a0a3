use Rattle.std.proofs.Common.{◌≡◌, take, map, get_or, true}
use Rattle.desk_model.specs.Mark.{mark_of}
use Rattle.desk_model.specs.Closing.{closed_topic}
use Rattle.desk_model.proofs.file_marks.closed_marks.Given as goal

abbrev pub invariant-loop-doc : goal.invariant-loop-doc
invariant-loop-doc l = l.marks.items ≡ closed_topic (λ doc. get_or l.pool doc true) (map (λ grade. mark_of grade l.level) (take l.doc l.book.grades))
