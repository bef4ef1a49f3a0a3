use Rattle.std.proofs.Common.{◌≡◌, take}
use Rattle.std.specs.Prelude.{map, Vec}
use Rattle.std.specs.declared.alloc.Global.{Global}
use Rattle.desk_model.specs.Desk.{file_marks}
use Rattle.desk_model.specs.declared.types.Mark.{Mark}
use Rattle.desk_model.proofs.file_marks.file_topics.Given as goal

abbrev pub invariant-loop-t : goal.invariant-loop-t
invariant-loop-t l = map (λ (each : Vec Mark Global). each.items) l.topics.items ≡ map (file_marks l.level) (take l.t l.desk.topics)
