use Rattle.std.proofs.Common.{[], ◌∷◌, take}
use Rattle.std.specs.Prelude.{Vec}
use Rattle.std.specs.declared.alloc.Global.{Global}
use Rattle.std.proofs.lemmas.List.{map-append}
use Rattle.desk_model.specs.Desk.{file_marks}
use Rattle.desk_model.specs.declared.types.Mark.{Mark}
use Rattle.desk_model.proofs.Nested.{take-there}
use Rattle.desk_model.proofs.file_marks.file_topics.Goals as goal

pub loop-t-preserved : goal.loop-t-preserved
loop-t-preserved c =
    let topics = c.args.desk.now.topics in
    rw (
      c.in_ok-push.ensures.items,
      take-there topics c.loop-t.t c.topic.result.now c.topic.ensures,
      map-append (λ (each : Vec Mark Global). each.items) c.loop-t.topics.items (c.in_ok-marks_of_topic.field-0 ∷ []),
      map-append (file_marks c.args.level) (take c.loop-t.t topics) (c.topic.result.now ∷ []),
      c.loop-t.invariant,
      c.in_ok-marks_of_topic.ensures,
    )
