use Rattle.std.proofs.Common.{subst, arith}
use Rattle.desk_model.proofs.DeskTopics.{length-marks}
use Rattle.next_document.specs.Kept.{WeighsWithoutMarks}
use Rattle.next_document.proofs.Elsewhere.{others_kept, still_kept}
use Rattle.next_document.proofs.weights.Weights.update.Goals as goal

pub change-requires-clause-others : goal.change-requires-clause-others
change-requires-clause-others g c =
    others_kept (g.M.Measure.measured c.args.measure.now) c.args.desk.now c.args.marks.now.rows c.args.topic c.args.self.now (omega (arith, c.requires.topic, length-marks c.args.desk.now c.args.marks.now.rows c.requires.marks)) c.requires.before

pub hold-requires-clause-totals : goal.hold-requires-clause-totals
hold-requires-clause-totals g c =
    still_kept (g.M.Measure.measured c.args.measure.now) c.args.desk.now c.args.marks.now.rows c.args.topic c.args.self.now (omega (arith, c.requires.topic, length-marks c.args.desk.now c.args.marks.now.rows c.requires.marks)) c.requires.before
    (subst WeighsWithoutMarks c.name.ensures.name (c.weighs_by_marks.ensures.without c.if-weighs_by_marks.false))
