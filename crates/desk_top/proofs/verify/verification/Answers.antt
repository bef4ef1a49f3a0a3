use Rattle.order_bundle.specs.Either.{any_level}
use Rattle.desk_top.proofs.Checks.{reason_on_desk}
use Rattle.desk_top.proofs.Marking.{marks_known}
use Rattle.desk_top.proofs.verify.verification.Goals as goal

pub check_any-requires-clause-marks : goal.check_any-requires-clause-marks
check_any-requires-clause-marks c = rw (c.in_ok-marks.ensures, c.level.ensures) (marks_known (any_level c.args.certificate.now.body) c.args.certificate.now.depth c.args.desk.now c.valid.ensures)

pub line_of-requires : goal.line_of-requires
line_of-requires c = reason_on_desk c.args.certificate.now.body c.args.desk.now c.in_ok-marks.marks.rows c.in_ok-answer.answer c.in_ok-answer.ensures.verified
