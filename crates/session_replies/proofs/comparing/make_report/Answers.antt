use Rattle.std.proofs.Common.{refl, ap, sym, subst, ◌∙◌}
use Rattle.std.proofs.lemmas.Result.{IfOk-weaker}
use Rattle.desk_model.specs.Desk.{AreMarksOf}
use Rattle.session_replies.specs.Replies.{subject_after, marks_after}
use Rattle.session_replies.specs.State.{setting_of}
use Rattle.session_replies.proofs.Marks.{marks_of_desk}
use Rattle.session_replies.proofs.Tables.{subject_ready}
use Rattle.session_replies.proofs.comparing.make_report.Goals as goal

pub report_text-requires-clause-marks : goal.report_text-requires-clause-marks
report_text-requires-clause-marks g c =
    let s = setting_of c.args.given.now in
    subst (AreMarksOf s.desk) (sym c.in_ok-prepare.ensures.ready.marked) (marks_of_desk s c.prepare.new.judging.session c.valid.ensures)

pub returns-clause-told : goal.returns-clause-told
returns-clause-told g c =
    let s = setting_of c.args.given.now in
    let before = c.args.judging.now.session in
    let kept = c.in_ok-prepare.ensures in
    IfOk-weaker c.report_text.result _ _
    (λ text told. told (subject_after s before) refl refl (sym (kept.ready.marked ∙ ap (marks_after s) kept.session))
    (subject_ready _ s c.prepare.new.judging c.in-Some.table before c.valid.ensures kept.ready c.in-Some.is kept.session))
    c.report_text.ensures
