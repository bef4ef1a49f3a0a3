use Rattle.std.proofs.Common.{◌∙◌, ap, sym, Some}
use Rattle.judge_session.specs.InForce.{is_live_on}
use Rattle.judge_session.specs.Marking.{IsLastThat}
use Rattle.judge_session.specs.declared.change.Change.{Change}
use Rattle.judge_session.proofs.Grades.{grade_after-last, grade_after-none}
use Rattle.judge_session.proofs.marking.last_grade.Goals as goal

pub returns-in-Some : goal.returns-in-Some
returns-in-Some c =
    let last : IsLastThat (is_live_on c.args.topic c.args.doc) c.args.changes.now c.in-Some.place = c.in-Some.ensures in
    c.grade_of.ensures ∙ ap (λ (change : Change). Some change.grade) c.index-changes-place.is
    ∙ sym (grade_after-last c.args.file c.args.topic c.args.doc c.args.changes.now c.in-Some.place c.index-changes-place.result last)

pub returns-in-None : goal.returns-in-None
returns-in-None c = sym (grade_after-none c.args.file c.args.topic c.args.doc c.args.changes.now c.in-None.ensures)
