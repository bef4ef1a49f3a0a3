use Rattle.std.proofs.Common.{ap, sym, subst, ◌∙◌}
use Rattle.desk_model.specs.Desk.{Desk}
use Rattle.desk_model.specs.Graded.{Marked, marks_of_file}
use Rattle.judge_session.specs.InForce.{IsSessionOf}
use Rattle.session_replies.specs.Replies.{Setting, marks_after}
use Rattle.session_replies.proofs.Marks.{marks_at_start}
use Rattle.session_replies.proofs.state.Judging.new.Goals as goal

pub returns-clause-ready : goal.returns-clause-ready
returns-clause-ready g c = λ measure.
    let desk : Desk = c.args.desk.now in
    let s : Setting = record { measure = measure; level = c.args.grading.level; depth = c.args.grading.depth; desk = desk } in
    let marks = c.in_ok-marks.ensures ∙ ap (λ l. marks_of_file desk l c.depth.result) c.level.ensures.value ∙ ap (marks_of_file desk s.level) c.depth.ensures.value in
    record {
      on_desk = subst (IsSessionOf c.args.desk.now) (sym c.new.ensures) tt;
      marked = ap (λ (m : Marked). m.rows) marks ∙ marks_at_start s ∙ ap (marks_after s) (sym c.new.ensures);
      pools = ap (λ (m : Marked). m.pools) marks;
      table = tt;
      weights = tt;
    }
