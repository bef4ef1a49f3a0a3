use Rattle.std.proofs.Common.{◌≡◌, ◌*◌, ap, sym, subst, ◌∙◌, arith}
use Rattle.session_replies.proofs.Answering.{grade_kept}
use Rattle.judge_session.specs.Session.{judged}
use Rattle.std.specs.Prelude.{codes}
use Rattle.judge_session.specs.InForce.{grade_after}
use Rattle.judge_session.specs.Request.{Asked, Judge}
use Rattle.session_replies.specs.Replies.{marks_after, one_if_ok, after_judging, changes_after, change_reply, judge_reply}
use Rattle.session_replies.specs.State.{setting_of, pairs_in}
use Rattle.session_replies.proofs.Marks.{marks_of_desk}
use Rattle.desk_model.specs.Desk.{AreMarksOf}
use Rattle.session_replies.proofs.Elsewhere.{not_both, judged_elsewhere}
use Rattle.session_replies.proofs.Following.{ok_with, table_made, table_stands, topic_there, doc_there, followed}
use Rattle.session_replies.proofs.state.Judging.judge.Goals as goal

pub follow-requires-clause-topic : goal.follow-requires-clause-topic
follow-requires-clause-topic g c = topic_there (setting_of c.args.given.now) c.valid.ensures c.args.self.now.marks.rows c.args.self.now.session c.requires.ready.marked c.in-Ok.changed c.in-Ok.ensures.document

pub follow-requires-clause-doc : goal.follow-requires-clause-doc
follow-requires-clause-doc g c = doc_there (setting_of c.args.given.now) c.valid.ensures c.args.self.now.marks.rows c.args.self.now.session c.requires.ready.marked c.in-Ok.changed c.in-Ok.ensures.document

pub follow-requires-clause-marks : goal.follow-requires-clause-marks
follow-requires-clause-marks g c =
    let s = setting_of c.args.given.now in
    subst (AreMarksOf s.desk) (sym c.requires.ready.marked) (marks_of_desk s c.args.self.now.session c.valid.ensures)

pub follow-requires-clause-table : goal.follow-requires-clause-table
follow-requires-clause-table g c =
    let s = setting_of c.args.given.now in
    let old = c.args.self.now in
    table_stands (record { name = g.M.Measure.measured; cell = g.M.Measure.cell_of; bound = g.M.Measure.bounds_of }) s (marks_after s old.session) old.marks.rows old.table c.requires.ready.marked c.requires.ready.table

pub returns-in-Ok-clause-answers : goal.returns-in-Ok-clause-answers
returns-in-Ok-clause-answers g c =
    let s = setting_of c.args.given.now in
    let old = c.args.self.now in
    let who = c.args.judgement.now.who.now in
    let grade = c.args.judgement.now.grade in
    let told = c.in-Ok.changed in
    let said = c.in-Ok.ensures.judged in
    let heard = Asked (Judge who c.args.judgement.now.topic.now c.args.judgement.now.doc.now grade) in
    let now = c.judge.new.self in
    let list : now ≡ judged who told.topic told.doc grade old.session = said.list ∙ ap (λ z. judged who told.topic told.doc z old.session) (grade_kept grade (c.args.judgement.now.low, c.args.judgement.now.high)) in
    let changes : now ≡ changes_after s.desk heard old.session = list ∙ sym (ap (after_judging who grade old.session) said.place) in
    ok_with c.follow.result _ _ _ _
    (λ text line marks table.
    followed _ s c.valid.ensures heard old c.follow.new.self now told c.requires.ready.marked c.requires.ready.pools c.in-Ok.ensures.document c.in-Ok.ensures.desk said.in_force
    (λ file t d apart. ap (grade_after file t d) list ∙ judged_elsewhere who told.topic told.doc grade old.session file t d (not_both told.topic t told.doc d apart))
    c.follow.ensures.session c.follow.ensures.pools marks table c.follow.ensures.totals (table_made _ s (marks_after s old.session) old.table c.requires.ready.table) changes (codes "judged") text.items
    (λ is. is ∙ ap (change_reply s.desk (codes "judged") told.topic told.doc) changes ∙ sym (ap (judge_reply s.desk (changes_after s.desk heard old.session)) said.place))
    line)
    c.follow.ensures.line c.follow.ensures.marks c.follow.ensures.table

pub returns-in-Ok-clause-counts : goal.returns-in-Ok-clause-counts
returns-in-Ok-clause-counts g c =
    let one = ap (λ r. one_if_ok r * pairs_in c.args.given.now.desk.now) c.in-Ok.ensures.judged.place in
    omega (arith, one, c.follow.ensures.steps)
