use Rattle.std.proofs.Common.{◌≡◌, ◌*◌, ap, sym, subst, ◌∙◌, arith}
use Rattle.std.specs.Prelude.{codes}
use Rattle.judge_session.specs.Session.{first_that, is_undone_by, redone}
use Rattle.judge_session.specs.InForce.{grade_after, told_of, grade_in_force}
use Rattle.judge_session.specs.declared.answers.Changed.{Changed}
use Rattle.judge_session.specs.Request.{Asked, Redo}
use Rattle.session_replies.specs.Replies.{marks_after, one_if_some, change_reply, redo_reply}
use Rattle.session_replies.specs.State.{setting_of, pairs_in}
use Rattle.session_replies.proofs.Marks.{marks_of_desk}
use Rattle.desk_model.specs.Desk.{AreMarksOf}
use Rattle.session_replies.proofs.Elsewhere.{not_both, redone_elsewhere}
use Rattle.session_replies.proofs.Following.{ok_with, table_made, table_stands, topic_there, doc_there, followed, mapped_some}
use Rattle.session_replies.proofs.state.Judging.redo.Goals as goal

pub follow-requires-clause-topic : goal.follow-requires-clause-topic
follow-requires-clause-topic g c = topic_there (setting_of c.args.given.now) c.valid.ensures c.args.self.now.marks.rows c.args.self.now.session c.requires.marked c.in-Ok.changed c.in-Ok.ensures.document

pub follow-requires-clause-doc : goal.follow-requires-clause-doc
follow-requires-clause-doc g c = doc_there (setting_of c.args.given.now) c.valid.ensures c.args.self.now.marks.rows c.args.self.now.session c.requires.marked c.in-Ok.changed c.in-Ok.ensures.document

pub follow-requires-clause-marks : goal.follow-requires-clause-marks
follow-requires-clause-marks g c =
    let s = setting_of c.args.given.now in
    subst (AreMarksOf s.desk) (sym c.requires.marked) (marks_of_desk s c.args.self.now.session c.valid.ensures)

pub follow-requires-clause-table : goal.follow-requires-clause-table
follow-requires-clause-table g c =
    let s = setting_of c.args.given.now in
    let old = c.args.self.now in
    table_stands (record { name = g.M.Measure.measured; cell = g.M.Measure.cell_of; bound = g.M.Measure.bounds_of }) s (marks_after s old.session) old.marks.rows old.table c.requires.marked c.requires.table

pub returns-in-Ok-clause-answers : goal.returns-in-Ok-clause-answers
returns-in-Ok-clause-answers g c =
    let s = setting_of c.args.given.now in
    let old = c.args.self.now in
    let who = c.args.who.now in
    let told = c.in-Ok.changed in
    let heard = Asked (Redo who) in
    let now = c.redo.new.self in
    let found = mapped_some (told_of s.desk now) (first_that (is_undone_by who) old.session) told c.in-Ok.ensures.told in
    let change = found.0 in
    let topic : change.topic ≡ told.topic = sym (ap (λ (k : Changed). k.topic) found.2) in
    let doc : change.doc ≡ told.doc = sym (ap (λ (k : Changed). k.doc) found.2) in
    let grade : told.grade ≡ grade_in_force s.desk told.topic told.doc now =
    ap (λ (k : Changed). k.grade) found.2 ∙ ap (λ t. grade_in_force s.desk t change.doc now) topic ∙ ap (λ d. grade_in_force s.desk told.topic d now) doc in
    let changes : now ≡ redone who old.session = c.in-Ok.ensures.redone in
    ok_with c.follow.result _ _ _ _
    (λ text line marks table.
    followed _ s c.valid.ensures heard old c.follow.new.self now told c.requires.marked c.requires.pools c.in-Ok.ensures.document c.in-Ok.ensures.desk grade
    (λ file t d apart. ap (grade_after file t d) changes ∙ redone_elsewhere t d change (not_both change.topic t change.doc d (λ e f. apart (sym topic ∙ e) (sym doc ∙ f))) who old.session file found.1)
    c.follow.ensures.session c.follow.ensures.pools marks table c.follow.ensures.totals (table_made _ s (marks_after s old.session) old.table c.requires.table) changes (codes "redone") text.items
    (λ is. is
    ∙ ap (λ t. change_reply s.desk (codes "redone") t told.doc now) (sym topic)
    ∙ ap (λ d. change_reply s.desk (codes "redone") change.topic d now) (sym doc)
    ∙ ap (change_reply s.desk (codes "redone") change.topic change.doc) changes
    ∙ sym (ap (redo_reply s.desk (redone who old.session)) found.1))
    line)
    c.follow.ensures.line c.follow.ensures.marks c.follow.ensures.table

pub returns-in-Ok-clause-counts : goal.returns-in-Ok-clause-counts
returns-in-Ok-clause-counts g c =
    let desk = c.args.given.now.desk.now in
    let found = mapped_some (told_of desk c.redo.new.self) (first_that (is_undone_by c.args.who.now) c.args.self.now.session) c.in-Ok.changed c.in-Ok.ensures.told in
    let one = ap (λ o. one_if_some o * pairs_in desk) found.1 in
    omega (arith, one, c.follow.ensures.steps)
