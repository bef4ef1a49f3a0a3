use Rattle.std.proofs.Common.{◌≡◌, true≢false, ap, sym, subst, ◌∙◌, Some, None, Option, ℕ}
use Rattle.std.specs.Prelude.{option_map, ℤ}
use Rattle.judge_session.specs.declared.answers.Changed.{Changed}
use Rattle.desk_model.specs.Book.{file_grade_of}
use Rattle.desk_model.specs.Named.{book_at}
use Rattle.judge_session.specs.Session.{is_live_by, undone, last_that}
use Rattle.judge_session.specs.InForce.{told_of, counted_grade, IsSessionOf}
use Rattle.judge_session.specs.Looking.{IsMarkOf}
use Rattle.judge_session.specs.Tally.{changed_document}
use Rattle.judge_session.proofs.Undoing.{undone-none}
use Rattle.judge_session.proofs.Finding.{last_that-none, on_desk-undone}
use Rattle.judge_session.proofs.Lasts.{last_document-on_desk, told_as, told_by_document}
use Rattle.judge_session.proofs.session.Session.undo.Goals as goal

pub returns-in_default-clause-told : goal.returns-in_default-clause-told
returns-in_default-clause-told c =
    sym (ap (λ xs. option_map (told_of c.args.desk.now c.undo_last.new.changes.items) (last_that (is_live_by c.args.who.now) xs)) (sym c.self.view_is)
    ∙ ap (option_map (told_of c.args.desk.now c.undo_last.new.changes.items)) (last_that-none (is_live_by c.args.who.now) c.self.inside.changes.items c.in_default.ensures.mark))

pub returns-in_default-clause-unchanged : goal.returns-in_default-clause-unchanged
returns-in_default-clause-unchanged c = c.undo_last.ensures.undone ∙ undone-none c.args.who.now c.self.inside.changes.items c.in_default.ensures.mark ∙ c.self.view_is

pub returns-in_default-clause-desk : goal.returns-in_default-clause-desk
returns-in_default-clause-desk c = subst (IsSessionOf c.args.desk.now) (sym (returns-in_default-clause-unchanged c)) c.requires

pub told_by-requires-clause-topic : goal.told_by-requires-clause-topic
told_by-requires-clause-topic c =
    let mark : IsMarkOf c.args.who.now c.self.inside.changes.items c.undo_last.new.changes.items c.in-Some.mark = c.in-Some.ensures.mark in
    (last_document-on_desk c.args.desk.now c.args.who.now c.self.inside.changes.items c.in-Some.mark.topic c.in-Some.mark.doc (subst (IsSessionOf c.args.desk.now) (sym c.self.view_is) c.requires) mark.document).0

pub told_by-requires-clause-doc : goal.told_by-requires-clause-doc
told_by-requires-clause-doc c =
    let mark : IsMarkOf c.args.who.now c.self.inside.changes.items c.undo_last.new.changes.items c.in-Some.mark = c.in-Some.ensures.mark in
    (last_document-on_desk c.args.desk.now c.args.who.now c.self.inside.changes.items c.in-Some.mark.topic c.in-Some.mark.doc (subst (IsSessionOf c.args.desk.now) (sym c.self.view_is) c.requires) mark.document).1

pub returns-clause-desk : goal.returns-clause-desk
returns-clause-desk c =
    subst (IsSessionOf c.args.desk.now) (sym (c.undo_last.ensures.undone ∙ ap (undone c.args.who.now) c.self.view_is)) (on_desk-undone c.args.desk.now c.args.who.now c.args.self.now c.requires)

pub returns-clause-nothing : goal.returns-clause-nothing
returns-clause-nothing c =
    let xs = c.self.inside.changes.items in
    let mark : IsMarkOf c.args.who.now xs c.undo_last.new.changes.items c.in-Some.mark = c.in-Some.ensures.mark in (
      λ e. absurd (true≢false (sym e)),
      λ h. absurd (some_not_none (sym mark.document
          ∙ ap (option_map changed_document) (ap (last_that (is_live_by c.args.who.now)) c.self.view_is ∙ last_that-none (is_live_by c.args.who.now) c.args.self.now h))),
    )
  where
    some_not_none : {document : ℕ × ℕ} → Some document ≡ None → ⊥
    some_not_none h = absurd (cc)

pub returns-clause-told : goal.returns-clause-told
returns-clause-told c =
    let who = c.args.who.now in
    let desk = c.args.desk.now in
    let xs = c.self.inside.changes.items in
    let new = c.undo_last.new.changes.items in
    let topic = c.in-Some.mark.topic in
    let doc = c.in-Some.mark.doc in
    let mark : IsMarkOf who xs new c.in-Some.mark = c.in-Some.ensures.mark in
    ap (λ told. Some told) (
    c.told_by.ensures.told
    ∙ ap (λ (grade : Option ℤ). let told : Changed = record { topic = topic; doc = doc; grade = counted_grade grade } in told) (sym (mark.grade (file_grade_of (book_at desk topic) doc)))
    )
    ∙ ap (option_map (told_as desk new)) (sym mark.document) ∙ sym (told_by_document desk who xs new)
    ∙ ap (λ ys. option_map (told_of desk new) (last_that (is_live_by who) ys)) c.self.view_is
