use Rattle.std.proofs.Common.{length, get_or, true, true≢false, ap, sym, subst, ◌∙◌, arith, Some}
use Rattle.std.specs.Prelude.{option_map}
use Rattle.std.specs.List.{list_any}
use Rattle.std.proofs.lemmas.List.{get_or-set_same}
use Rattle.judge_session.specs.Session.{is_undone_by, redone, with_live, first_that}
use Rattle.judge_session.specs.InForce.{told_of, IsSessionOf}
use Rattle.judge_session.specs.Marking.{IsFirstThat}
use Rattle.judge_session.proofs.Undoing.{redone-none}
use Rattle.judge_session.proofs.Sessions.{no_change, redone-set, length-redone}
use Rattle.judge_session.proofs.Finding.{first_that-at, first_that-none, first_that-some, on_desk-redone}
use Rattle.judge_session.proofs.session.Session.redo.Goals as goal

pub returns-in_default-clause-told : goal.returns-in_default-clause-told
returns-in_default-clause-told c =
    sym (ap (λ xs. option_map (told_of c.args.desk.now c.redo_first.new.changes.items) (first_that (is_undone_by c.args.who.now) xs)) (sym c.self.view_is)
    ∙ ap (option_map (told_of c.args.desk.now c.redo_first.new.changes.items)) (first_that-none (is_undone_by c.args.who.now) c.self.inside.changes.items c.in_default.ensures.place))

pub returns-in_default-clause-unchanged : goal.returns-in_default-clause-unchanged
returns-in_default-clause-unchanged c = c.redo_first.ensures.redone ∙ redone-none c.args.who.now c.self.inside.changes.items c.in_default.ensures.place ∙ c.self.view_is

pub returns-in_default-clause-desk : goal.returns-in_default-clause-desk
returns-in_default-clause-desk c = subst (IsSessionOf c.args.desk.now) (sym (returns-in_default-clause-unchanged c)) c.requires

pub told_at-requires-clause-place : goal.told_at-requires-clause-place
told_at-requires-clause-place c =
    let xs = c.self.inside.changes.items in
    let first : IsFirstThat (is_undone_by c.args.who.now) xs c.in-Some.place = c.in-Some.ensures.place in
    omega (arith, first.within, ap length (c.deref.ensures.value ∙ c.redo_first.ensures.redone), length-redone c.args.who.now xs)

pub told_at-requires-clause-desk : goal.told_at-requires-clause-desk
told_at-requires-clause-desk c =
    subst (IsSessionOf c.args.desk.now) (sym (c.deref.ensures.value ∙ c.redo_first.ensures.redone ∙ ap (redone c.args.who.now) c.self.view_is)) (on_desk-redone c.args.desk.now c.args.who.now c.args.self.now c.requires)

pub returns-clause-desk : goal.returns-clause-desk
returns-clause-desk c =
    subst (IsSessionOf c.args.desk.now) (sym (c.redo_first.ensures.redone ∙ ap (redone c.args.who.now) c.self.view_is)) (on_desk-redone c.args.desk.now c.args.who.now c.args.self.now c.requires)

pub returns-clause-nothing : goal.returns-clause-nothing
returns-clause-nothing c =
    let xs = c.self.inside.changes.items in
    let first : IsFirstThat (is_undone_by c.args.who.now) xs c.in-Some.place = c.in-Some.ensures.place in (
      λ e. absurd (true≢false (sym e)),
      λ h. absurd (true≢false (sym (first_that-some (is_undone_by c.args.who.now) xs c.in-Some.place no_change first) ∙ ap (list_any (is_undone_by c.args.who.now)) c.self.view_is ∙ h)),
    )

pub returns-clause-told : goal.returns-clause-told
returns-clause-told c =
    let who = c.args.who.now in
    let desk = c.args.desk.now in
    let xs = c.self.inside.changes.items in
    let new = c.redo_first.new.changes.items in
    let place = c.in-Some.place in
    let first : IsFirstThat (is_undone_by who) xs place = c.in-Some.ensures.place in
    let x = get_or xs place no_change in
    ap (λ told. Some told) (
    c.told_at.ensures.told no_change
    ∙ ap (λ ys. told_of desk ys (get_or ys place no_change)) c.deref.ensures.value
    ∙ ap (λ ys. told_of desk new (get_or ys place no_change)) (c.redo_first.ensures.redone ∙ sym (redone-set who xs c.self.inside.tally c.self.invariant place first no_change))
    ∙ ap (told_of desk new) (get_or-set_same xs place (with_live true x) no_change first.within)
    )
    ∙ sym (ap (λ ys. option_map (told_of desk new) (first_that (is_undone_by who) ys)) (sym c.self.view_is)
    ∙ ap (option_map (told_of desk new)) (first_that-at (is_undone_by who) xs place no_change first))
