use Rattle.std.proofs.Common.{◌≡◌, ◌+◌, [], ◌∷◌, ◌++◌, true, cond, refl, ap, ap₂, sym, subst, ◌∙◌, arith, List, ℕ, Some}
use Rattle.std.specs.Prelude.{if◌then◌else◌, not, ◌&&◌}
use Rattle.std.proofs.Common.{w32, to_z, of_z}
use Rattle.std.proofs.lemmas.Int.{to_z-of_z}
use Rattle.std.proofs.lemmas.List.Elements.{filter-append}
use Rattle.desk_model.specs.Name.{is_same_name}
use Rattle.judge_session.specs.declared.change.Change.{Change}
use Rattle.judge_session.specs.declared.counts.ChangeCounts.{ChangeCounts}
use Rattle.judge_session.specs.Session.{is_by, is_undone_by, without_undone}
use Rattle.judge_session.specs.Tally.{counts_of, count_that}
use Rattle.judge_session.specs.Kept.{IsKept}
use Rattle.judge_session.proofs.Sessions.{few_live, kept-judged, without-none}
use Rattle.judge_session.proofs.steps.append.Goals as goal
use Rattle.judge_session.proofs.steps.append.Goals.{then-counts-gt0, else-counts-gt0}

pub overflow_add-now : goal.overflow_add-now
overflow_add-now c =
    omega (arith, few_live c.args.who.now c.args.changes.now.items c.args.tally.now c.requires.kept 0, ap (λ (k : ChangeCounts). k.live) (c.counts-counts.ensures ∙ c.add.ensures.same c.args.who.now))

-- the list after the new change was pushed and the undone ones were dropped, where there were some
dropped : (who : List ℕ) (xs : List Change) (new : Change) → new.live ≡ true → without_undone who (xs ++ new ∷ []) ≡ without_undone who xs ++ new ∷ []
dropped who xs new e =
    filter-append (λ change. not (is_undone_by who change)) xs (new ∷ [])
    ∙ ap (λ b. without_undone who xs ++ cond (not (not b && is_by who new)) (new ∷ []) []) e

pub returns-clause-ok : goal.returns-clause-ok
returns-clause-ok c =
    let who = c.args.who.now in
    let xs = c.args.changes.now.items in
    let new : Change = record { who = who; topic = c.args.topic; doc = c.args.doc; grade = c.args.grade; live = true } in
    let pushed : c.push_reserved.new.self.items ≡ xs ++ new ∷ [] =
    c.push_reserved.ensures.items
    ∙ ap (λ ys. ys ++ (record { who = c.in_ok-name.name; topic = c.args.topic; doc = c.args.doc; grade = to_z w32 (of_z w32 c.args.grade); live = true }) ∷ []) c.in_ok-reserve.ensures.items
    ∙ ap₂ (λ w z. xs ++ (record { who = w; topic = c.args.topic; doc = c.args.doc; grade = z; live = true }) ∷ []) c.in_ok-name.ensures (to_z-of_z w32 c.args.grade c.ranges.grade) in
    elim c.if-counts-gt0.branch [
      | then-counts-gt0 w ↦ ap (λ v. v.items) w.changes-is ∙ w.drop_undone.ensures ∙ ap (without_undone who) pushed ∙ dropped who xs new refl
      | else-counts-gt0 w ↦
          let none : count_that (is_undone_by who) xs ≡ 0 =
          omega (arith, w.if-counts-gt0.false, ap (λ (k : ChangeCounts). k.undone) (c.counts-counts.ensures ∙ c.add.ensures.same who ∙ c.requires.kept.tallied who)) in
          ap (λ v. v.items) w.changes-is ∙ pushed ∙ ap (λ ys. ys ++ new ∷ []) (sym (without-none who xs none))
    ]

pub returns-clause-kept : goal.returns-clause-kept
returns-clause-kept c =
    let who = c.args.who.now in
    let added = c.add.new.self in
    let kept : IsKept c.args.changes.now.items added = record { session = c.requires.kept.session; tallied = λ q. c.add.ensures.same q ∙ c.requires.kept.tallied q } in
    subst (λ (ys : List Change). IsKept ys c.set.new.self) (sym {A = List Change} (returns-clause-ok c))
    (kept-judged who c.args.topic c.args.doc c.args.grade c.args.changes.now.items added c.set.new.self kept c.requires.room (λ q.
    c.set.ensures q ∙ ap (λ (k : ChangeCounts). if is_same_name who q then record { live = k.live + 1; undone = 0; last = Some (c.args.topic, c.args.doc) } else counts_of q added) c.counts-counts.ensures))
