use Rattle.std.proofs.Common.{◌≡◌, ℕ, true, false, List, [], ◌∷◌, ◌++◌, length, ap, refl, sym, ◌∙◌, arith}
use Rattle.std.proofs.lemmas.List.{append-nil}
use Rattle.std.proofs.lemmas.Result.{on_ok_weaker}
use Rattle.desk_model.specs.Completion.{with_picked}
use Rattle.desk_model.specs.declared.types.Mark.{Mark}
use Rattle.measure_laws.specs.AverageEnds.{high_case, low_case}
use Rattle.measure_core.specs.Lists.{added_documents}
use Rattle.measure_core.proofs.Pushing.{added_same}
use Rattle.precision_candidates.specs.Classes.{class_truth}
use Rattle.average_precision.specs.Least.{case_truth}
use Rattle.average_precision.specs.declared.numbers.Case.{Case}
use Rattle.average_precision.proofs.Using.{none_added}
use Rattle.average_precision.proofs.pushed.push_case.Goals as goal

empty : (xs : List ℕ) → length xs ≡ 0 → xs ≡ []
empty [] e = refl
empty (x ∷ xs) e = absurd (omega (arith, e))

-- a list of the case of two runs is that of another case with the same name
of_case : (marks : List Mark) (a b : List ℕ) (case other : Case) → case ≡ other → added_documents marks (case_truth marks a b other) ≡ added_documents marks (case_truth marks a b case)
of_case marks a b case other is = ap (λ (x : Case). added_documents marks (case_truth marks a b x)) (sym is)

pub returns-in-OfNone : goal.returns-in-OfNone
returns-in-OfNone c =
    let first = c.args.first.now in
    let marks = first.run.on.marks.now in
    let docs = c.args.docs.now.items in
    sym (append-nil docs) ∙ ap (λ l. docs ++ l) (sym (empty (added_documents marks (with_picked marks (λ _. false))) (none_added marks)) ∙ of_case marks first.run.on.docs.now c.args.second.now.run.on.docs.now c.args.case _ c.in-OfNone.is)

pub returns-in-OfLow : goal.returns-in-OfLow
returns-in-OfLow c =
    let first = c.args.first.now in
    let marks = first.run.on.marks.now in
    let docs = c.args.docs.now.items in
    on_ok_weaker c.push_in.result (λ e. e ∙ ap (λ l. docs ++ l) (added_same marks (class_truth false first.classes.now) (low_case marks first.run.on.docs.now) first.are.low ∙ of_case marks first.run.on.docs.now c.args.second.now.run.on.docs.now c.args.case _ c.in-OfLow.is)) c.push_in.ensures

pub returns-in-OfHigh : goal.returns-in-OfHigh
returns-in-OfHigh c =
    let first = c.args.first.now in
    let second = c.args.second.now in
    let marks = first.run.on.marks.now in
    let docs = c.args.docs.now.items in
    let same : added_documents second.run.on.marks.now (high_case second.run.on.marks.now second.run.on.docs.now) ≡ added_documents marks (high_case marks second.run.on.docs.now) = ap (λ (ms : List Mark). added_documents ms (high_case ms second.run.on.docs.now)) c.requires in
    on_ok_weaker c.push_in-in-OfHigh.result
    (λ e. e ∙ ap (λ l. docs ++ l) (added_same second.run.on.marks.now (class_truth true second.classes.now) (high_case second.run.on.marks.now second.run.on.docs.now) second.are.high ∙ same ∙ of_case marks first.run.on.docs.now second.run.on.docs.now c.args.case _ c.in-OfHigh.is)) c.push_in-in-OfHigh.ensures
