use Rattle.std.proofs.Common.{◌≡◌, ◌++◌, ℕ, subst}
use Rattle.std.specs.Prelude.{OnOk}
use Rattle.std.proofs.lemmas.Result.{IfOk-weaker}
use Rattle.measure_laws.specs.RprecCase.{greedy_truth, rprec_truth}
use Rattle.measure_core.specs.Lists.{added_documents}
use Rattle.rprec.proofs.rprec.push_cases.Goals as goal

pub returns-clause-least : goal.returns-clause-least
returns-clause-least c =
    let marks = c.args.pair.now.marks.now in
    let a = c.args.pair.now.a.now in
    let b = c.args.pair.now.b.now in
    let before = c.args.least.now.items in
    let now = c.push_chosen.new.docs.items in
    let high = added_documents marks (greedy_truth marks b a c.find_between-cases.result.most.count) in
    let made : now ≡ before ++ added_documents marks (rprec_truth marks a b) = subst (λ (r : ℕ). now ≡ before ++ added_documents marks (greedy_truth marks a b r)) c.find_between-cases.ensures.least.count c.in_ok-push_chosen.ensures in
    IfOk-weaker c.push_chosen-2.result (λ _. c.push_chosen-2.new.docs.items ≡ c.args.most.now.items ++ high) (λ _. now ≡ before ++ added_documents marks (rprec_truth marks a b)) (λ _ _. made) c.push_chosen-2.ensures

pub returns-clause-most : goal.returns-clause-most
returns-clause-most c =
    let marks = c.args.pair.now.marks.now in
    let before = c.args.most.now.items in
    let now = c.push_chosen-2.new.docs.items in
    subst (λ (r : ℕ). OnOk c.push_chosen-2.result (now ≡ before ++ added_documents marks (greedy_truth marks c.args.pair.now.b.now c.args.pair.now.a.now r))) c.find_between-cases.ensures.most.count c.push_chosen-2.ensures
