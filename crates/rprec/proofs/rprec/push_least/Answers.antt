use Rattle.std.proofs.Common.{◌≡◌, ◌++◌, ℕ, subst}
use Rattle.std.specs.Prelude.{OnOk}
use Rattle.measure_laws.specs.RprecCase.{greedy_truth}
use Rattle.measure_core.specs.Lists.{added_documents}
use Rattle.rprec.proofs.rprec.push_least.Goals as goal

pub returns : goal.returns
returns c =
    let marks = c.args.pair.now.marks.now in
    let before = c.args.docs.now.items in
    let now = c.push_chosen.new.docs.items in
    subst (λ (r : ℕ). OnOk c.push_chosen.result (now ≡ before ++ added_documents marks (greedy_truth marks c.args.pair.now.a.now c.args.pair.now.b.now r))) c.find_between-least.ensures.count c.push_chosen.ensures
