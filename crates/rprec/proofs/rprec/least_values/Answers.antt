use Rattle.std.proofs.Common.{ℕ, Bool, length, IfOk, subst}
use Rattle.desk_model.specs.Completion.{with_picked}
use Rattle.measure_laws.specs.RprecCase.{greedy_truth}
use Rattle.measure_core.specs.Laws.{AreValues}
use Rattle.rprec.proofs.Walks.{picks_are}
use Rattle.rprec.proofs.rprec.least_values.Goals as goal

pub returns : goal.returns
returns c =
    let marks = c.args.pair.now.marks.now in
    let a = c.args.pair.now.a.now in
    let b = c.args.pair.now.b.now in
    let n = length marks in
    let least = c.find_between-least.result in
    let is = c.find_between-least.ensures in
    let picked = picks_are marks a b least.count least.wanted is.wanted.second is.wanted.both is.wanted.first in
    let greedy = subst (λ (pick : ℕ → Bool). IfOk c.values.result (λ values. AreValues (with_picked marks pick) n values.items)) picked c.values.ensures in
    subst (λ (r : ℕ). IfOk c.values.result (λ values. AreValues (greedy_truth marks a b r) n values.items)) is.count greedy
