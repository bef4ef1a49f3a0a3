use Rattle.std.proofs.Common.{◌≡◌, ◌++◌}
use Rattle.std.proofs.lemmas.Result.{IfOk-weaker}
use Rattle.measure_core.specs.Lists.{least_documents}
use Rattle.measure_core.proofs.measure.Measure.push_both_docs.Goals as goal

pub returns-clause-least : goal.returns-clause-least
returns-clause-least g c =
    let listed = least_documents (g.Self.Measure.measured c.args.self.now) c.args.marks.now in
    let a = c.args.a.now in
    let b = c.args.b.now in
    IfOk-weaker c.push_least_docs-2.result (λ _. c.push_least_docs-2.new.docs.items ≡ c.args.most.now.items ++ listed b a) (λ _. c.push_least_docs.new.docs.items ≡ c.args.least.now.items ++ listed a b) (λ _ _. c.in_ok-push_least_docs.ensures) c.push_least_docs-2.ensures
