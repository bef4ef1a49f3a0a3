use Rattle.std.proofs.Common.{◌≡◌, ◌++◌, ℕ, false, get_or, ap, ◌∙◌}
use Rattle.std.proofs.lemmas.Result.{IfOk-weaker}
use Rattle.measure_laws.specs.Cases.{least_truth}
use Rattle.measure_core.specs.Lists.{added_documents}
use Rattle.measure_core.proofs.Pushing.{added_same}
use Rattle.measure_core.proofs.measure.Measure.push_least_docs.Goals as goal

pub returns : goal.returns
returns g c =
    let marks = c.args.marks.now in
    let truth = least_truth (g.Self.Measure.measured c.args.self.now) marks c.args.a.now c.args.b.now in
    let told = λ (doc : ℕ). get_or c.deref.result.now doc false in
    let now = c.push_added.new.docs.items in
    let before = c.args.docs.now.items in
    let same : added_documents marks told ≡ added_documents marks truth = added_same marks told truth (λ doc lt. ap (λ l. get_or l doc false) c.deref.ensures.value ∙ c.in_ok-truth.ensures.each doc lt) in
    IfOk-weaker c.push_added.result (λ _. now ≡ before ++ added_documents marks told) (λ _. now ≡ before ++ added_documents marks truth) (λ _ is. is ∙ ap (λ ds. before ++ ds) same) c.push_added.ensures
