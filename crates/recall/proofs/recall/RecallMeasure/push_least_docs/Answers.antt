use Rattle.std.proofs.Common.{◌≡◌, ◌++◌, ℕ, sym, subst}
use Rattle.std.specs.Prelude.{OnOk}
use Rattle.desk_model.specs.Completion.{with_picked}
use Rattle.measure_laws.specs.Cases.{recall_pick}
use Rattle.measure_core.specs.Lists.{added_documents}
use Rattle.recall.proofs.recall.RecallMeasure.push_least_docs.Goals as goal

pub returns : goal.returns
returns c =
    let marks = c.args.marks.now in
    let k : c.args.self.now ≡ c.self.inside.k = cc in
    subst (λ (m : ℕ). OnOk c.push_least.result (c.push_least.new.docs.items ≡ c.args.docs.now.items ++ added_documents marks (with_picked marks (recall_pick m marks c.args.a.now c.args.b.now)))) (sym k) c.push_least.ensures
