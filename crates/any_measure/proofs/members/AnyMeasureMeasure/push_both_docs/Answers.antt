use Rattle.std.proofs.Common.{◌≡◌, ◌++◌, sym, subst}
use Rattle.std.specs.Prelude.{OnOk}
use Rattle.measure_core.specs.Lists.{least_documents}
use Rattle.any_measure.specs.Any.{measured_by}
use Rattle.any_measure.specs.declared.any.AnyMeasure.{AnyMeasure}
use Rattle.any_measure.proofs.members.AnyMeasureMeasure.push_both_docs.Goals as goal

pub returns-in-RPrecision-clause-most : goal.returns-in-RPrecision-clause-most
returns-in-RPrecision-clause-most c =
    subst (λ (m : AnyMeasure). OnOk c.push_both_docs-in-RPrecision.result (c.push_both_docs-in-RPrecision.new.most.items ≡ c.args.most.now.items ++ least_documents (measured_by m) c.args.marks.now c.args.b.now c.args.a.now))
    (sym c.in-RPrecision.is) c.push_both_docs-in-RPrecision.ensures.most
