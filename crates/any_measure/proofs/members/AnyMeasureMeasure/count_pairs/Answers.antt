use Rattle.std.proofs.Common.{sym, subst}
use Rattle.std.specs.Prelude.{OnOk}
use Rattle.measure_core.specs.Lists.{AreCounted}
use Rattle.measure_core.specs.PairLists.{pair_documents}
use Rattle.any_measure.specs.Any.{measured_by}
use Rattle.any_measure.specs.declared.any.AnyMeasure.{AnyMeasure}
use Rattle.any_measure.proofs.members.AnyMeasureMeasure.count_pairs.Goals as goal

pub returns-in-Precision-clause-counts : goal.returns-in-Precision-clause-counts
returns-in-Precision-clause-counts c =
    subst (λ (m : AnyMeasure). OnOk c.count_pairs.result (AreCounted c.args.counts.now (pair_documents (measured_by m) c.args.marks.now c.args.rankings.now c.args.pairs.now) c.count_pairs.new.counts)) (sym c.in-Precision.is) c.count_pairs.ensures.counts

pub returns-in-Recall-clause-counts : goal.returns-in-Recall-clause-counts
returns-in-Recall-clause-counts c =
    subst (λ (m : AnyMeasure). OnOk c.count_pairs-in-Recall.result (AreCounted c.args.counts.now (pair_documents (measured_by m) c.args.marks.now c.args.rankings.now c.args.pairs.now) c.count_pairs-in-Recall.new.counts)) (sym c.in-Recall.is) c.count_pairs-in-Recall.ensures.counts

pub returns-in-RPrecision-clause-counts : goal.returns-in-RPrecision-clause-counts
returns-in-RPrecision-clause-counts c =
    subst (λ (m : AnyMeasure). OnOk c.count_pairs-in-RPrecision.result (AreCounted c.args.counts.now (pair_documents (measured_by m) c.args.marks.now c.args.rankings.now c.args.pairs.now) c.count_pairs-in-RPrecision.new.counts)) (sym c.in-RPrecision.is) c.count_pairs-in-RPrecision.ensures.counts

pub returns-in-Reciprocal-clause-counts : goal.returns-in-Reciprocal-clause-counts
returns-in-Reciprocal-clause-counts c =
    subst (λ (m : AnyMeasure). OnOk c.count_pairs-in-Reciprocal.result (AreCounted c.args.counts.now (pair_documents (measured_by m) c.args.marks.now c.args.rankings.now c.args.pairs.now) c.count_pairs-in-Reciprocal.new.counts)) (sym c.in-Reciprocal.is) c.count_pairs-in-Reciprocal.ensures.counts

pub returns-in-Biased-clause-counts : goal.returns-in-Biased-clause-counts
returns-in-Biased-clause-counts c =
    subst (λ (m : AnyMeasure). OnOk c.count_pairs-in-Biased.result (AreCounted c.args.counts.now (pair_documents (measured_by m) c.args.marks.now c.args.rankings.now c.args.pairs.now) c.count_pairs-in-Biased.new.counts)) (sym c.in-Biased.is) c.count_pairs-in-Biased.ensures.counts
