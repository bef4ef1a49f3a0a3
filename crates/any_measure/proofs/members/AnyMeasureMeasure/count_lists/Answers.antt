use Rattle.std.proofs.Common.{◌≡◌, length, sym, subst}
use Rattle.std.specs.Prelude.{IfOk, OnOk}
use Rattle.measure_core.specs.Lists.{case_documents, least_documents, AreCounted, HaveRoomFor}
use Rattle.measure_core.specs.declared.counting.ListSizes.{ListSizes}
use Rattle.any_measure.specs.Any.{measured_by}
use Rattle.any_measure.specs.declared.any.AnyMeasure.{AnyMeasure}
use Rattle.any_measure.proofs.members.AnyMeasureMeasure.count_lists.Goals as goal

pub count_lists-requires-clause-room : goal.count_lists-requires-clause-room
count_lists-requires-clause-room c = subst (λ (m : AnyMeasure). HaveRoomFor c.args.counts.now (case_documents (measured_by m) c.args.marks.now c.args.a.now c.args.b.now)) c.in-Precision.is c.requires.room

pub count_lists-requires-in-Recall-clause-room : goal.count_lists-requires-in-Recall-clause-room
count_lists-requires-in-Recall-clause-room c = subst (λ (m : AnyMeasure). HaveRoomFor c.args.counts.now (case_documents (measured_by m) c.args.marks.now c.args.a.now c.args.b.now)) c.in-Recall.is c.requires.room

pub count_lists-requires-in-RPrecision-clause-room : goal.count_lists-requires-in-RPrecision-clause-room
count_lists-requires-in-RPrecision-clause-room c = subst (λ (m : AnyMeasure). HaveRoomFor c.args.counts.now (case_documents (measured_by m) c.args.marks.now c.args.a.now c.args.b.now)) c.in-RPrecision.is c.requires.room

pub count_lists-requires-in-Reciprocal-clause-room : goal.count_lists-requires-in-Reciprocal-clause-room
count_lists-requires-in-Reciprocal-clause-room c = subst (λ (m : AnyMeasure). HaveRoomFor c.args.counts.now (case_documents (measured_by m) c.args.marks.now c.args.a.now c.args.b.now)) c.in-Reciprocal.is c.requires.room

pub count_lists-requires-in-Biased-clause-room : goal.count_lists-requires-in-Biased-clause-room
count_lists-requires-in-Biased-clause-room c = subst (λ (m : AnyMeasure). HaveRoomFor c.args.counts.now (case_documents (measured_by m) c.args.marks.now c.args.a.now c.args.b.now)) c.in-Biased.is c.requires.room

pub count_lists-requires-in-Average-clause-room : goal.count_lists-requires-in-Average-clause-room
count_lists-requires-in-Average-clause-room c = subst (λ (m : AnyMeasure). HaveRoomFor c.args.counts.now (case_documents (measured_by m) c.args.marks.now c.args.a.now c.args.b.now)) c.in-Average.is c.requires.room

pub returns-in-Recall-clause-least : goal.returns-in-Recall-clause-least
returns-in-Recall-clause-least c = subst (λ (m : AnyMeasure). IfOk c.count_lists-in-Recall.result (λ (sizes : ListSizes). sizes.least ≡ length (least_documents (measured_by m) c.args.marks.now c.args.a.now c.args.b.now))) (sym c.in-Recall.is) c.count_lists-in-Recall.ensures.least

pub returns-in-RPrecision-clause-least : goal.returns-in-RPrecision-clause-least
returns-in-RPrecision-clause-least c = subst (λ (m : AnyMeasure). IfOk c.count_lists-in-RPrecision.result (λ (sizes : ListSizes). sizes.least ≡ length (least_documents (measured_by m) c.args.marks.now c.args.a.now c.args.b.now))) (sym c.in-RPrecision.is) c.count_lists-in-RPrecision.ensures.least

pub returns-in-RPrecision-clause-most : goal.returns-in-RPrecision-clause-most
returns-in-RPrecision-clause-most c = subst (λ (m : AnyMeasure). IfOk c.count_lists-in-RPrecision.result (λ (sizes : ListSizes). sizes.most ≡ length (least_documents (measured_by m) c.args.marks.now c.args.b.now c.args.a.now))) (sym c.in-RPrecision.is) c.count_lists-in-RPrecision.ensures.most

pub returns-in-RPrecision-clause-counts : goal.returns-in-RPrecision-clause-counts
returns-in-RPrecision-clause-counts c = subst (λ (m : AnyMeasure). OnOk c.count_lists-in-RPrecision.result (AreCounted c.args.counts.now (case_documents (measured_by m) c.args.marks.now c.args.a.now c.args.b.now) c.count_lists-in-RPrecision.new.counts)) (sym c.in-RPrecision.is) c.count_lists-in-RPrecision.ensures.counts
