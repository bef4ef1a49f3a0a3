use Rattle.std.proofs.Common.{◌≡◌, ℕ, length, sym, subst}
use Rattle.desk_model.specs.declared.types.MeasureName.TheVariants.{Recall as R}
use Rattle.measure_core.specs.Lists.{case_documents, least_documents, AreCounted, HaveRoomFor}
use Rattle.recall.proofs.recall.RecallMeasure.count_lists.Goals as goal

pub count_cases-requires-clause-room : goal.count_cases-requires-clause-room
count_cases-requires-clause-room c = subst (λ (k : ℕ). HaveRoomFor c.args.counts.now (case_documents (R k) c.args.marks.now c.args.a.now c.args.b.now)) (sym c.self.view_is) c.requires.room

pub returns-clause-least : goal.returns-clause-least
returns-clause-least c = subst (λ (k : ℕ). c.count_cases.result.least ≡ length (least_documents (R k) c.args.marks.now c.args.a.now c.args.b.now)) c.self.view_is c.count_cases.ensures.least

pub returns-clause-most : goal.returns-clause-most
returns-clause-most c = subst (λ (k : ℕ). c.count_cases.result.most ≡ length (least_documents (R k) c.args.marks.now c.args.b.now c.args.a.now)) c.self.view_is c.count_cases.ensures.most

pub returns-clause-counts : goal.returns-clause-counts
returns-clause-counts c = subst (λ (k : ℕ). AreCounted c.args.counts.now (case_documents (R k) c.args.marks.now c.args.a.now c.args.b.now) c.count_cases.new.counts) c.self.view_is c.count_cases.ensures.counts
