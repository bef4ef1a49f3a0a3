use Rattle.std.proofs.Common.{[], ap, sym, subst, ◌∙◌}
use Rattle.std.specs.Prelude.{IfSome, slice_index_or, slice_set}
use Rattle.desk_model.specs.Desk.{AreMarksOf}
use Rattle.desk_model.specs.Graded.{Marked, mark_within}
use Rattle.pair_table.specs.Kept.{StandsElsewhere}
use Rattle.session_replies.specs.State.{Numbers, WereWeightsFor}
use Rattle.session_replies.proofs.Following.{marks_with, table_elsewhere}
use Rattle.session_replies.proofs.Weighing.{weights_were}
use Rattle.session_replies.proofs.state.Judging.follow.Goals as goal

pub take_over-requires-clause-marks : goal.take_over-requires-clause-marks
take_over-requires-clause-marks g c =
    let desk = c.args.given.now.desk.now in
    let told = c.args.changed.now in
    subst (AreMarksOf desk) (sym (ap (λ (m : Marked). m.rows) c.set.ensures)) (marks_with desk.topics c.args.self.now.marks.rows told.topic told.doc c.mark-mark.result c.requires.marks)

pub take_over-requires-clause-others : goal.take_over-requires-clause-others
take_over-requires-clause-others g c =
    let desk = c.args.given.now.desk.now in
    let told = c.args.changed.now in
    let old = c.args.self.now in
    subst (λ ms. IfSome old.table (λ t. StandsElsewhere (g.M.Measure.cell_of t.measure) (g.M.Measure.bounds_of t.measure) desk ms told.topic t)) (sym (ap (λ (m : Marked). m.rows) c.set.ensures))
    (table_elsewhere (record { name = g.M.Measure.measured; cell = g.M.Measure.cell_of; bound = g.M.Measure.bounds_of }) desk old.marks.rows told.topic (slice_set (slice_index_or old.marks.rows told.topic []) told.doc c.mark-mark.result) old.table c.requires.marks
    c.requires.table)

pub take_over-requires-clause-totals : goal.take_over-requires-clause-totals
take_over-requires-clause-totals g c =
    let desk = c.args.given.now.desk.now in
    let told = c.args.changed.now in
    let old = c.args.self.now in
    let n : Numbers _ = record { name = g.M.Measure.measured; cell = g.M.Measure.cell_of; bound = g.M.Measure.bounds_of } in
    subst (λ ms. WereWeightsFor n told.topic desk ms old.weights old.table) (sym (ap (λ (m : Marked). m.rows) c.set.ensures))
    (weights_were n desk old.marks.rows told.topic told.doc c.mark-mark.result old.weights old.table c.requires.topic c.requires.table c.requires.totals)

pub returns-clause-marks : goal.returns-clause-marks
returns-clause-marks g c =
    let told = c.args.changed.now in
    let old = c.args.self.now in
    ap (λ (m : Marked). m.rows) c.set.ensures
    ∙ ap (λ m. slice_set old.marks.rows told.topic (slice_set (slice_index_or old.marks.rows told.topic []) told.doc m))
    (c.mark-mark.ensures ∙ ap (λ l. mark_within told.grade l c.pooled-pooled.result) c.level.ensures.value ∙ ap (mark_within told.grade c.args.given.now.grading.level) c.pooled-pooled.ensures)

pub returns-clause-pools : goal.returns-clause-pools
returns-clause-pools g c = ap (λ (m : Marked). m.pools) c.set.ensures
