use Rattle.std.proofs.Common.{sym, ◌∙◌}
use Rattle.precision_candidates.proofs.Marking.{all_marked, marked_judged, marked_open}
use Rattle.precision_candidates.proofs.classes.mark_run.Goals.{then-eq, else-eq}
use Rattle.precision_candidates.proofs.classes.mark_run.Goals as goal

pub loop-doc-preserved : goal.loop-doc-preserved
loop-doc-preserved c =
    let run = c.args.run.now in
    let marks = run.on.marks.now in
    let docs = run.on.docs.now in
    let taken = run.chosen.high.count in
    let left_out = run.chosen.low.count in
    elim c.if-eq.branch [
      | then-eq w ↦ marked_open marks docs c.loop-doc.doc-index taken left_out c.loop-doc.to_take c.loop-doc.to_leave c.if-eq.to_take c.if-eq.to_leave c.loop-doc.classes c.if-eq.classes w.class_after.result c.loop-doc-test.true run.on.ranking
          (sym c.eq.ensures ∙ w.if-eq.true) c.loop-doc.invariant w.class_after.ensures.high w.class_after.ensures.low
          (w.to_take-is ∙ w.saturating_sub-to_take.ensures) (w.to_leave-is ∙ w.saturating_sub-to_leave.ensures) w.classes-is
      | else-eq w ↦ marked_judged marks docs c.loop-doc.doc-index taken left_out c.loop-doc.to_take c.loop-doc.to_leave c.if-eq.to_take c.if-eq.to_leave c.loop-doc.classes c.if-eq.classes
          c.loop-doc-test.true (sym c.eq.ensures ∙ w.if-eq.false) c.loop-doc.invariant w.to_take-is w.to_leave-is w.classes-is
    ]

pub returns : goal.returns
returns c =
    let run = c.args.run.now in
    all_marked run.on.marks.now run.on.docs.now c.loop-doc.doc-index run.chosen.high.count run.chosen.low.count c.loop-doc.to_take c.loop-doc.to_leave c.loop-doc.classes c.loop-doc-test.false run.on.ranking run.are.high.count run.are.low.count c.loop-doc.invariant
