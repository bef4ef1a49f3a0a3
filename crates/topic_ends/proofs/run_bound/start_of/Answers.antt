use Rattle.std.proofs.Common.{◌≡◌, ℕ, ◌+◌, ◌≤◌, length, get_or, arith, ap, sym, subst, ◌∙◌}
use Rattle.desk_model.specs.Mark.{mark_at}
use Rattle.measure_laws.specs.Candidates.{open_docs}
use Rattle.topic_ends.specs.Estimates.{walked}
use Rattle.topic_ends.specs.PartSums.{IsBefore}
use Rattle.topic_ends.specs.declared.part_sum.PartSum.{PartSum}
use Rattle.topic_ends.specs.declared.run_bound.Start.{Start}
use Rattle.topic_ends.proofs.EstimateSteps.{walk_next, walk_passing}
use Rattle.topic_ends.proofs.run_bound.start_of.Goals.{then-eq, else-eq}
use Rattle.topic_ends.proofs.run_bound.start_of.Goals as goal

pub started-best-requires-clause-passing : goal.started-best-requires-clause-passing
started-best-requires-clause-passing c =
    walk_passing c.args.high c.args.run.now.marks.now c.args.run.now.docs.now c.loop-doc.doc-index c.loop-doc.passed c.args.totals (omega (arith, c.loop-doc-test.true, c.args.run.now.ranking.short)) c.loop-doc.invariant.walk c.requires

pub loop-doc-preserved : goal.loop-doc-preserved
loop-doc-preserved c =
    let high = c.args.high in
    let marks = c.args.run.now.marks.now in
    let docs = c.args.run.now.docs.now in
    let place = c.loop-doc.doc-index in
    let passed = c.loop-doc.passed in
    let m = mark_at marks (get_or docs place 0) in
    let at : c.with-passed.result ≡ walked high passed m (place + 1) = c.with-passed.ensures.value ∙ ap (walked high passed m) c.loop-doc.invariant.rank in
    let before : (sum : PartSum) → IsBefore (c.loop-doc.rank + 1) sum → IsBefore (place + 1 + 1) sum = λ sum. subst (λ (n : ℕ). IsBefore (n + 1) sum) c.loop-doc.invariant.rank in
    record {
      rank = omega (arith, c.loop-doc.invariant.rank);
      walk = walk_next high marks docs place passed c.with-passed.result c.loop-doc-test.true c.loop-doc.invariant.walk at (before c.with-passed.result.near c.with-passed.ensures.near) (before c.with-passed.result.far c.with-passed.ensures.far) c.with-passed.ensures.inverses;
      best = elim c.if-eq.branch [
        | then-eq w ↦ subst (λ (g : Start). g.count ≤ length (open_docs marks docs)) (sym w.best-is) w.started-best.ensures
        | else-eq w ↦ subst (λ (g : Start). g.count ≤ length (open_docs marks docs)) (sym w.best-is) c.loop-doc.invariant.best
      ];
    }
