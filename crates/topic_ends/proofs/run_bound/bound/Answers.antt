use Rattle.std.proofs.Common.{◌≡◌, ℕ, ◌+◌, ◌≤◌, ◌^◌, length, get_or, arith, ap, sym, subst, ◌∙◌}
use Rattle.desk_model.specs.Mark.{mark_at}
use Rattle.measure_laws.specs.Candidates.{open_docs}
use Rattle.topic_ends.specs.Estimates.{IsBestSoFar, walked}
use Rattle.topic_ends.specs.PartSums.{IsBefore}
use Rattle.topic_ends.specs.declared.estimate.Passed.{Passed}
use Rattle.topic_ends.specs.declared.part_sum.PartSum.{PartSum}
use Rattle.topic_ends.proofs.BestNumbers.{best_is, bound-most, none_more, open_none, open_one}
use Rattle.topic_ends.proofs.EstimateSteps.{walk_next, walk_passing}
use Rattle.topic_ends.proofs.Passes.{one_open, open_end}
use Rattle.topic_ends.proofs.run_bound.bound.Goals.{then-eq, else-eq}
use Rattle.topic_ends.proofs.run_bound.bound.Goals as goal

pub visited-best-requires-clause-passing : goal.visited-best-requires-clause-passing
visited-best-requires-clause-passing c =
    walk_passing c.args.high c.args.run.now.marks.now c.args.run.now.docs.now c.loop-doc.doc-index c.loop-doc.passed c.totals_of-totals.result (omega (arith, c.loop-doc-test.true, c.args.run.now.ranking.short)) c.loop-doc.invariant.walk c.totals_of-totals.ensures

pub loop-doc-preserved : goal.loop-doc-preserved
loop-doc-preserved c =
    let high = c.args.high in
    let marks = c.args.run.now.marks.now in
    let docs = c.args.run.now.docs.now in
    let place = c.loop-doc.doc-index in
    let passed = c.loop-doc.passed in
    let m = mark_at marks (get_or docs place 0) in
    let at : c.with-passed.result ≡ walked high passed m (place + 1) = c.with-passed.ensures.value ∙ ap (walked high passed m) c.loop-doc.invariant.rank in
    let more : passed.unjudged + one_open m ≡ c.with-passed.result.unjudged = sym (ap (λ (w : Passed). w.unjudged) at) in
    let before : (sum : PartSum) → IsBefore (c.loop-doc.rank + 1) sum → IsBefore (place + 1 + 1) sum = λ sum. subst (λ (n : ℕ). IsBefore (n + 1) sum) c.loop-doc.invariant.rank in
    record {
      rank = omega (arith, c.loop-doc.invariant.rank);
      walk = walk_next high marks docs place passed c.with-passed.result c.loop-doc-test.true c.loop-doc.invariant.walk at (before c.with-passed.result.near c.with-passed.ensures.near) (before c.with-passed.result.far c.with-passed.ensures.far) c.with-passed.ensures.inverses;
      best = elim c.if-eq.branch [
        | then-eq w ↦ subst (λ (b : ℕ). IsBestSoFar high marks docs c.with-passed.result.unjudged b) (sym w.best-is)
            (subst (λ (n : ℕ). IsBestSoFar high marks docs n w.visited-best.result) (ap (λ (k : ℕ). passed.unjudged + k) (sym (open_one m (sym c.eq.ensures ∙ w.if-eq.true))) ∙ more) w.visited-best.ensures)
        | else-eq w ↦ subst (λ (b : ℕ). IsBestSoFar high marks docs c.with-passed.result.unjudged b) (sym w.best-is)
            (subst (λ (n : ℕ). IsBestSoFar high marks docs n c.loop-doc.best) (sym (none_more passed.unjudged) ∙ ap (λ (k : ℕ). passed.unjudged + k) (sym (open_none m (sym c.eq.ensures ∙ w.if-eq.false))) ∙ more) c.loop-doc.invariant.best)
      ];
    }

pub returns-clause-value : goal.returns-clause-value
returns-clause-value c =
    let marks = c.args.run.now.marks.now in
    let docs = c.args.run.now.docs.now in
    let ended : c.loop-doc.passed.unjudged + 1 ≡ length (open_docs marks docs) + 1 = omega (arith, c.loop-doc.invariant.walk.opens, open_end marks docs c.loop-doc.doc-index c.loop-doc-test.false) in
    best_is c.args.high marks docs c.visited.result c.args.run.now.ranking (subst (λ (n : ℕ). IsBestSoFar c.args.high marks docs n c.visited.result) ended c.visited.ensures)

pub returns-clause-small : goal.returns-clause-small
returns-clause-small c =
    let marks = c.args.run.now.marks.now in
    let docs = c.args.run.now.docs.now in
    let ended : c.loop-doc.passed.unjudged + 1 ≡ length (open_docs marks docs) + 1 = omega (arith, c.loop-doc.invariant.walk.opens, open_end marks docs c.loop-doc.doc-index c.loop-doc-test.false) in
    subst (λ (n : ℕ). n ≤ 10 ^ 18) (sym (best_is c.args.high marks docs c.visited.result c.args.run.now.ranking (subst (λ (n : ℕ). IsBestSoFar c.args.high marks docs n c.visited.result) ended c.visited.ensures)))
    (bound-most c.args.high marks docs c.args.run.now.ranking)
