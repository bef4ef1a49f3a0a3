use Rattle.std.proofs.Common.{◌≡◌, ℕ, ◌+◌, length, get_or, arith, ap, sym, subst, ◌∙◌}
use Rattle.desk_model.specs.Mark.{mark_at}
use Rattle.measure_laws.specs.Candidates.{open_docs}
use Rattle.precision_candidates.specs.declared.choice.Choice.{Choice}
use Rattle.precision_candidates.specs.declared.sums.Sum.{Sum}
use Rattle.precision_candidates.specs.Sums.{IsBefore}
use Rattle.precision_candidates.specs.declared.walk.Walk.{Walk}
use Rattle.precision_candidates.specs.Firsts.{IsBestOf}
use Rattle.precision_candidates.specs.Side.{number_of}
use Rattle.precision_candidates.specs.Walk.{IsBestSoFar, walked}
use Rattle.precision_candidates.proofs.Choices.{chosen}
use Rattle.precision_candidates.proofs.Pass.{one_open, open_end}
use Rattle.precision_candidates.proofs.Visits.{open_one, open_none, none_more}
use Rattle.precision_candidates.proofs.Walks.{walk_next, walk_passing}
use Rattle.precision_candidates.proofs.pruned.pruned.Goals.{then-eq, else-eq}
use Rattle.precision_candidates.proofs.pruned.pruned.Goals as goal

pub visited-best-requires-clause-passing : goal.visited-best-requires-clause-passing
visited-best-requires-clause-passing c =
    walk_passing c.args.side.now.high c.args.side.now.marks.now c.args.side.now.docs.now c.loop-doc.doc-index c.loop-doc.walk c.totals_of-totals.result (omega (arith, c.loop-doc-test.true, c.args.side.now.ranking.short)) c.loop-doc.invariant.walk c.totals_of-totals.ensures

pub loop-doc-preserved : goal.loop-doc-preserved
loop-doc-preserved c =
    let high = c.args.side.now.high in
    let marks = c.args.side.now.marks.now in
    let docs = c.args.side.now.docs.now in
    let place = c.loop-doc.doc-index in
    let walk = c.loop-doc.walk in
    let m = mark_at marks (get_or docs place 0) in
    let at : c.with-walk.result ≡ walked high walk m (place + 1) = c.with-walk.ensures.value ∙ ap (walked high walk m) c.loop-doc.invariant.rank in
    let passed : walk.passed + one_open m ≡ c.with-walk.result.passed = sym (ap (λ (w : Walk). w.passed) at) in
    let before : (sum : Sum) → IsBefore (c.loop-doc.rank + 1) sum → IsBefore (place + 1 + 1) sum = λ sum. subst (λ (n : ℕ). IsBefore (n + 1) sum) c.loop-doc.invariant.rank in
    record {
      rank = omega (arith, c.loop-doc.invariant.rank);
      walk = walk_next high marks docs place walk c.with-walk.result c.loop-doc-test.true c.loop-doc.invariant.walk at (before c.with-walk.result.near c.with-walk.ensures.near) (before c.with-walk.result.far c.with-walk.ensures.far) c.with-walk.ensures.inverses;
      best = elim c.if-eq.branch [
        | then-eq w ↦ subst (λ (b : Choice). IsBestSoFar high marks docs c.with-walk.result.passed b) (sym w.best-is)
            (subst (λ (n : ℕ). IsBestSoFar high marks docs n w.visited-best.result) (ap (λ (k : ℕ). walk.passed + k) (sym (open_one m (sym c.eq.ensures ∙ w.if-eq.true))) ∙ passed) w.visited-best.ensures)
        | else-eq w ↦ subst (λ (b : Choice). IsBestSoFar high marks docs c.with-walk.result.passed b) (sym w.best-is)
            (subst (λ (n : ℕ). IsBestSoFar high marks docs n c.loop-doc.best) (sym (none_more walk.passed) ∙ ap (λ (k : ℕ). walk.passed + k) (sym (open_none m (sym c.eq.ensures ∙ w.if-eq.false))) ∙ passed) c.loop-doc.invariant.best)
      ];
    }

pub returns : goal.returns
returns c =
    let high = c.args.side.now.high in
    let marks = c.args.side.now.marks.now in
    let docs = c.args.side.now.docs.now in
    let u = length (open_docs marks docs) in
    let ended : c.loop-doc.walk.passed + 1 ≡ u + 1 = omega (arith, c.loop-doc.invariant.walk.opens, open_end marks docs c.loop-doc.doc-index c.loop-doc-test.false) in
    chosen high marks docs c.visited.result c.args.side.now.ranking (subst (λ (n : ℕ). IsBestOf high (number_of high marks docs) u n c.visited.result.count) ended c.visited.ensures.best) c.visited.ensures.value
