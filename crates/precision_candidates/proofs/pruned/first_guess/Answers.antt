use Rattle.std.proofs.Common.{◌≡◌, ℕ, ◌+◌, ◌≤◌, length, get_or, arith, ap, sym, subst, ◌∙◌}
use Rattle.desk_model.specs.Mark.{mark_at}
use Rattle.measure_laws.specs.Candidates.{open_docs}
use Rattle.precision_candidates.specs.declared.pruned.Guess.{Guess}
use Rattle.precision_candidates.specs.declared.sums.Sum.{Sum}
use Rattle.precision_candidates.specs.Sums.{IsBefore}
use Rattle.precision_candidates.specs.Walk.{walked}
use Rattle.precision_candidates.proofs.Walks.{walk_next, walk_passing}
use Rattle.precision_candidates.proofs.pruned.first_guess.Goals.{then-eq, else-eq}
use Rattle.precision_candidates.proofs.pruned.first_guess.Goals as goal

pub guessed-best-requires-clause-passing : goal.guessed-best-requires-clause-passing
guessed-best-requires-clause-passing c =
    walk_passing c.args.side.now.high c.args.side.now.marks.now c.args.side.now.docs.now c.loop-doc.doc-index c.loop-doc.walk c.args.totals (omega (arith, c.loop-doc-test.true, c.args.side.now.ranking.short)) c.loop-doc.invariant.walk c.requires

pub loop-doc-preserved : goal.loop-doc-preserved
loop-doc-preserved c =
    let high = c.args.side.now.high in
    let marks = c.args.side.now.marks.now in
    let docs = c.args.side.now.docs.now in
    let place = c.loop-doc.doc-index in
    let walk = c.loop-doc.walk in
    let m = mark_at marks (get_or docs place 0) in
    let at : c.with-walk.result ≡ walked high walk m (place + 1) = c.with-walk.ensures.value ∙ ap (walked high walk m) c.loop-doc.invariant.rank in
    let before : (sum : Sum) → IsBefore (c.loop-doc.rank + 1) sum → IsBefore (place + 1 + 1) sum = λ sum. subst (λ (n : ℕ). IsBefore (n + 1) sum) c.loop-doc.invariant.rank in
    record {
      rank = omega (arith, c.loop-doc.invariant.rank);
      walk = walk_next high marks docs place walk c.with-walk.result c.loop-doc-test.true c.loop-doc.invariant.walk at (before c.with-walk.result.near c.with-walk.ensures.near) (before c.with-walk.result.far c.with-walk.ensures.far) c.with-walk.ensures.inverses;
      best = elim c.if-eq.branch [
        | then-eq w ↦ subst (λ (g : Guess). g.count ≤ length (open_docs marks docs)) (sym w.best-is) w.guessed-best.ensures
        | else-eq w ↦ subst (λ (g : Guess). g.count ≤ length (open_docs marks docs)) (sym w.best-is) c.loop-doc.invariant.best
      ];
    }
