use Rattle.std.proofs.Common.{◌≡◌, ℕ, arith, subst}
use Rattle.rprec.specs.Search.{IsBestOf}
use Rattle.rprec.specs.Sums.{choice_at}
use Rattle.rprec.proofs.Preferred.{best_join, best_none}
use Rattle.rprec.proofs.pair.RunPair.best_in_blocks.Goals as goal

pub loop-chosen-init : goal.loop-chosen-init
loop-chosen-init c = record { order = omega arith; within = omega (arith, c.requires.order); best = best_none (choice_at c.args.self.now) c.args.start c.args.earlier.candidate }

pub loop-chosen-preserved : goal.loop-chosen-preserved
loop-chosen-preserved c = record {
  order = omega (arith, c.loop-chosen.invariant.order, c.next_end-next.ensures.later);
  within = c.next_end-next.ensures.within;
  best = best_join (choice_at c.args.self.now) c.args.start c.loop-chosen.chosen c.next_end-next.result c.args.earlier.candidate c.loop-chosen.best.candidate c.best_in_block-best.result.candidate c.loop-chosen.invariant.order (omega (arith, c.next_end-next.ensures.later)) c.loop-chosen.invariant.best c.best_in_block-best.ensures;
}

pub returns : goal.returns
returns c =
    let ended : c.loop-chosen.chosen ≡ c.args.end = omega (arith, c.loop-chosen-test.false, c.loop-chosen.invariant.within) in
    subst (λ (k : ℕ). IsBestOf (choice_at c.args.self.now) c.args.start k c.args.earlier.candidate c.loop-chosen.best.candidate) ended c.loop-chosen.invariant.best
