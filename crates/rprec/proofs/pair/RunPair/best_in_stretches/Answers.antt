use Rattle.std.proofs.Common.{◌≡◌, ℕ, arith, subst}
use Rattle.rprec.specs.Search.{IsBestOf}
use Rattle.rprec.specs.Sums.{choice_at, steps_of}
use Rattle.rprec.proofs.Preferred.{best_join, best_none}
use Rattle.rprec.proofs.pair.RunPair.best_in_stretches.Goals as goal

pub loop-chosen-init : goal.loop-chosen-init
loop-chosen-init c = record { within = omega arith; best = best_none (choice_at c.args.self.now) 0 c.args.earlier.candidate }

pub loop-chosen-preserved : goal.loop-chosen-preserved
loop-chosen-preserved c = record {
  within = c.next_end-next.ensures.within;
  best = best_join (choice_at c.args.self.now) 0 c.loop-chosen.chosen c.next_end-next.result c.args.earlier.candidate c.loop-chosen.best.candidate c.best_in_stretch-best.result.candidate (omega arith) (omega (arith, c.next_end-next.ensures.later)) c.loop-chosen.invariant.best c.best_in_stretch-best.ensures;
}

pub returns : goal.returns
returns c =
    let ended : c.loop-chosen.chosen ≡ steps_of c.args.self.now = omega (arith, c.loop-chosen-test.false, c.loop-chosen.invariant.within, c.steps-steps.ensures) in
    subst (λ (k : ℕ). IsBestOf (choice_at c.args.self.now) 0 k c.args.earlier.candidate c.loop-chosen.best.candidate) ended c.loop-chosen.invariant.best
