use Rattle.std.proofs.Common.{◌≡◌, ℕ, ◌+◌, arith, ap, ◌∙◌, subst}
use Rattle.rprec.specs.Packed.{packed_of}
use Rattle.rprec.specs.Search.{IsBestOf}
use Rattle.rprec.specs.Sums.{choice_at, prefixes}
use Rattle.rprec.proofs.Pairs.{unpacked_next}
use Rattle.rprec.proofs.Preferred.{best_next, best_none}
use Rattle.rprec.proofs.pair.RunPair.best_in.Goals as goal

pub loop-place-init : goal.loop-place-init
loop-place-init c = record { packed = c.packed_at-packed.ensures; best = best_none (choice_at c.args.self.now) c.args.chosen c.args.earlier.candidate }

pub choice_from-requires-clause-prefixes : goal.choice_from-requires-clause-prefixes
choice_from-requires-clause-prefixes c = unpacked_next c.args.self.now c.loop-place.place c.deeper-packed.result c.unpacked.result c.args.self.now.is c.deeper-packed.ensures c.unpacked.ensures

pub loop-place-preserved : goal.loop-place-preserved
loop-place-preserved c =
    let p = c.args.self.now in
    let place = c.loop-place.place in
    let next : p.all.relevant + place + 1 ≡ p.all.relevant + (place + 1) = omega arith in
    record {
      packed = c.deeper-packed.ensures ∙ ap (λ (k : ℕ). packed_of (prefixes p k)) next;
      best = best_next (choice_at p) c.args.chosen place _ _ _ _ (omega (arith, c.loop-place.auto)) c.choice_from.ensures c.preferred-best.ensures c.loop-place.invariant.best;
    }

pub returns : goal.returns
returns c =
    let ended : c.loop-place.place ≡ c.args.next = omega (arith, c.loop-place-test.false, c.loop-place.auto.place-end (omega (arith, c.requires.order))) in
    subst (λ (k : ℕ). IsBestOf (choice_at c.args.self.now) c.args.chosen k c.args.earlier.candidate c.loop-place.best.candidate) ended c.loop-place.invariant.best
