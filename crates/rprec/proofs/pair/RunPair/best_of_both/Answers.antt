use Rattle.std.proofs.Common.{◌≡◌, ℕ, ◌+◌, arith, ap, ◌∙◌, sym, subst}
use Rattle.rprec.specs.declared.pair.RunPair.{RunPair}
use Rattle.rprec.specs.Greedy.{swapped}
use Rattle.rprec.specs.Packed.{packed_of}
use Rattle.rprec.specs.Search.{IsBestOf}
use Rattle.rprec.specs.Sums.{choice_at, prefixes, steps_of, swapped_pair}
use Rattle.rprec.proofs.Pairs.{unpacked_next}
use Rattle.rprec.proofs.Preferred.{best_next, best_none}
use Rattle.rprec.proofs.pair.RunPair.best_of_both.Goals as goal

pub loop-place-init : goal.loop-place-init
loop-place-init c =
    let p = c.args.self.now in
    let here : p.all.relevant ≡ p.all.relevant + 0 = omega arith in
    record {
      packed = c.packed_at-packed.ensures ∙ ap (λ (k : ℕ). packed_of (prefixes p k)) here;
      least = best_none (choice_at p) 0 c.args.earlier.least.candidate;
      most = best_none (choice_at (swapped_pair p)) 0 c.args.earlier.most.candidate;
    }

pub choice_from-requires-clause-prefixes : goal.choice_from-requires-clause-prefixes
choice_from-requires-clause-prefixes c = unpacked_next c.args.self.now c.loop-place.place c.deeper-packed.result c.unpacked-prefixes.result c.args.self.now.is c.deeper-packed.ensures c.unpacked-prefixes.ensures

pub choice_from-requires-in-loop-place-clause-prefixes : goal.choice_from-requires-in-loop-place-clause-prefixes
choice_from-requires-in-loop-place-clause-prefixes c =
    let p = c.args.self.now in
    let here = unpacked_next p c.loop-place.place c.deeper-packed.result c.unpacked-prefixes.result p.is c.deeper-packed.ensures c.unpacked-prefixes.ensures in
    c.swapped.ensures ∙ ap swapped here ∙ ap (λ (q : RunPair). prefixes q (q.all.relevant + (c.loop-place.place + 1))) (sym c.swapped-swapped.ensures)

pub loop-place-preserved : goal.loop-place-preserved
loop-place-preserved c =
    let p = c.args.self.now in
    let place = c.loop-place.place in
    let next : p.all.relevant + place + 1 ≡ p.all.relevant + (place + 1) = omega arith in
    record {
      packed = c.deeper-packed.ensures ∙ ap (λ (k : ℕ). packed_of (prefixes p k)) next;
      least = best_next (choice_at p) 0 place _ _ _ _ (omega arith) c.choice_from.ensures c.preferred-least.ensures c.loop-place.invariant.least;
      most = best_next (choice_at (swapped_pair p)) 0 place _ _ _ _ (omega arith) (c.choice_from-in-loop-place.ensures ∙ ap (λ (q : RunPair). choice_at q place) c.swapped-swapped.ensures) c.preferred-most.ensures c.loop-place.invariant.most;
    }

pub returns-clause-least : goal.returns-clause-least
returns-clause-least c =
    let ended : c.loop-place.place ≡ steps_of c.args.self.now = omega (arith, c.loop-place-test.false, c.loop-place.auto, c.steps-place-end.ensures) in
    subst (λ (k : ℕ). IsBestOf (choice_at c.args.self.now) 0 k c.args.earlier.least.candidate c.loop-place.least.candidate) ended c.loop-place.invariant.least

pub returns-clause-most : goal.returns-clause-most
returns-clause-most c =
    let ended : c.loop-place.place ≡ steps_of c.args.self.now = omega (arith, c.loop-place-test.false, c.loop-place.auto, c.steps-place-end.ensures) in
    subst (λ (k : ℕ). IsBestOf (choice_at (swapped_pair c.args.self.now)) 0 k c.args.earlier.most.candidate c.loop-place.most.candidate) ended c.loop-place.invariant.most
