use Rattle.std.proofs.Common.{◌≡◌, ℕ, ◌+◌, ◌-◌, ◌*◌, ◌/◌, min, max, Bool, true, false, not, arith, refl, ap, ◌∙◌, sym}
use Rattle.topic_counts.specs.declared.counts.Counts.{Counts}
use Rattle.rprec.specs.declared.greedy.DepthCandidate.{DepthCandidate}
use Rattle.rprec.specs.Greedy.{beats}
use Rattle.rprec.specs.Sums.{choice_at}
use Rattle.rprec.proofs.Bounds.{AreEndCounts, AreEnds, IsBounded, beats_bounded, begun_few, choice_bounded, end_counts, ends_at}
use Rattle.rprec.proofs.Pairs.{first_few, second_few}
use Rattle.rprec.proofs.Preferred.{beaten_not_before}
use Rattle.rprec.proofs.pair.RunPair.may_precede.Goals as goal
use Rattle.rprec.proofs.pair.RunPair.may_precede.Goals.{then-is_less, else-is_less}

pub overflow_sub-self : goal.overflow_sub-self
overflow_sub-self c = let b = ends_at c.args.self.now c.args.chosen c.args.next c.args.self.now.is c.requires.order c.requires.high in omega (arith, b.begun, b.both, b.some)

pub overflow_sub-self-2 : goal.overflow_sub-self-2
overflow_sub-self-2 c = let b = ends_at c.args.self.now c.args.chosen c.args.next c.args.self.now.is c.requires.order c.requires.high in omega (arith, b.ended, b.both, b.some, b.later)

pub overflow_sub-start : goal.overflow_sub-start
overflow_sub-start c =
    let p = c.args.self.now in
    let start = (p.all.relevant + c.args.chosen) / 10 in
    let end = (p.all.relevant + c.args.next - 1) / 10 + 1 in
    let b : AreEnds p start end = ends_at p c.args.chosen c.args.next c.args.self.now.is c.requires.order c.requires.high in
    let k : AreEndCounts p start end = end_counts p start end c.args.self.now.is b in
    omega (arith, ap (λ (x : Counts). x.unjudged) c.counts_in-begun.ensures, k.begun, begun_few p start)

pub invariant_of-low : goal.invariant_of-low
invariant_of-low c =
    let p = c.args.self.now in
    let start = (p.all.relevant + c.args.chosen) / 10 in
    let end = (p.all.relevant + c.args.next - 1) / 10 + 1 in
    let b : AreEnds p start end = ends_at p c.args.chosen c.args.next c.args.self.now.is c.requires.order c.requires.high in
    let k : AreEndCounts p start end = end_counts p start end c.args.self.now.is b in
    record {
      near = record {
        few = omega (arith, c.min.ensures, c.requires.order, c.requires.high, c.args.self.now.is.few);
        first_few = omega (arith, ap (λ (x : Counts). x.relevant) c.counts_in-first.ensures, k.first, first_few p (10 * start) c.args.self.now.is);
        second_few = omega (arith, ap (λ (x : Counts). x.relevant) c.counts_in-ended.ensures, ap (λ (x : Counts). x.unjudged) c.counts_in-ended.ensures, k.second, k.ended, c.min-most.ensures, second_few p (10 * end) c.args.self.now.is);
      };
    }

pub invariant_of-high : goal.invariant_of-high
invariant_of-high c =
    let p = c.args.self.now in
    let start = (p.all.relevant + c.args.chosen) / 10 in
    let end = (p.all.relevant + c.args.next - 1) / 10 + 1 in
    let b : AreEnds p start end = ends_at p c.args.chosen c.args.next c.args.self.now.is c.requires.order c.requires.high in
    let k : AreEndCounts p start end = end_counts p start end c.args.self.now.is b in
    record {
      near = record {
        few = omega (arith, c.requires.order, c.requires.high, c.args.self.now.is.few);
        first_few = omega (arith, ap (λ (x : Counts). x.relevant) c.counts_in-first.ensures, k.first, first_few p (10 * start) c.args.self.now.is);
        second_few = omega (arith, ap (λ (x : Counts). x.relevant) c.counts_in-ended.ensures, ap (λ (x : Counts). x.unjudged) c.counts_in-ended.ensures, k.second, k.ended, c.min-most.ensures, second_few p (10 * end) c.args.self.now.is);
      };
    }

pub returns : goal.returns
returns c = λ h place lo hi.
    let p = c.args.self.now in
    let chosen = c.args.chosen in
    let next = c.args.next in
    let start = (p.all.relevant + chosen) / 10 in
    let end = (p.all.relevant + next - 1) / 10 + 1 in
    let b : AreEnds p start end = ends_at p chosen next c.args.self.now.is c.requires.order c.requires.high in
    let k : AreEndCounts p start end = end_counts p start end c.args.self.now.is b in
    let first = c.counts_in-first.result.relevant in
    let begun = c.counts_in-begun.result.unjudged in
    let ended = c.counts_in-ended.result in
    let bound : ℕ → ℕ → DepthCandidate = λ count most. record { count = count; first = first; second = ended.relevant + most } in
    let low = bound c.min.result c.min-most.result in
    let high = bound (p.all.relevant + next) c.min-most.result in
    let is_high : high ≡ bound (p.all.relevant + next) (min ended.unjudged next) = ap (bound (p.all.relevant + next)) c.min-most.ensures in
    let lowest : c.min.result ≡ min (p.all.relevant + next) (min ended.unjudged next + max p.all.relevant (10 * start - begun)) = omega (arith, c.min.ensures, c.min-most.ensures, c.max-lack.ensures) in
    let is_low : low ≡ bound (min (p.all.relevant + next) (min ended.unjudged next + max p.all.relevant (10 * start - begun))) (min ended.unjudged next) =
    ap (λ (n : ℕ). bound n c.min-most.result) lowest ∙ ap (bound (min (p.all.relevant + next) (min ended.unjudged next + max p.all.relevant (10 * start - begun)))) c.min-most.ensures in
    let bounded : IsBounded low high (choice_at p place) =
    choice_bounded p start end place next first begun ended.relevant ended.unjudged low high c.args.self.now.is b hi (omega (arith, lo)) (omega (arith, c.requires.order))
    (ap (λ (x : Counts). x.relevant) c.counts_in-first.ensures ∙ k.first) (ap (λ (x : Counts). x.unjudged) c.counts_in-begun.ensures ∙ k.begun) (ap (λ (x : Counts). x.relevant) c.counts_in-ended.ensures ∙ k.second) (ap (λ (x : Counts). x.unjudged) c.counts_in-ended.ensures ∙ k.ended) is_high is_low in
    let result = not_false c.if-is_less.result h in
    elim c.if-is_less.branch [
      | then-is_less w ↦
          let under : beats c.args.best.candidate low ≡ true = sym c.is_less.ensures ∙ w.if-is_less.true in
          let over : beats c.args.best.candidate high ≡ true = sym w.is_less-then-is_less.ensures ∙ sym w.result-is ∙ result in
          beaten_not_before (choice_at p place) c.args.best.candidate (beats_bounded c.args.best.candidate low high (choice_at p place) under over bounded)
      | else-is_less w ↦ absurd (let none = sym w.if-is_less.false ∙ sym w.result-is ∙ result in cc)
    ]
  where
    not_false : (b : Bool) → not b ≡ false → b ≡ true
    not_false true e = refl
    not_false false e = absurd (cc)
