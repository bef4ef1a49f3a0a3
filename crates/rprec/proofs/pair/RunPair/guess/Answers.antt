use Rattle.std.proofs.Common.{◌≡◌, ℕ, ◌+◌, ◌*◌, ◌-◌, ◌<◌, ◌≤◌, arith, ap, ◌∙◌, sym, subst}
use Rattle.rprec.specs.declared.greedy.DepthCandidate.{DepthCandidate}
use Rattle.rprec.specs.Greedy.{candidate}
use Rattle.rprec.specs.Search.{IsBestBetween, preferred}
use Rattle.rprec.specs.Sums.{choice_at, prefixes, steps_of}
use Rattle.rprec.proofs.Preferred.{choice_join, choice_none, choice_one}
use Rattle.rprec.proofs.pair.RunPair.guess.Goals as goal

pub loop-stretch-init : goal.loop-stretch-init
loop-stretch-init c = record { choice = choice_none (choice_at c.args.self.now) 0 (steps_of c.args.self.now) c.args.earlier.candidate }

pub choice_at_block-requires-clause-low : goal.choice_at_block-requires-clause-low
choice_at_block-requires-clause-low c = omega (arith, c.loop-stretch.auto)

pub choice_at_block-requires-clause-high : goal.choice_at_block-requires-clause-high
choice_at_block-requires-clause-high c = omega (arith, c.loop-stretch-test.true, c.steps.ensures)

pub loop-stretch-preserved : goal.loop-stretch-preserved
loop-stretch-preserved c =
    let p = c.args.self.now in
    let choices = choice_at p in
    let steps = steps_of p in
    let best = c.loop-stretch.best.candidate in
    let depth = 10 * (c.loop-stretch.stretch * 5) in
    let chosen = depth - p.all.relevant in
    let place = chosen - 1 in
    let low : p.all.relevant < depth = omega (arith, c.loop-stretch.auto) in
    let high : depth ≤ p.all.relevant + steps = omega (arith, c.loop-stretch-test.true, c.steps.ensures) in
    let next : place + 1 ≡ chosen = omega (arith, low) in
    let there : p.all.relevant + (place + 1) ≡ depth = omega (arith, low) in
    let is : choices place ≡ candidate (prefixes p depth) p.all chosen = ap (λ (k : ℕ). candidate (prefixes p k) p.all (place + 1)) there ∙ ap (candidate (prefixes p depth) p.all) next in
    let after : preferred (choices place) best ≡ c.preferred-best.result.candidate = ap (λ (x : DepthCandidate). preferred x best) (is ∙ sym c.choice_at_block.ensures) ∙ sym c.preferred-best.ensures in
    record {
      choice = subst (λ (x : DepthCandidate). IsBestBetween choices 0 steps c.args.earlier.candidate x) after
          (choice_join choices 0 steps 0 steps c.args.earlier.candidate best (preferred (choices place) best) (omega arith) (omega arith) c.loop-stretch.invariant.choice (choice_one choices 0 steps place best (omega arith) (omega (arith, low, high))));
    }

pub returns : goal.returns
returns c = c.loop-stretch.invariant.choice
