use Rattle.std.proofs.Common.{◌≡◌, ℕ, ◌+◌, ◌*◌, take, sum, arith, ap, ◌∙◌}
use Rattle.rprec.proofs.Counts.{sum_few, sum_more}
use Rattle.rprec.proofs.sums.with_block.Goals as goal

pub overflow_add-longer : goal.overflow_add-longer
overflow_add-longer c =
    let counts = c.args.counts.now in
    omega (arith, c.loop-place.invariant, sum_few counts c.loop-place.place c.requires.few, c.requires.few c.loop-place.place, c.from-longer.ensures, c.loop-place-test.true, c.requires.block)

pub loop-place-init : goal.loop-place-init
loop-place-init c = c.requires.number ∙ ap (λ (k : ℕ). sum (take k c.args.counts.now)) (omega arith)

pub loop-place-preserved : goal.loop-place-preserved
loop-place-preserved c = omega (arith, c.loop-place.invariant, sum_more c.args.counts.now c.loop-place.place, c.from-longer.ensures)

pub returns : goal.returns
returns c =
    let ended : c.loop-place.place ≡ 10 * (c.args.block + 1) = omega (arith, c.loop-place-test.false, c.loop-place.auto.place-end (omega arith)) in
    c.loop-place.invariant ∙ ap (λ (k : ℕ). sum (take k c.args.counts.now)) ended
