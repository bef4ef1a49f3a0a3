use Rattle.std.proofs.Common.{ℕ, ◌+◌, ◌*◌, take, sum, arith}
use Rattle.std.proofs.lemmas.List.{length-set}
use Rattle.rprec.proofs.Counts.{sums_next}
use Rattle.rprec.proofs.sums.sum_shared.Goals as goal

pub loop-block-preserved : goal.loop-block-preserved
loop-block-preserved c =
    let f : ℕ → ℕ = λ k. sum (take (10 * k) c.args.counts.now) in
    record {
      number = c.with_block-number.ensures;
      long = omega (arith, length-set c.loop-block.sums (c.loop-block.block + 1) c.with_block-number.result, c.loop-block.invariant.long);
      each = sums_next f c.loop-block.sums c.loop-block.block c.with_block-number.result (omega (arith, c.loop-block.invariant.long, c.loop-block-test.true)) c.loop-block.invariant.each c.with_block-number.ensures;
    }
