use Rattle.std.proofs.Common.{ℕ, ◌+◌, ◌*◌, take, arith, ap, ◌∙◌}
use Rattle.std.proofs.lemmas.List.{length-set}
use Rattle.rprec.specs.Packed.{pack}
use Rattle.rprec.specs.Sums.{counts_of}
use Rattle.rprec.proofs.Counts.{sums_next}
use Rattle.rprec.proofs.sums.sums_of_run.Goals as goal

pub loop-block-preserved : goal.loop-block-preserved
loop-block-preserved c =
    let f : ℕ → ℕ = λ k. pack (counts_of c.args.run.now.marks.now (take (10 * k) c.args.run.now.docs.now)) in
    let number = c.with_whole_block-number in
    record {
      number = number.ensures;
      long = length-set c.loop-block.numbers (c.loop-block.block + 1) number.result ∙ c.loop-block.invariant.long;
      each = sums_next f c.loop-block.numbers c.loop-block.block number.result (omega (arith, c.loop-block.invariant.long, c.loop-block-test.true, c.args.run.now.met.short)) c.loop-block.invariant.each number.ensures;
    }

pub with_rest-all-requires-clause-number : goal.with_rest-all-requires-clause-number
with_rest-all-requires-clause-number c =
    c.loop-block.invariant.number ∙ ap (λ (k : ℕ). pack (counts_of c.args.run.now.marks.now (take k c.args.run.now.docs.now))) (omega (arith, c.loop-block-test.false, c.loop-block.auto.block-end))
