use Rattle.std.proofs.Common.{◌≡◌, ◌+◌, ◌*◌, ◌-◌, suc, drop, get_or, add-one, sym, ap, ◌∙◌, arith}
use Rattle.topic_universe.proofs.Starts.{spelt, spelt_is, spelt_step, start_more, start_fits}
use Rattle.topic_universe.proofs.numbered.start_of.Goals as goal

pub overflow_mul-start : goal.overflow_mul-start
overflow_mul-start c =
    let fits = start_fits (c.loop-i.i + 1) _ (omega (arith, c.loop-i-test.true)) (start_more c.loop-i.i c.loop-i.start 0 c.loop-i.invariant.small (omega arith)) in
    omega (arith, fits)

pub overflow_add-start : goal.overflow_add-start
overflow_add-start c =
    let fits = start_fits (c.loop-i.i + 1) _ (omega (arith, c.loop-i-test.true)) (start_more c.loop-i.i c.loop-i.start c.byte_or_zero.result c.loop-i.invariant.small c.byte_or_zero.type_inv) in
    omega (arith, fits)

pub loop-i-preserved : goal.loop-i-preserved
loop-i-preserved c =
    let i = c.loop-i.i in
    let name = c.args.name.now in
    let start = c.loop-i.start in
    let left : 16 - i ≡ suc (16 - (i + 1)) = omega (arith, c.loop-i-test.true) in
    record {
      small = start_more i start c.byte_or_zero.result c.loop-i.invariant.small c.byte_or_zero.type_inv;
      spells = ap (λ b. spelt (16 - (i + 1)) (start * 256 + b) (drop (i + 1) name)) c.byte_or_zero.ensures ∙ ap (λ k. spelt (16 - (i + 1)) (start * 256 + get_or name i 0) (drop k name)) (add-one i) ∙ sym (spelt_step (16 - (i + 1)) start name i) ∙ ap (λ n. spelt n start (drop i name)) (sym left)
          ∙ c.loop-i.invariant.spells;
    }

pub returns : goal.returns
returns c =
    let name = c.args.name.now in
    let left : 16 - c.loop-i.i ≡ 0 = omega (arith, c.loop-i-test.false) in
    record {
      bytes = λ k. (c.type_inv.name k).fits;
      digits = ap (λ n. spelt n c.loop-i.start (drop c.loop-i.i name)) (sym left) ∙ c.loop-i.invariant.spells ∙ spelt_is name;
    }
