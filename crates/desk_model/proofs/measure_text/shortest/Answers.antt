use Rattle.std.proofs.Common.{◌≡◌, ℕ, suc, ◌+◌, ◌-◌, ◌^◌, ◌/◌, ◌<◌, ◌++◌, length, drop, decimal, replicate, ap, ◌∙◌, sym, arith, codes}
use Rattle.desk_model.proofs.Decimals.{pow_ten, pow_small, zero_taken, after_one, one_and_decimals, some_place}
use Rattle.desk_model.proofs.measure_text.shortest.Goals as goal

pub loop-top-preserved : goal.loop-top-preserved
loop-top-preserved c =
    let ds = c.args.decimals.now in
    let places = c.loop-top.places in
    let is = c.loop-top.invariant in
    let some : 0 < places = some_place places c.loop-top.top (omega arith) is.below_one in
    let down : places ≡ suc (places - 1) = omega arith in
    let small = pow_small places (omega arith) in
    let zeros : suc (length ds - places) ≡ length ds - (places - 1) = omega arith in
    let power : 10 ^ places ≡ 10 ^ suc (places - 1) = ap (λ d. 10 ^ d) down in
    record {
      few = omega arith;
      positive = omega arith;
      below_one = omega (arith, pow_ten (places - 1));
      written = is.written ∙ ap (λ p. decimal (p + c.loop-top.top) ++ replicate (length ds - places) 48) power
          ∙ zero_taken (places - 1) c.loop-top.top (length ds - places) c.loop-top-test.true (omega arith)
          ∙ ap (λ k. decimal (10 ^ (places - 1) + c.loop-top.top / 10) ++ replicate k 48) zeros;
    }

pub returns-clause-text : goal.returns-clause-text
returns-clause-text c =
    let ds = c.args.decimals.now in
    let is = c.loop-top.invariant in
    let one = one_and_decimals c.loop-top.places c.loop-top.top is.below_one (omega arith) in
    let zeros : ℕ = length ds - c.loop-top.places in
    let number : 10 ^ c.loop-top.places + c.loop-top.top ≡ c.pow.result + c.loop-top.top = omega (arith, c.pow.ensures) in
    let rest = after_one ds (decimal (10 ^ c.loop-top.places + c.loop-top.top)) (replicate zeros 48) one.decimals one.are is.written in
    let text : ds ≡ drop 1 (decimal (c.pow.result + c.loop-top.top)) ++ replicate zeros 48 = rest ∙ ap (λ n. drop 1 (decimal n) ++ replicate zeros 48) number in
    let long : length (drop 1 (decimal (c.pow.result + c.loop-top.top))) ≡ c.loop-top.places = ap (λ n. length (drop 1 (decimal n))) (sym number) ∙ ap (λ xs. length (drop 1 xs)) one.are ∙ one.number in
    (zeros, ap (λ xs. codes "rbp_0." ++ xs) text, omega arith)
