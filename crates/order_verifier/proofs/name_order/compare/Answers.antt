use Rattle.std.proofs.Common.{ℕ, ◌-◌, ◌+◌, get_or, Fits, w8, rules, sym, ◌∙◌, arith}
use Rattle.order_verifier.proofs.EightBytes.{by_lengths, fewer, word}
use Rattle.order_verifier.proofs.name_order.compare.Goals as goal

pub returns-then-x-y : goal.returns-then-x-y
returns-then-x-y c =
    let bytes_a : (k : ℕ) → Fits w8 (get_or c.args.a.now k 0) = search rules in
    let bytes_b : (k : ℕ) → Fits w8 (get_or c.args.b.now k 0) = search rules in
    let settled = word c.args.a.now c.args.b.now bytes_a bytes_b c.loop-at.at 8 _ _ (omega (arith, c.min-both.ensures)) (omega (arith, c.min-both.ensures)) c.eight_from-x.ensures c.eight_from-y.ensures c.loop-at.invariant in
    c.cmp-then-x-y.ensures ∙ sym (settled.apart c.if-x-y.true)

pub loop-at-preserved : goal.loop-at-preserved
loop-at-preserved c =
    let bytes_a : (k : ℕ) → Fits w8 (get_or c.args.a.now k 0) = search rules in
    let bytes_b : (k : ℕ) → Fits w8 (get_or c.args.b.now k 0) = search rules in
    let settled = word c.args.a.now c.args.b.now bytes_a bytes_b c.loop-at.at 8 _ _ (omega (arith, c.min-both.ensures)) (omega (arith, c.min-both.ensures)) c.eight_from-x.ensures c.eight_from-y.ensures c.loop-at.invariant in
    settled.alike c.if-x-y.false

pub returns-then-x-y-2 : goal.returns-then-x-y-2
returns-then-x-y-2 c =
    let bytes_a : (k : ℕ) → Fits w8 (get_or c.args.a.now k 0) = search rules in
    let bytes_b : (k : ℕ) → Fits w8 (get_or c.args.b.now k 0) = search rules in
    let seen = fewer c.args.a.now c.args.b.now (c.min-both.result - 8) c.loop-at.at (omega arith) c.loop-at.invariant in
    let settled = word c.args.a.now c.args.b.now bytes_a bytes_b (c.min-both.result - 8) 8 _ _ (omega (arith, c.min-both.ensures)) (omega (arith, c.min-both.ensures)) c.eight_from-x-2.ensures c.eight_from-y-2.ensures seen in
    c.cmp-then-x-y-2.ensures ∙ sym (settled.apart c.if-x-y-2.true)

pub returns : goal.returns
returns c =
    let bytes_a : (k : ℕ) → Fits w8 (get_or c.args.a.now k 0) = search rules in
    let bytes_b : (k : ℕ) → Fits w8 (get_or c.args.b.now k 0) = search rules in
    let seen = fewer c.args.a.now c.args.b.now (c.min-both.result - 8) c.loop-at.at (omega arith) c.loop-at.invariant in
    let settled = word c.args.a.now c.args.b.now bytes_a bytes_b (c.min-both.result - 8) 8 _ _ (omega (arith, c.min-both.ensures)) (omega (arith, c.min-both.ensures)) c.eight_from-x-2.ensures c.eight_from-y-2.ensures seen in
    c.cmp-2.ensures ∙ sym (by_lengths c.args.a.now c.args.b.now c.min-both.result c.min-both.ensures (fewer c.args.a.now c.args.b.now c.min-both.result (c.min-both.result - 8 + 8) (omega arith) (settled.alike c.if-x-y-2.false)))
