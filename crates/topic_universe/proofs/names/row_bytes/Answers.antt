use Rattle.std.proofs.Common.{◌+◌, length, refl, ap, ◌∙◌, arith}
use Rattle.topic_universe.proofs.Rows.{more_bytes, all_bytes, within_all}
use Rattle.topic_universe.proofs.names.row_bytes.Goals as goal

pub loop-pair-init : goal.loop-pair-init
loop-pair-init c = record { sum = refl; fits = omega arith }

pub returns-then-bytes-gt-MOST_ROW_BYTES-clause-none :
    goal.returns-then-bytes-gt-MOST_ROW_BYTES-clause-none
returns-then-bytes-gt-MOST_ROW_BYTES-clause-none c =
    let pairs = c.args.pairs.now in
    let i = c.loop-pair.pair-index in
    let more = more_bytes pairs i c.pair-item.result c.loop-pair-test.true c.pair-item.is in
    let most = within_all pairs (i + 1) in
    let size = ap length c.name.ensures in
    omega (arith, more, most, size, c.loop-pair.invariant.sum, c.if-bytes-gt-MOST_ROW_BYTES.true)

pub loop-pair-preserved : goal.loop-pair-preserved
loop-pair-preserved c =
    let more = more_bytes c.args.pairs.now c.loop-pair.pair-index c.pair-item.result c.loop-pair-test.true c.pair-item.is in
    let size = ap length c.name.ensures in
    record { sum = omega (arith, more, size, c.loop-pair.invariant.sum); fits = omega (arith, c.if-bytes-gt-MOST_ROW_BYTES.false) }

pub returns-clause-sum : goal.returns-clause-sum
returns-clause-sum c = c.loop-pair.invariant.sum ∙ all_bytes c.args.pairs.now c.loop-pair.pair-index c.loop-pair-test.false
