use Rattle.std.proofs.Common.{◌+◌, ℕ, List, [], ◌∷◌, ◌++◌, length, ap, ap₂, sym, ◌∙◌, arith}
use Rattle.std.specs.Prelude.{sum_by}
use Rattle.topic_universe.proofs.Rows.{one_name_more, more_bytes, all_names, within_all}
use Rattle.topic_universe.proofs.names.in_one_row.Goals as goal

pub loop-pair-init : goal.loop-pair-init
loop-pair-init c = c.in_ok-names.ensures

pub push-requires : goal.push-requires
push-requires c =
    let pairs = c.args.pairs.now in
    let i = c.loop-pair.pair-index in
    let sum = ap (sum_by length) c.loop-pair.invariant in
    let more = more_bytes pairs i c.pair-item.result c.loop-pair-test.true c.pair-item.is in
    let most = within_all pairs (i + 1) in
    let size = ap length c.name.ensures in
    omega (arith, sum, more, most, size, c.in-Some.ensures.sum, c.in-Some.ensures.fits)

pub loop-pair-preserved : goal.loop-pair-preserved
loop-pair-preserved c =
    c.in_ok-push.ensures.ok
    ∙ ap₂ (λ (names : List (List ℕ)) (name : List ℕ). names ++ name ∷ []) c.loop-pair.invariant c.name.ensures
    ∙ sym (one_name_more c.args.pairs.now c.loop-pair.pair-index c.pair-item.result c.loop-pair-test.true c.pair-item.is)

pub returns : goal.returns
returns c = c.loop-pair.invariant ∙ all_names c.args.pairs.now c.loop-pair.pair-index c.loop-pair-test.false
