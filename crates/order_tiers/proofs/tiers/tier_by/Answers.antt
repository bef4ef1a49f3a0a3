use Rattle.std.proofs.Common.{◌≡◌, ◌+◌, max, [], ap, sym, subst, ◌∙◌, arith}
use Rattle.std.proofs.lemmas.List.{get_or_default}
use Rattle.order_tiers.specs.Rows.{has, is_above, AboveBy}
use Rattle.order_tiers.specs.Tiers.{IsTierOf, tier_in}
use Rattle.order_tiers.proofs.Tests.{not_both}
use Rattle.order_tiers.proofs.Tiering.{tier_none, tier_kept, tier_raised, tier_of_rows}
use Rattle.order_tiers.proofs.tiers.tier_by.Goals as goal
use Rattle.order_tiers.proofs.tiers.tier_by.Goals.{then-has, else-has}

pub loop-above-init : goal.loop-above-init
loop-above-init c = record { tier = tier_none (AboveBy c.args.row.now.of.rows.now) (tier_in c.args.tiers.now) c.args.row.now.run; small = omega arith }

pub loop-above-preserved : goal.loop-above-preserved
loop-above-preserved c =
    let rows = c.args.row.now.of.rows.now in
    let tiers = c.args.tiers.now in
    let run = c.args.row.now.run in
    let above = c.loop-above.above in
    let tier = c.loop-above.tier in
    let inv = c.loop-above.invariant in
    let lt = c.loop-above-test.true in
    let row = c.index-rows-above.result in
    let there : has row run ≡ is_above rows above run = ap (λ r. has r run) (c.index-rows-above.is ∙ get_or_default rows above row [] lt) in
    let low = c.requires.small above 0 (omega (arith, lt, c.requires.count)) in
    let small = inv.small in
    elim c.if-has.branch [
      | then-has w ↦
          let is : w.max-tier.result ≡ max tier (tier_in tiers above + 1) = w.max-tier.ensures in
          let same = w.tier-is in
          record {
            tier = subst (IsTierOf (AboveBy rows) (above + 1) (tier_in tiers) run) (sym same)
                (tier_raised (AboveBy rows) above (tier_in tiers) run tier inv.tier w.max-tier.result is (sym (c.has.ensures ∙ there) ∙ w.if-has.true));
            small = omega (arith, same, is, low, small);
          }
      | else-has w ↦
          let same = w.tier-is in
          record {
            tier = subst (IsTierOf (AboveBy rows) (above + 1) (tier_in tiers) run) (sym same)
                (tier_kept (AboveBy rows) above (tier_in tiers) run tier inv.tier (λ e. not_both c.has.result (c.has.ensures ∙ there ∙ e) w.if-has.false));
            small = omega (arith, same, small);
          }
    ]

pub returns : goal.returns
returns c = tier_of_rows c.args.row.now.of.rows.now (tier_in c.args.tiers.now) c.loop-above.above c.args.row.now.run c.loop-above.tier c.loop-above-test.false c.loop-above.invariant.tier
