use Rattle.std.proofs.Common.{◌≡◌, max, get_or, ap, ◌∙◌, arith, inl, inr}
use Rattle.std.proofs.lemmas.Bool.{cases_lt}
use Rattle.std.proofs.lemmas.List.{get_or_default}
use Rattle.small_lemmas.proofs.Numbers.{less_or_last}
use Rattle.order_tiers.specs.Tiers.{tier_in}
use Rattle.order_tiers.proofs.tiers.greatest_tier.Goals as goal

pub loop-tier-preserved : goal.loop-tier-preserved
loop-tier-preserved c =
    let tiers = c.args.tiers.now in
    let at = c.loop-tier.tier-index in
    let old = c.loop-tier.greatest in
    let new = c.max-greatest.result in
    let inv = c.loop-tier.invariant in
    let lt = c.loop-tier-test.true in
    let is : new ≡ max old (tier_in tiers at) = c.max-greatest.ensures in
    record {
      reached = elim (cases_lt old (tier_in tiers at)) [
        | inl less ↦ (at, lt, omega (arith, is, less))
        | inr more ↦ let had = inv.reached.2 in (inv.reached.0, inv.reached.1, omega (arith, is, more, had))
      ];
      others = λ k within. elim (less_or_last k at within) [
        | inl before ↦ let low = inv.others k before in omega (arith, low, is)
        | inr last ↦ let same : tier_in tiers k ≡ tier_in tiers at = ap (tier_in tiers) last in omega (arith, same, is)
      ];
    }

pub returns : goal.returns
returns c =
    let tiers = c.args.tiers.now in
    let past = c.loop-tier-test.false in
    let inv = c.loop-tier.invariant in
    record {
      reached = (inv.reached.0, inv.reached.1, get_or_default tiers inv.reached.0 c.loop-tier.greatest 0 inv.reached.1 ∙ inv.reached.2);
      others = λ k d within. let low = inv.others k (omega (arith, within, past)) in let same : get_or tiers k d ≡ tier_in tiers k = get_or_default tiers k d 0 within in omega (arith, low, same);
    }
