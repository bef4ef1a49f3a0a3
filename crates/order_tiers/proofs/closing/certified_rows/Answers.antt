use Rattle.std.proofs.Common.{◌≡◌, ◌↔◌, ℕ, Bool, true, List, length, ap, sym, subst, arith}
use Rattle.std.proofs.lemmas.List.{with_items_is}
use Rattle.order_tiers.specs.Chains.{IsCertifiedAbove}
use Rattle.order_tiers.specs.Order.{IsAbovePair}
use Rattle.order_tiers.specs.Rows.{is_above}
use Rattle.order_tiers.proofs.Leading.{closed_over}
use Rattle.order_tiers.proofs.closing.certified_rows.Goals as goal

pub returns-clause-certified : goal.returns-clause-certified
returns-clause-certified c =
    let Above = IsAbovePair c.args.pairs.now.runs c.args.pairs.now.verdicts.now in
    let new : List (List Bool) = c.close.new.rows in
    let is = with_items_is c.in_ok-rows.rows new (omega (arith, c.close.auto.rows, ap length c.deref_mut.ensures.value, c.in_ok-rows.rows.ok.0)) in
    let direct = subst (λ (rows : List (List Bool)). (a b : ℕ) → (is_above rows a b ≡ true) ↔ Above a b) (sym c.deref_mut.ensures.value) c.in_ok-rows.ensures.above in
    subst (λ (rows : List (List Bool)). (a b : ℕ) → (is_above rows a b ≡ true) ↔ IsCertifiedAbove Above a b) (sym is) (closed_over Above c.deref_mut.result.now new direct c.close.ensures.chains)
