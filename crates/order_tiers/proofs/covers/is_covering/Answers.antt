use Rattle.std.proofs.Common.{◌≡◌, true, false, not, [], ap, sym, ◌∙◌, inl, inr}
use Rattle.std.proofs.lemmas.List.{get_or_default}
use Rattle.order_tiers.specs.Rows.{has, is_above}
use Rattle.order_tiers.proofs.Between.{covers_by, none_between}
use Rattle.order_tiers.proofs.Tests.{not_both, true_or_false}
use Rattle.order_tiers.proofs.covers.is_covering.Goals as goal

pub returns-then-has : goal.returns-then-has
returns-then-has c =
    let first = c.args.first.now in
    let rows = first.of.rows.now in
    let second = c.args.second in
    let between = c.args.between.now in
    let found = c.has-then-has in
    let there = ap (λ r. has r second) (get_or_default rows first.run c.index-first-first.result [] first.within) in
    let over : is_above rows first.run second ≡ true = sym (c.has.ensures ∙ there) ∙ c.if-has.true in
    let none : not found.result ≡ true → has between second ≡ false = λ e. elim (true_or_false (has between second)) [
      | inl yes_ ↦ absurd (not_both (not found.result) e (ap not (found.ensures ∙ yes_)))
      | inr no_ ↦ no_
    ] in (
      λ e. covers_by rows first.run second between c.requires.between over (none e),
      λ covering. ap not (found.ensures ∙ none_between rows first.run second between c.requires.between covering),
    )
