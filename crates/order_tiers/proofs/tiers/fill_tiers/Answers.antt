use Rattle.std.proofs.Common.{◌≡◌, ◌+◌, ℕ, List, get_or, sym, ◌∙◌, subst, arith}
use Rattle.std.proofs.lemmas.List.{get_or_default}
use Rattle.order_tiers.specs.Rows.{has}
use Rattle.order_tiers.specs.Tiers.{tier_in}
use Rattle.order_tiers.proofs.Counting.{count_within}
use Rattle.order_tiers.proofs.Tiering.{IsFilling, filling_kept, filling_more}
use Rattle.order_tiers.proofs.tiers.fill_tiers.Goals as goal
use Rattle.order_tiers.proofs.tiers.fill_tiers.Goals.{then-counts-run, else-counts-run}

pub tier_by-requires-clause-small : goal.tier_by-requires-clause-small
tier_by-requires-clause-small c k d within =
    let rows = c.args.of.now.rows.now in
    let tiers = c.loop-run.tiers in
    let long = c.loop-run.invariant.long in
    let low = c.loop-run.invariant.small k (omega (arith, within, long)) in
    let most = count_within (λ row. has row k) rows in
    let same : get_or tiers k d ≡ tier_in tiers k = get_or_default tiers k d 0 within in
    omega (arith, low, most, same)

pub loop-run-preserved : goal.loop-run-preserved
loop-run-preserved c =
    let rows = c.args.of.now.rows.now in
    let tiers = c.loop-run.tiers in
    let count = c.args.count in
    let run = c.loop-run.run in
    let lt = c.loop-run-test.true in
    let counted = c.requires.counts.each run lt in
    elim c.if-counts-run.branch [
      | then-counts-run w ↦
          subst (λ (l : List ℕ). IsFilling rows l count (run + 1)) (sym w.tiers-is)
          (filling_more rows tiers count run c.args.of.now.strict lt c.loop-run.invariant w.tier_by.result (sym counted ∙ w.if-counts-run.true) w.tier_by.ensures)
      | else-counts-run w ↦
          subst (λ (l : List ℕ). IsFilling rows l count (run + 1)) (sym w.tiers-is)
          (filling_kept rows tiers count run c.args.of.now.strict lt c.loop-run.invariant (λ e. w.if-counts-run.false (counted ∙ e)))
    ]
