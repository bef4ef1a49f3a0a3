use Rattle.std.proofs.Common.{◌≡◌, ◌+◌, ◌||◌, ℕ, Bool, List, [], length, ap, sym, subst, ◌∙◌}
use Rattle.std.proofs.lemmas.List.{get_or_default}
use Rattle.order_tiers.specs.Rows.{has, is_above}
use Rattle.order_tiers.proofs.Between.{IsBelowFirst, below_none, below_skip, below_more, below_all}
use Rattle.order_tiers.proofs.Tests.{not_both}
use Rattle.order_tiers.proofs.covers.find_between.Goals as goal
use Rattle.order_tiers.proofs.covers.find_between.Goals.{then-has, else-has}

pub loop-run-init : goal.loop-run-init
loop-run-init c = record { long = c.clear.ensures.count ∙ c.requires; each = below_none c.args.first.now.of.rows.now c.args.first.now.run c.clear.new.self c.clear.ensures.none }

pub loop-run-preserved : goal.loop-run-preserved
loop-run-preserved c =
    let rows = c.args.first.now.of.rows.now in
    let first = c.args.first.now.run in
    let run = c.loop-run.run in
    let between : List Bool = c.loop-run.between in
    let inv = c.loop-run.invariant in
    let lt = c.loop-run-test.true in
    let row = c.index-rows-first.result in
    let there : has row run ≡ is_above rows first run = ap (λ r. has r run) (c.index-rows-first.is ∙ get_or_default rows first row [] c.args.first.now.within) in
    elim c.if-has.branch [
      | then-has w ↦
          let next : List Bool = w.add_all.new.self in
          let other = w.index-rows-run.result in
          let joined : (b : ℕ) → has next b ≡ (has between b || is_above rows run b) = λ b.
          w.add_all.ensures.joined b ∙ ap (λ r. has between b || has r b) (w.index-rows-run.is ∙ get_or_default rows run other [] lt) in
          record {
            long = ap length w.between-is ∙ w.add_all.ensures.count ∙ inv.long;
            each = subst (λ x. IsBelowFirst rows first x (run + 1)) (sym w.between-is) (below_more rows first run between inv.each next joined (sym (c.has.ensures ∙ there) ∙ w.if-has.true));
          }
      | else-has w ↦ record {
        long = ap length w.between-is ∙ inv.long;
        each = subst (λ x. IsBelowFirst rows first x (run + 1)) (sym w.between-is) (below_skip rows first run between inv.each (λ e. not_both c.has.result (c.has.ensures ∙ there ∙ e) w.if-has.false));
      }
    ]

pub returns : goal.returns
returns c = below_all c.args.first.now.of.rows.now c.args.first.now.run c.loop-run.run c.loop-run.between c.loop-run.invariant.each c.loop-run.invariant.long c.loop-run-test.false
