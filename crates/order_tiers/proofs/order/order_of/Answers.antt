use Rattle.std.proofs.Common.{ℕ, Bool, List, length, ap, sym, subst, ◌∙◌, arith}
use Rattle.desk_model.specs.Pairs.{pairs_of}
use Rattle.pair_table.specs.Numbers.{HasCellEnds}
use Rattle.pair_table.specs.Sums.{run_numbers}
use Rattle.order_tiers.specs.Order.{compared, AreCovers}
use Rattle.order_tiers.specs.Rows.{AboveBy, IsSquare, IsStrictOrder}
use Rattle.order_tiers.specs.Tables.{AreChainRows}
use Rattle.order_tiers.specs.Tiers.{AreTiers, IsGreatestTier, tier_in}
use Rattle.order_tiers.specs.declared.cover.Cover.{Cover}
use Rattle.order_tiers.proofs.Tabled.{chain_of_table, covers_within, length-verdicts, order_made}
use Rattle.order_tiers.proofs.order.order_of.Goals as goal

pub invariant_of-pairs : goal.invariant_of-pairs
invariant_of-pairs g c =
    let M = g.M.Measure in
    let table = c.args.table.now in
    let laws = g.met.M.Measure.laws table.measure c.requires.named in
    record {
      some = omega (arith, c.requires.valid.some_run, c.run_count.ensures.count);
      few = omega (arith, c.requires.valid.runs, c.run_count.ensures.count);
      each = ap length c.verdicts.ensures ∙ length-verdicts (M.measured table.measure) (M.cell_of table.measure) (M.bounds_of table.measure) laws c.args.desk.now c.args.marks.now table c.requires
          ∙ ap (λ n. length (pairs_of (run_numbers n))) (sym c.run_count.ensures.count);
    }

pub invariant_of-of : goal.invariant_of-of
invariant_of-of g c =
    let M = g.M.Measure in
    let table = c.args.table.now in
    let chain : AreChainRows (compared c.args.desk.now c.args.marks.now table.totals) c.in_ok-rows.rows.items =
    chain_of_table (M.measured table.measure) (M.cell_of table.measure) (M.bounds_of table.measure) (g.met.M.Measure.laws table.measure c.requires.named) c.args.desk.now c.args.marks.now table c.requires c.run_count.result c.verdicts.result.now c.in_ok-rows.rows.items
    c.run_count.ensures.count c.verdicts.ensures c.in_ok-rows.ensures.square c.in_ok-rows.ensures.certified in
    record {
      count = ap length c.deref.ensures.value ∙ chain.square.count;
      strict = subst IsStrictOrder (sym c.deref.ensures.value) chain.strict;
    }

pub greatest_tier-greatest-requires : goal.greatest_tier-greatest-requires
greatest_tier-greatest-requires g c =
    omega (arith, c.requires.valid.some_run, c.in_ok-rows.ensures.square.count, c.run_count.ensures.count, ap length c.deref.ensures.value, c.in_ok-tiers.ensures.count, ap length c.deref-2.ensures.value)

pub returns : goal.returns
returns g c =
    let M = g.M.Measure in
    let table = c.args.table.now in
    let chain : AreChainRows (compared c.args.desk.now c.args.marks.now table.totals) c.in_ok-rows.rows.items =
    chain_of_table (M.measured table.measure) (M.cell_of table.measure) (M.bounds_of table.measure) (g.met.M.Measure.laws table.measure c.requires.named) c.args.desk.now c.args.marks.now table c.requires c.run_count.result c.verdicts.result.now c.in_ok-rows.rows.items
    c.run_count.ensures.count c.verdicts.ensures c.in_ok-rows.ensures.square c.in_ok-rows.ensures.certified in
    let Has = HasCellEnds (g.M.Measure.cell_of c.args.table.now.measure) in
    let t = compared c.args.desk.now c.args.marks.now c.args.table.now.totals in
    let rows : List (List Bool) = c.in_ok-rows.rows.items in
    let tiers : List ℕ = c.in_ok-tiers.tiers.items in
    order_made Has t rows tiers c.greatest_tier-greatest.result c.in_ok-covers.covers.items chain
    (c.in_ok-tiers.ensures.count ∙ ap length c.deref.ensures.value)
    (subst (λ (rs : List (List Bool)). AreTiers (AboveBy rs) (length rs) (tier_in tiers)) c.deref.ensures.value c.in_ok-tiers.ensures.tiers)
    (subst (λ ts. IsGreatestTier ts c.greatest_tier-greatest.result) c.deref-2.ensures.value c.greatest_tier-greatest.ensures)
    (subst (λ (rs : List (List Bool)). AreCovers (AboveBy rs) Has t c.in_ok-covers.covers.items) c.deref.ensures.value c.in_ok-covers.ensures)

pub invariant_of-result : goal.invariant_of-result
invariant_of-result g c =
    let M = g.M.Measure in
    let table = c.args.table.now in
    let chain : AreChainRows (compared c.args.desk.now c.args.marks.now table.totals) c.in_ok-rows.rows.items =
    chain_of_table (M.measured table.measure) (M.cell_of table.measure) (M.bounds_of table.measure) (g.met.M.Measure.laws table.measure c.requires.named) c.args.desk.now c.args.marks.now table c.requires c.run_count.result c.verdicts.result.now c.in_ok-rows.rows.items
    c.run_count.ensures.count c.verdicts.ensures c.in_ok-rows.ensures.square c.in_ok-rows.ensures.certified in
    let t = compared c.args.desk.now c.args.marks.now c.args.table.now.totals in
    let Has = HasCellEnds (g.M.Measure.cell_of c.args.table.now.measure) in
    let rows : List (List Bool) = c.in_ok-rows.rows.items in
    let covers : List Cover = c.in_ok-covers.covers.items in
    let count = c.in_ok-tiers.ensures.count ∙ ap length c.deref.ensures.value ∙ chain.square.count in
    record {
      square = subst (λ n. IsSquare n rows) (sym count) chain.square;
      within = covers_within Has t rows (length c.in_ok-tiers.tiers.items) covers chain count (subst (λ (rs : List (List Bool)). AreCovers (AboveBy rs) Has t covers) c.deref.ensures.value c.in_ok-covers.ensures);
    }
