use Rattle.std.proofs.Common.{List, length, ap, sym, ◌∙◌, arith}
use Rattle.std.proofs.lemmas.List.{with_items_is}
use Rattle.desk_model.specs.Pairs.{pairs_of}
use Rattle.desk_model.specs.declared.types.Totals.{Totals}
use Rattle.topic_counts.specs.declared.span.Span.{Span}
use Rattle.pair_table.specs.Kept.{AllSums, each_with, with_cell, with_span}
use Rattle.pair_table.specs.Sums.{run_numbers}
use Rattle.pair_table.proofs.Keeping.{same_sums}
use Rattle.pair_table.proofs.sums.KeptSums.add.Goals as goal

pub add_cells-requires-clause-count : goal.add_cells-requires-clause-count
add_cells-requires-clause-count c =
    ap length c.deref_mut.ensures.value ∙ c.self.invariant ∙ ap (λ n. length (pairs_of (run_numbers n))) (ap (λ (s : AllSums). length s.bounds) c.self.view_is ∙ c.requires.runs)

pub returns : goal.returns
returns c =
    let sums = c.self.inside in
    let topic = c.args.topic.now in
    let totals : List Totals = c.add_cells.new.totals in
    let bounds : List Span = c.add_bounds.new.sums in
    let totals_is = with_items_is sums.totals totals (omega (arith, c.add_cells.auto.totals, ap length c.deref_mut.ensures.value, sums.totals.ok.0)) in
    let bounds_is = with_items_is sums.bounds bounds (omega (arith, c.add_bounds.auto.sums, ap length c.deref_mut-2.ensures.value, sums.bounds.ok.0)) in
    same_sums _ _ _ _
    (totals_is ∙ c.add_cells.ensures ∙ ap (λ (l : List Totals). each_with with_cell l topic.cells) (c.deref_mut.ensures.value ∙ ap (λ (s : AllSums). s.totals) c.self.view_is))
    (bounds_is ∙ c.add_bounds.ensures ∙ ap (λ (l : List Span). each_with with_span l topic.bounds) (c.deref_mut-2.ensures.value ∙ ap (λ (s : AllSums). s.bounds) c.self.view_is))

pub invariant_of-self : goal.invariant_of-self
invariant_of-self c =
    let sums = c.self.inside in
    let totals : List Totals = c.add_cells.new.totals in
    let bounds : List Span = c.add_bounds.new.sums in
    let totals_is = with_items_is sums.totals totals (omega (arith, c.add_cells.auto.totals, ap length c.deref_mut.ensures.value, sums.totals.ok.0)) in
    let bounds_is = with_items_is sums.bounds bounds (omega (arith, c.add_bounds.auto.sums, ap length c.deref_mut-2.ensures.value, sums.bounds.ok.0)) in
    let many = ap length bounds_is ∙ c.add_bounds.auto.sums ∙ ap length c.deref_mut-2.ensures.value in
    ap length totals_is ∙ c.add_cells.auto.totals ∙ ap length c.deref_mut.ensures.value ∙ c.self.invariant ∙ ap (λ n. length (pairs_of (run_numbers n))) (sym many)
