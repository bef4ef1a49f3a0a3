use Rattle.std.proofs.Common.{◌≡◌, ap, sym, ◌∙◌, arith, length, pos, to_z, of_z}
use Rattle.std.specs.Int.{w128}
use Rattle.std.proofs.lemmas.Int.{ints}
use Rattle.desk_model.specs.Pairs.{pairs_of}
use Rattle.measure_laws.specs.Measures.{unit_of}
use Rattle.desk_report.specs.Table.{table_text}
use Rattle.pair_table.specs.Sums.{run_numbers}
use Rattle.pair_table.proofs.PairNumbers.{length-pairs_of}
use Rattle.desk_report.proofs.Reporting.{table_is}
use Rattle.desk_report.proofs.reports.table_report.Goals as goal

pub table_text-requires-clause-totals_count : goal.table_text-requires-clause-totals_count
table_text-requires-clause-totals_count g c = c.all_totals.ensures.count ∙ ap (λ n. length (pairs_of (run_numbers n))) c.requires ∙ length-pairs_of c.args.desk.now.runs 0

pub returns : goal.returns
returns g c = λ s at under of.
    let sums = c.args.sums.now in
    let M = g.M.Measure in
    let measured = ap M.measured c.measure-measure.ensures in
    let unit : c.unit.result ≡ pos (unit_of (M.measured sums.measure)) = c.unit.ensures ∙ ap (λ m. pos (unit_of m)) measured in
    let given : to_z w128 (of_z w128 c.unit.result) ≡ c.unit.result = omega (arith, ints) in
    table_is (M.measured sums.measure) (M.cell_of sums.measure) (M.bounds_of sums.measure) c.args.desk.now c.valid.ensures sums s of c.level.result c.depth.result c.name-name.result c.unit.result c.in_ok-text.text.items
    (at ∙ sym c.level.ensures.value) (under ∙ sym c.depth.ensures.value) (c.name-name.ensures.name ∙ measured) unit
    (c.in_ok-text.ensures
    ∙ ap (λ u. table_text c.args.desk.now c.name-name.result c.level.result c.depth.result u c.all_bounds.result.now c.all_totals.result.now) given
    ∙ ap (λ bs. table_text c.args.desk.now c.name-name.result c.level.result c.depth.result c.unit.result bs c.all_totals.result.now) c.all_bounds.ensures.bounds
    ∙ ap (λ ts. table_text c.args.desk.now c.name-name.result c.level.result c.depth.result c.unit.result sums.bounds ts) c.all_totals.ensures.totals)
