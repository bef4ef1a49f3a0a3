use Rattle.std.proofs.Common.{◌≡◌, ◌*◌, ap, subst, ◌∙◌, arith, pos, to_z, of_z, All}
use Rattle.std.specs.Int.{w128}
use Rattle.std.specs.Prelude.{unsigned_abs}
use Rattle.std.proofs.lemmas.Int.{ints}
use Rattle.desk_model.specs.MeasureText.{IsMeasure}
use Rattle.measure_laws.specs.Measures.{unit_of}
use Rattle.pair_table.specs.Kept.{AreModestTotals}
use Rattle.desk_report.proofs.Reporting.{pair_is, sums_are_near}
use Rattle.desk_report.proofs.reports.pair_report.Goals as goal

pub pair_line-requires-clause-totals : goal.pair_line-requires-clause-totals
pair_line-requires-clause-totals g c =
    sums_are_near c.args.sums.now.runs c.args.sums.now.totals c.args.first c.args.second c.totals-totals.result
    (subst (All AreModestTotals) c.all_totals-sums.ensures.totals c.all_totals-sums.ensures.near) c.totals-totals.ensures

pub returns : goal.returns
returns g c = λ s of.
    let sums = c.args.sums.now in
    let desk = c.args.desk.now in
    let M = g.M.Measure in
    let measured = ap M.measured c.measure-measure.ensures in
    let unit : c.unit.result ≡ pos (unit_of (M.measured sums.measure)) = c.unit.ensures ∙ ap (λ m. pos (unit_of m)) measured in
    let given : to_z w128 (of_z w128 c.unit.result) ≡ c.unit.result = omega (arith, ints) in
    let valid = subst IsMeasure (c.name-name.ensures.name ∙ measured) c.name-name.ensures.built in
    pair_is (M.measured sums.measure) (M.cell_of sums.measure) (M.bounds_of sums.measure) desk c.topic_count-topics.ensures.desk sums s of c.args.first c.args.second c.totals-totals.result
    (unsigned_abs (to_z w128 (of_z w128 c.unit.result)) * c.topic_count-topics.result) c.run_name.result.now c.run_name-2.result.now c.in_ok-text.text.items
    (g.met.M.Measure.laws sums.measure valid) c.requires.runs c.totals-totals.ensures
    (ap (λ u. unsigned_abs u * c.topic_count-topics.result) (given ∙ unit) ∙ ap (λ n. unit_of (M.measured sums.measure) * n) c.topic_count-topics.ensures.count)
    c.run_name.ensures c.run_name-2.ensures c.in_ok-text.ensures
