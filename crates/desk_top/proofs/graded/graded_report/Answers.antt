use Rattle.std.proofs.Common.{◌≡◌, ap, sym, subst, ◌∙◌, length, refl}
use Rattle.std.proofs.lemmas.Result.{IfOk-weaker}
use Rattle.desk_model.specs.Pairs.{pairs_of}
use Rattle.pair_table.specs.Sums.{run_numbers}
use Rattle.pair_table.proofs.PairNumbers.{length-pairs_of}
use Rattle.graded_rbp.specs.Kept.{all_graded_totals, all_graded_bounds}
use Rattle.graded_rbp.specs.Score.{GradedMeasure, IsBiased}
use Rattle.desk_report.specs.ByGrades.{graded_text}
use Rattle.desk_top.proofs.graded.graded_report.Goals as goal

pub new-requires-clause-biased : goal.new-requires-clause-biased
new-requires-clause-biased g c = subst IsBiased (sym c.requires.biased.2) tt

pub graded_text-requires-clause-bounds_count : goal.graded_text-requires-clause-bounds_count
graded_text-requires-clause-bounds_count g c =
    let biased = c.requires.biased in
    let m : GradedMeasure = record { top = biased.0; bottom = biased.1; greatest = c.args.greatest } in
    c.all_bounds.ensures.count ∙ (c.in_ok-table.ensures.table m biased.2 refl).runs

pub graded_text-requires-clause-totals_count : goal.graded_text-requires-clause-totals_count
graded_text-requires-clause-totals_count g c =
    let biased = c.requires.biased in
    let m : GradedMeasure = record { top = biased.0; bottom = biased.1; greatest = c.args.greatest } in
    c.all_totals.ensures.count ∙ ap (λ n. length (pairs_of (run_numbers n))) (c.in_ok-table.ensures.table m biased.2 refl).runs ∙ length-pairs_of c.args.desk.now.runs 0

pub returns-clause-text : goal.returns-clause-text
returns-clause-text g c =
    let desk = c.args.desk.now in
    IfOk-weaker c.graded_text.result _ _
    (λ text is m of.
    let stands = c.in_ok-table.ensures.table m of.biased of.cut in
    let bounds : c.all_bounds.result.now ≡ all_graded_bounds m desk = c.all_bounds.ensures.bounds ∙ stands.bounds in
    let totals : c.all_totals.result.now ≡ all_graded_totals m desk = c.all_totals.ensures.totals ∙ stands.totals in
    is ∙ (λ i. graded_text desk (of.biased i) (sym of.cut i) (bounds i) (totals i))) c.graded_text.ensures
