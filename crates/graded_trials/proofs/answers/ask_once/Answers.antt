use Rattle.std.proofs.Common.{ap, ◌∙◌, length, refl}
use Rattle.desk_model.specs.Pairs.{pairs_of}
use Rattle.pair_table.specs.Sums.{run_numbers}
use Rattle.pair_table.proofs.PairNumbers.{length-pairs_of}
use Rattle.graded_rbp.specs.Score.{GradedMeasure}
use Rattle.graded_trials.proofs.answers.ask_once.Goals as goal

pub graded_text-requires-clause-totals_count : goal.graded_text-requires-clause-totals_count
graded_text-requires-clause-totals_count g c =
    let m : GradedMeasure = record { top = 5; bottom = 10; greatest = c.args.greatest } in
    c.all_totals.ensures.count ∙ ap (λ n. length (pairs_of (run_numbers n))) (c.in_ok-table.ensures.table m refl refl).runs ∙ length-pairs_of c.args.desk.now.runs 0
