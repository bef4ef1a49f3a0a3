use Rattle.std.proofs.Common.{◌≡◌, ◌+◌, ◌*◌, length}
use Rattle.desk_model.specs.Desk.{topics_under}
use Rattle.desk_model.specs.Pairs.{pairs_of}
use Rattle.pair_table.specs.Kept.{AreTopicNumbers, numbers_on}
use Rattle.pair_table.specs.Sums.{run_numbers}
use Rattle.measure_core.proofs.Filling.{IsRefilled}
use Rattle.pair_table.proofs.topics.evaluate_topics.Given as goal

abbrev pub invariant-loop-number : goal.invariant-loop-number
invariant-loop-number g l =
    let runs = length l.desk.runs in
    record {
      refilled : IsRefilled (numbers_on (g.M.Measure.cell_of l.measure) (g.M.Measure.bounds_of l.measure) runs) (AreTopicNumbers runs) (topics_under l.desk l.marks) l.topics l.initial.topics l.number;
      steps : l.steps ≡ l.initial.steps + l.number * length (pairs_of (run_numbers runs));
    }
