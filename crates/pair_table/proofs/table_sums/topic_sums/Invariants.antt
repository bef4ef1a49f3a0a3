use Rattle.std.proofs.Common.{◌≡◌, ◌+◌, ◌*◌, All, length, take}
use Rattle.desk_model.specs.Pairs.{pairs_of}
use Rattle.pair_table.specs.Kept.{AreTopicNumbers, all_numbers, kept_sums}
use Rattle.pair_table.specs.Sums.{run_numbers}
use Rattle.pair_table.proofs.table_sums.topic_sums.Given as goal

abbrev pub invariant-loop-number : goal.invariant-loop-number
invariant-loop-number g l =
    let runs = length l.desk.runs in
    let before = take l.number (all_numbers (g.M.Measure.cell_of l.measure) (g.M.Measure.bounds_of l.measure) l.desk l.marks) in
    record {
      sums : l.sums ≡ kept_sums runs before;
      numbers : All (AreTopicNumbers runs) before;
      each_run : length l.kept.bounds ≡ runs;
      steps : l.steps ≡ l.initial.steps + l.number * length (pairs_of (run_numbers runs));
    }
