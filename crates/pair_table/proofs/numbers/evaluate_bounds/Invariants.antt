use Rattle.std.proofs.Common.{length}
use Rattle.measure_core.specs.Laws.{SpanIsModest}
use Rattle.pair_table.specs.TopicUnder.{topic_of}
use Rattle.pair_table.specs.Sums.{run_numbers}
use Rattle.measure_core.proofs.Filling.{IsFilled}
use Rattle.pair_table.proofs.numbers.evaluate_bounds.Given as goal

abbrev pub invariant-loop-run : goal.invariant-loop-run
invariant-loop-run g l =
    let topic = topic_of l.topic in
    record { filled : IsFilled (λ run. g.M.Measure.bounds_of l.measure topic.marks (topic.ranking run)) SpanIsModest (run_numbers (length l.topic.desk.runs)) l.bounds l.run }
