use Rattle.std.proofs.Common.{ℕ, length, subst, arith}
use Rattle.desk_model.specs.MeasureText.{IsMeasure}
use Rattle.topic_counts.specs.declared.span.Span.{Span}
use Rattle.measure_core.specs.Laws.{SpanIsModest}
use Rattle.pair_table.specs.TopicUnder.{topic_of}
use Rattle.pair_table.specs.Sums.{run_numbers}
use Rattle.measure_core.proofs.Filling.{filled_none, filled_more, filled_whole}
use Rattle.measure_core.proofs.RunPairs.{number_at, length-run_numbers}
use Rattle.pair_table.proofs.numbers.evaluate_bounds.Goals as goal

pub loop-run-init : goal.loop-run-init
loop-run-init g c = record { filled = filled_none _ SpanIsModest _ c.args.bounds.now }

pub loop-run-preserved : goal.loop-run-preserved
loop-run-preserved g c =
    let topic = topic_of c.args.topic.now in
    let f : ℕ → Span = λ run. g.M.Measure.bounds_of c.args.measure.now topic.marks (topic.ranking run) in
    record {
      filled = filled_more f SpanIsModest (run_numbers (length c.args.topic.now.desk.runs)) c.loop-run.bounds c.loop-run.run c.loop-run.run c.bounds_at.result (omega (arith, c.requires)) c.loop-run.invariant.filled
          (number_at (length c.args.topic.now.desk.runs) c.loop-run.run (omega arith)) c.bounds_at.ensures.bounds (c.bounds_at.ensures.modest (subst IsMeasure c.name-name.ensures.name c.name-name.ensures.built));
    }

pub returns-clause-bounds : goal.returns-clause-bounds
returns-clause-bounds g c =
    (filled_whole _ SpanIsModest _ c.loop-run.bounds c.loop-run.run (omega (arith, c.requires)) (omega (arith, length-run_numbers (length c.args.topic.now.desk.runs))) c.loop-run.invariant.filled).0

pub returns-clause-modest : goal.returns-clause-modest
returns-clause-modest g c =
    (filled_whole _ SpanIsModest _ c.loop-run.bounds c.loop-run.run (omega (arith, c.requires)) (omega (arith, length-run_numbers (length c.args.topic.now.desk.runs))) c.loop-run.invariant.filled).1
