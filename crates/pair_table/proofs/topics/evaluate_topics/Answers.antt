use Rattle.std.proofs.Common.{◌≡◌, length, get_or, ap, sym, subst, ◌∙◌, arith}
use Rattle.desk_model.specs.Desk.{topics_under}
use Rattle.desk_model.specs.Pairs.{pairs_of}
use Rattle.desk_model.proofs.DeskTopics.{length-topics_under}
use Rattle.pair_table.specs.Kept.{TopicNumbers, AreTopicNumbers, numbers_on, topic_at}
use Rattle.pair_table.specs.Sums.{run_numbers}
use Rattle.pair_table.specs.TopicUnder.{TopicUnder, numbers_of}
use Rattle.pair_table.proofs.DeskTopics.{topic_at_there}
use Rattle.measure_core.proofs.Filling.{refilled_none, refilled_here, refilled_more, filled_whole}
use Rattle.pair_table.proofs.topics.evaluate_topics.Goals as goal

pub loop-number-init : goal.loop-number-init
loop-number-init g c = record { refilled = refilled_none _ _ _ c.args.topics.now; steps = omega arith }

pub evaluate-requires : goal.evaluate-requires
evaluate-requires g c =
    let t = c.loop-number.number in
    let kept = c.index-topics-number.result in
    let here : get_or c.loop-number.topics t kept ≡ get_or c.args.topics.now t kept = refilled_here _ _ _ c.loop-number.topics c.args.topics.now t kept c.loop-number.invariant.refilled in
    ap (λ (k : TopicNumbers). length k.bounds) here ∙ c.requires.runs t kept (omega arith) ∙ sym (ap (λ (at : TopicUnder). length at.desk.runs) c.of-topic.ensures)

pub loop-number-preserved : goal.loop-number-preserved
loop-number-preserved g c =
    let desk = c.args.desk.now in
    let marks = c.args.marks.now in
    let t = c.loop-number.number in
    let cell = g.M.Measure.cell_of c.args.measure.now in
    let bounds = g.M.Measure.bounds_of c.args.measure.now in
    let f = numbers_on cell bounds (length desk.runs) in
    let numbers = c.evaluate.ensures.numbers ∙ ap (numbers_of cell bounds) c.of-topic.ensures in
    let sizes = subst (λ (at : TopicUnder). AreTopicNumbers (length at.desk.runs) c.evaluate.new.self) c.of-topic.ensures c.evaluate.ensures.sizes in
    record {
      refilled = refilled_more f (AreTopicNumbers (length desk.runs)) (topics_under desk marks) c.loop-number.topics c.args.topics.now t (topic_at desk marks t) c.evaluate.new.self (omega arith) c.loop-number.invariant.refilled
          (topic_at_there desk marks t c.requires.marks (omega arith)) numbers sizes;
      steps = omega (arith, c.loop-number.invariant.steps, c.evaluate.ensures.steps, ap (λ (at : TopicUnder). length (pairs_of (run_numbers (length at.desk.runs)))) c.of-topic.ensures);
    }

pub returns-clause-numbers : goal.returns-clause-numbers
returns-clause-numbers g c =
    (filled_whole _ _ _ c.loop-number.topics c.loop-number.number (omega (arith, c.requires.count)) (omega (arith, length-topics_under c.args.desk.now c.args.marks.now c.requires.marks)) c.loop-number.invariant.refilled.filled).0

pub returns-clause-sizes : goal.returns-clause-sizes
returns-clause-sizes g c =
    (filled_whole _ _ _ c.loop-number.topics c.loop-number.number (omega (arith, c.requires.count)) (omega (arith, length-topics_under c.args.desk.now c.args.marks.now c.requires.marks)) c.loop-number.invariant.refilled.filled).1
