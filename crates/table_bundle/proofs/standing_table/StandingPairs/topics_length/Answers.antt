use Rattle.std.proofs.Common.{◌≡◌, ◌≤◌, length, ap, ◌∙◌, arith}
use Rattle.std.specs.List.{sum, zip}
use Rattle.std.proofs.lemmas.List.{length-map, take_all}
use Rattle.desk_model.specs.Book.{Book}
use Rattle.desk_model.specs.Desk.{topics_under}
use Rattle.desk_model.specs.Order.{Topic}
use Rattle.desk_model.proofs.DeskTopics.{length-topics_under}
use Rattle.desk_model.proofs.Nested.{length-zip}
use Rattle.table_bundle.specs.Lengths.{lists_on, topic_length, topic_lengths}
use Rattle.table_bundle.proofs.ListLengths.{sum_more}
use Rattle.table_bundle.proofs.standing_table.StandingPairs.topics_length.Goals as goal

pub returns-clause-bytes : goal.returns-clause-bytes
returns-clause-bytes g c =
    let desk = c.args.self.now.standing.now.desk.now in
    let topics = topics_under desk c.args.self.now.standing.now.marks.now in
    let measure = g.M.Measure.measured c.args.self.now.standing.now.table.now.measure in
    let lengths = topic_lengths measure desk c.args.self.now.standing.now.marks.now c.args.self.now.pairs.now in
    let long : length lengths ≡ length desk.topics =
    length-map (zip desk.topics topics) (λ (p : Book × Topic). topic_length p.0 (lists_on measure c.args.self.now.pairs.now p.1)) ∙ length-zip desk.topics topics (length-topics_under desk c.args.self.now.standing.now.marks.now c.args.self.now.standing.now.marked) in
    let end : length lengths ≤ c.loop-topic.topic = omega (arith, c.loop-topic-test.false, c.topic_count-topic-end.ensures.count, long) in
    c.loop-topic.invariant.bytes ∙ ap sum (take_all c.loop-topic.topic lengths end)

pub loop-topic-preserved : goal.loop-topic-preserved
loop-topic-preserved g c =
    let lengths = topic_lengths (g.M.Measure.measured c.args.self.now.standing.now.table.now.measure) c.args.self.now.standing.now.desk.now c.args.self.now.standing.now.marks.now c.args.self.now.pairs.now in
    record {
      bytes = omega (arith, c.loop-topic.invariant.bytes, sum_more lengths c.loop-topic.topic c.in_ok-bytes.field-0 c.in_ok-bytes.ensures.bytes);
      few = omega (arith, c.loop-topic.invariant.few, c.in_ok-bytes.ensures.few);
    }
