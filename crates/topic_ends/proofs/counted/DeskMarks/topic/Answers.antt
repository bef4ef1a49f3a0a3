use Rattle.topic_ends.proofs.DeskPlaces.{item_there}
use Rattle.topic_ends.proofs.counted.DeskMarks.topic.Goals as goal

pub counted-requires : goal.counted-requires
counted-requires c =
    let found = c.in-Some.ensures.lookup in
    c.self.invariant c.args.topic c.topic-marks.result.now c.in-Some.counts.now c.topic-marks.ensures (item_there c.self.inside.counts.now c.args.topic c.in-Some.counts.now found.3.0 found.1)
