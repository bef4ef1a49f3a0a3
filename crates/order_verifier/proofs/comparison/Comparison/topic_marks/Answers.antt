use Rattle.topic_ends.proofs.DeskPlaces.{marks_within}
use Rattle.order_verifier.proofs.Topics.{topic_inside}
use Rattle.order_verifier.proofs.comparison.Comparison.topic_marks.Goals as goal

pub of_topic-requires : goal.of_topic-requires
of_topic-requires c =
    marks_within c.self.inside.desk.now c.self.inside.marks.now c.self.invariant.0.known c.args.topic
    (topic_inside _ _ c.self.view_is c.self.invariant.0.known c.args.topic c.requires)
