use Rattle.std.proofs.Common.{◌≡◌, List, [], length, ap, sym, ◌∙◌, subst}
use Rattle.desk_model.specs.declared.types.Mark.{Mark}
use Rattle.desk_model.proofs.Nested.{get_or-there}
use Rattle.measure_core.specs.Pairs.{AreAllMet}
use Rattle.pair_table.specs.TopicUnder.{TopicUnder, IsKnownTopic, place_of, topic_of}
use Rattle.pair_table.proofs.DeskTopics.{all_met_at, marks_counted, marks_known}
use Rattle.pair_table.proofs.marked_topic.MarkedTopic.marks.Goals as goal

pub topic-requires : goal.topic-requires
topic-requires c = marks_known _ c.self.invariant

pub returns-clause-marks : goal.returns-clause-marks
returns-clause-marks c =
    subst (λ (t : TopicUnder). c.topic.result.now ≡ (topic_of t).marks) c.self.view_is
    (sym (get_or-there c.self.inside.marks.now c.self.inside.number c.topic.result.now [] c.topic.ensures))

pub returns-clause-count : goal.returns-clause-count
returns-clause-count c =
    ap (λ (m : List Mark). length m) (returns-clause-marks c) ∙ marks_counted c.args.self.now (subst IsKnownTopic c.self.view_is c.self.invariant)

pub returns-clause-met : goal.returns-clause-met
returns-clause-met c =
    subst (λ (t : TopicUnder). AreAllMet c.topic.result.now (place_of t)) c.self.view_is
    (all_met_at c.self.inside.desk.now c.self.inside.marks.now c.valid.ensures c.self.invariant.marked c.self.inside.number c.topic.result.now c.topic.ensures)
