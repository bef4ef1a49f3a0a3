use Rattle.std.proofs.Common.{◌≡◌, arith, to_z, of_z}
use Rattle.std.specs.Int.{w128}
use Rattle.std.proofs.lemmas.Int.{ints}
use Rattle.topic_ends.proofs.DeskPlaces.{marks_within}
use Rattle.order_verifier.proofs.Topics.{topic_inside, rankings_met, ends_on}
use Rattle.order_verifier.proofs.comparison.Comparison.least_low.Goals as goal

pub known_ranking-first-requires-clause-topic : goal.known_ranking-first-requires-clause-topic
known_ranking-first-requires-clause-topic c = topic_inside _ _ c.self.view_is c.self.invariant.0.known c.args.topic c.requires

pub known_ranking-second-requires-clause-topic : goal.known_ranking-second-requires-clause-topic
known_ranking-second-requires-clause-topic c = topic_inside _ _ c.self.view_is c.self.invariant.0.known c.args.topic c.requires

pub topic-marks-requires : goal.topic-marks-requires
topic-marks-requires c =
    marks_within c.self.inside.desk.now c.self.inside.marks.now c.self.invariant.0.known c.args.topic
    (topic_inside _ _ c.self.view_is c.self.invariant.0.known c.args.topic c.requires)

pub least_low_of-requires-clause-rankings : goal.least_low_of-requires-clause-rankings
least_low_of-requires-clause-rankings c =
    rankings_met c.self.inside.desk.now c.self.inside.marks.now c.self.inside.runs.first c.self.inside.runs.second c.self.invariant.0 c.args.topic c.topic-marks.result _ _ c.topic-marks.ensures c.known_ranking-first.ensures.ranking
    c.known_ranking-second.ensures.ranking

pub returns : goal.returns
returns c =
    let ends = c.least_low_of.ensures.ends in
    let low = c.least_low_of.ensures.low ends.0 ends.1 in
    let read : to_z w128 (of_z w128 c.least_low_of.result) ≡ ends.0.least_lo = omega (arith, ints, low) in
    ends_on _ _ c.self.view_is c.args.topic c.topic-marks.result c.known_ranking-first.result.ranking.now c.known_ranking-second.result.ranking.now _ (topic_inside _ _ c.self.view_is c.self.invariant.0.known c.args.topic c.requires) c.topic-marks.ensures c.known_ranking-first.ensures.ranking c.known_ranking-second.ensures.ranking ends.0 ends.1
    read

pub least_low_of-requires-clause-a : goal.least_low_of-requires-clause-a
least_low_of-requires-clause-a c = c.known_ranking-first.ensures.bounds c.self.inside.marks.now c.topic-marks.result c.self.invariant.1 c.topic-marks.ensures

pub least_low_of-requires-clause-b : goal.least_low_of-requires-clause-b
least_low_of-requires-clause-b c = c.known_ranking-second.ensures.bounds c.self.inside.marks.now c.topic-marks.result c.self.invariant.1 c.topic-marks.ensures
