use Rattle.std.proofs.Common.{◌≡◌, arith, ℤ, pos, ◌-ℤ◌, to_z, of_z}
use Rattle.std.specs.Prelude.{neg_ℤ}
use Rattle.std.specs.Int.{w128}
use Rattle.std.proofs.lemmas.Int.{ints}
use Rattle.order_verifier.specs.declared.comparison.OuterEnds.{OuterEnds}
use Rattle.topic_ends.proofs.DeskPlaces.{marks_within}
use Rattle.order_verifier.proofs.Topics.{topic_inside, rankings_met, ends_on}
use Rattle.order_verifier.proofs.comparison.Comparison.outer_ends.Goals as goal

pub known_ranking-first-requires-clause-topic : goal.known_ranking-first-requires-clause-topic
known_ranking-first-requires-clause-topic c = topic_inside _ _ c.self.view_is c.self.invariant.0.known c.args.topic c.requires

pub known_ranking-second-requires-clause-topic : goal.known_ranking-second-requires-clause-topic
known_ranking-second-requires-clause-topic c = topic_inside _ _ c.self.view_is c.self.invariant.0.known c.args.topic c.requires

same_ends : {l m l' m' : ℤ} → l ≡ l' → m ≡ m' → ◌≡◌ {A = OuterEnds} (record { least_low = l; most_high = m }) (record { least_low = l'; most_high = m' })
same_ends p q = cc

pub topic-marks-requires : goal.topic-marks-requires
topic-marks-requires c =
    marks_within c.self.inside.desk.now c.self.inside.marks.now c.self.invariant.0.known c.args.topic
    (topic_inside _ _ c.self.view_is c.self.invariant.0.known c.args.topic c.requires)

pub least_low_of-requires-clause-rankings : goal.least_low_of-requires-clause-rankings
least_low_of-requires-clause-rankings c =
    rankings_met c.self.inside.desk.now c.self.inside.marks.now c.self.inside.runs.first c.self.inside.runs.second c.self.invariant.0 c.args.topic c.topic-marks.result _ _ c.topic-marks.ensures c.known_ranking-first.ensures.ranking
    c.known_ranking-second.ensures.ranking

pub least_low_of-requires-2-clause-rankings : goal.least_low_of-requires-2-clause-rankings
least_low_of-requires-2-clause-rankings c =
    let met = rankings_met c.self.inside.desk.now c.self.inside.marks.now c.self.inside.runs.first c.self.inside.runs.second c.self.invariant.0 c.args.topic c.topic-marks.result _ _ c.topic-marks.ensures
    c.known_ranking-first.ensures.ranking c.known_ranking-second.ensures.ranking in
    record { first = met.second; second = met.first; small = met.small }

pub returns : goal.returns
returns c =
    let ends = c.least_low_of.ensures.ends in
    let least = c.least_low_of.ensures.low ends.0 ends.1 in
    let most : neg_ℤ c.least_low_of-2.result ≡ ends.0.most_hi = c.least_low_of-2.ensures.most ends.0 ends.1 in
    let low : to_z w128 (of_z w128 c.least_low_of.result) ≡ ends.0.least_lo = omega (arith, ints, least) in
    let high : to_z w128 (of_z w128 (pos 0 -ℤ to_z w128 (of_z w128 c.least_low_of-2.result))) ≡ ends.0.most_hi = omega (arith, ints, most) in
    ends_on _ _ c.self.view_is c.args.topic c.topic-marks.result c.known_ranking-first.result.ranking.now c.known_ranking-second.result.ranking.now _ (topic_inside _ _ c.self.view_is c.self.invariant.0.known c.args.topic c.requires) c.topic-marks.ensures c.known_ranking-first.ensures.ranking c.known_ranking-second.ensures.ranking ends.0
    ends.1 (same_ends low high)

pub least_low_of-requires-clause-a : goal.least_low_of-requires-clause-a
least_low_of-requires-clause-a c = c.known_ranking-first.ensures.bounds c.self.inside.marks.now c.topic-marks.result c.self.invariant.1 c.topic-marks.ensures

pub least_low_of-requires-clause-b : goal.least_low_of-requires-clause-b
least_low_of-requires-clause-b c = c.known_ranking-second.ensures.bounds c.self.inside.marks.now c.topic-marks.result c.self.invariant.1 c.topic-marks.ensures

pub least_low_of-requires-2-clause-a : goal.least_low_of-requires-2-clause-a
least_low_of-requires-2-clause-a c = c.known_ranking-second.ensures.bounds c.self.inside.marks.now c.topic-marks.result c.self.invariant.1 c.topic-marks.ensures

pub least_low_of-requires-2-clause-b : goal.least_low_of-requires-2-clause-b
least_low_of-requires-2-clause-b c = c.known_ranking-first.ensures.bounds c.self.inside.marks.now c.topic-marks.result c.self.invariant.1 c.topic-marks.ensures
