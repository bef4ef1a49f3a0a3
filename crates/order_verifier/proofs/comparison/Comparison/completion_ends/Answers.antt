use Rattle.std.proofs.Common.{◌≡◌, ◌-ℤ◌, length, ap, subst, sym, ◌∙◌, arith, to_z, of_z, pos}
use Rattle.std.specs.Int.{w128}
use Rattle.std.specs.Prelude.{neg_ℤ}
use Rattle.std.proofs.lemmas.Int.{ints}
use Rattle.desk_model.proofs.PairPlace.{there}
use Rattle.order_certificate.specs.Evidence.{AreUnjudged}
use Rattle.topic_ends.specs.Least.{AreRankings}
use Rattle.order_verifier.specs.Checks.{AreListed, NamesOnTopic, OfTopic}
use Rattle.order_verifier.specs.Refusal.{Compared, topics_in}
use Rattle.topic_ends.proofs.DeskPlaces.{marks_within}
use Rattle.order_verifier.proofs.Topics.{names_met, rankings_met, topic_of_book, topic_within, upper_on}
use Rattle.order_verifier.proofs.comparison.Comparison.completion_ends.Goals as goal

-- the same two runs, swapped
abbrev swapped : Compared → Compared
swapped v = record v { first = v.second; second = v.first }

pub ranking-first-requires-clause-topic : goal.ranking-first-requires-clause-topic
ranking-first-requires-clause-topic c = topic_within _ _ c.self.view_is c.self.invariant.0.known c.args.topic _ c.requires.low_topic

pub ranking-second-requires-clause-topic : goal.ranking-second-requires-clause-topic
ranking-second-requires-clause-topic c = topic_within _ _ c.self.view_is c.self.invariant.0.known c.args.topic _ c.requires.low_topic

pub topic-marks-requires : goal.topic-marks-requires
topic-marks-requires c = marks_within c.self.inside.desk.now c.self.inside.marks.now c.self.invariant.0.known c.args.topic (topic_within _ _ c.self.view_is c.self.invariant.0.known c.args.topic _ c.requires.low_topic)

pub new-low-requires : goal.new-low-requires
new-low-requires c =
    let topic = c.requires.low_topic in
    let unjudged : OfTopic (topics_in c.args.self.now) c.args.topic (λ t. AreUnjudged t c.args.low.now.names) = (topic.0, topic.1, topic.2.1) in
    let book = there c.self.inside.desk.now.topics c.args.topic (topic_within _ _ c.self.view_is c.self.invariant.0.known c.args.topic _ topic) in
    let same = topic_of_book _ _ c.self.view_is c.args.topic c.topic-marks.result book.0 c.topic-marks.ensures book.1 (λ _ n. c.args.low.now.docs ≡ n.docs) (topic.0, topic.1, topic.2.0) in
    subst (λ docs. AreListed (record { docs = docs; marks = c.topic-marks.result; names = c.args.low.now.names })) (sym same)
    (names_met _ _ c.self.view_is c.self.invariant.0 c.args.topic c.topic-marks.result book.0 c.args.low.now.names c.topic-marks.ensures book.1 c.requires.low_ascends unjudged)

pub new-high-requires : goal.new-high-requires
new-high-requires c =
    let topic = c.requires.high_topic in
    let unjudged : OfTopic (topics_in c.args.self.now) c.args.topic (λ t. AreUnjudged t c.args.high.now.names) = (topic.0, topic.1, topic.2.1) in
    let book = there c.self.inside.desk.now.topics c.args.topic (topic_within _ _ c.self.view_is c.self.invariant.0.known c.args.topic _ topic) in
    let same = topic_of_book _ _ c.self.view_is c.args.topic c.topic-marks.result book.0 c.topic-marks.ensures book.1 (λ _ n. c.args.high.now.docs ≡ n.docs) (topic.0, topic.1, topic.2.0) in
    subst (λ docs. AreListed (record { docs = docs; marks = c.topic-marks.result; names = c.args.high.now.names })) (sym same)
    (names_met _ _ c.self.view_is c.self.invariant.0 c.args.topic c.topic-marks.result book.0 c.args.high.now.names c.topic-marks.ensures book.1 c.requires.high_ascends unjudged)

pub upper_ends-ends-requires-clause-low : goal.upper_ends-ends-requires-clause-low
upper_ends-ends-requires-clause-low c =
    subst (λ (l : NamesOnTopic). AreRankings (length l.marks) c.ranking-first.result.now c.ranking-second.result.now) (sym c.new-low.ensures)
    (rankings_met c.self.inside.desk.now c.self.inside.marks.now c.self.inside.runs.first c.self.inside.runs.second c.self.invariant.0 c.args.topic c.topic-marks.result _ _ c.topic-marks.ensures c.ranking-first.ensures.ranking
    c.ranking-second.ensures.ranking)

pub upper_ends-ends-requires-clause-high : goal.upper_ends-ends-requires-clause-high
upper_ends-ends-requires-clause-high c =
    let both = rankings_met c.self.inside.desk.now c.self.inside.marks.now c.self.inside.runs.first c.self.inside.runs.second c.self.invariant.0 c.args.topic c.topic-marks.result _ _ c.topic-marks.ensures c.ranking-first.ensures.ranking c.ranking-second.ensures.ranking in
    subst (λ (l : NamesOnTopic). AreRankings (length l.marks) c.ranking-second.result.now c.ranking-first.result.now) (sym c.new-high.ensures)
    (record { first = both.second; second = both.first; small = both.small })

pub returns-clause-low : goal.returns-clause-low
returns-clause-low c =
    let topic = c.requires.low_topic in
    let book = there c.self.inside.desk.now.topics c.args.topic (topic_within _ _ c.self.view_is c.self.invariant.0.known c.args.topic _ topic) in
    let same = topic_of_book _ _ c.self.view_is c.args.topic c.topic-marks.result book.0 c.topic-marks.ensures book.1 (λ _ n. c.args.low.now.docs ≡ n.docs) (topic.0, topic.1, topic.2.0) in
    let listed : c.new-low.result ≡ record { docs = book.0.docs; marks = c.topic-marks.result; names = c.args.low.now.names } =
    c.new-low.ensures ∙ ap (λ docs. record { docs = docs; marks = c.topic-marks.result; names = c.args.low.now.names }) same in
    let read : to_z w128 (of_z w128 c.upper_ends-ends.result.low) ≡ c.upper_ends-ends.result.low = omega (arith, ints, c.upper_ends-ends.ensures.low_modest) in
    upper_on _ _ c.self.view_is c.args.topic c.topic-marks.result book.0 c.ranking-first.result.now c.ranking-second.result.now c.args.low.now.names c.topic-marks.ensures book.1 c.ranking-first.ensures.ranking
    c.ranking-second.ensures.ranking c.new-low.result listed _ _ read c.upper_ends-ends.ensures.low

pub returns-clause-high : goal.returns-clause-high
returns-clause-high c =
    let topic = c.requires.high_topic in
    let book = there c.self.inside.desk.now.topics c.args.topic (topic_within _ _ c.self.view_is c.self.invariant.0.known c.args.topic _ topic) in
    let same = topic_of_book _ _ c.self.view_is c.args.topic c.topic-marks.result book.0 c.topic-marks.ensures book.1 (λ _ n. c.args.high.now.docs ≡ n.docs) (topic.0, topic.1, topic.2.0) in
    let listed : c.new-high.result ≡ record { docs = book.0.docs; marks = c.topic-marks.result; names = c.args.high.now.names } =
    c.new-high.ensures ∙ ap (λ docs. record { docs = docs; marks = c.topic-marks.result; names = c.args.high.now.names }) same in
    let r = c.upper_ends-ends.result.high in
    let read : neg_ℤ (to_z w128 (of_z w128 (pos 0 -ℤ to_z w128 (of_z w128 r)))) ≡ r = omega (arith, ints, c.upper_ends-ends.ensures.high_modest) in
    upper_on _ _ (ap swapped c.self.view_is) c.args.topic c.topic-marks.result book.0 c.ranking-second.result.now c.ranking-first.result.now c.args.high.now.names c.topic-marks.ensures book.1 c.ranking-second.ensures.ranking
    c.ranking-first.ensures.ranking c.new-high.result listed _ _ read c.upper_ends-ends.ensures.high
