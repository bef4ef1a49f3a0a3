use Rattle.std.proofs.Common.{◌≡◌, take, subst, arith, ◌≤ℤ◌, ◌<ℤ◌}
use Rattle.std.specs.List.{AllByRecursion, zip}
use Rattle.std.proofs.lemmas.Int.{ints}
use Rattle.std.proofs.lemmas.List.{take_all}
use Rattle.std.proofs.lemmas.Slice.Zip.{length-zip}
use Rattle.order_certificate.specs.declared.certificate.TopicBound.{TopicBound}
use Rattle.order_verifier.specs.Refusal.{HasLow, HasGreaterLow, topics_in}
use Rattle.order_verifier.proofs.NumbersOnTopics.{bound_more, bound_fails}
use Rattle.order_verifier.proofs.FirstFailing.{all_pairs}
use Rattle.order_verifier.proofs.comparison.Comparison.first_low_too_great.Goals as goal

pub returns-then-low-least_low : goal.returns-then-low-least_low
returns-then-low-least_low g c =
    let v = c.args.self.now in
    let row = c.low-low.ensures in
    let over : c.least_low.result <ℤ c.low-low.result = omega (arith, ints, c.if-low-least_low.true) in
    let greater : c.least_low.result <ℤ row.0.low = subst (λ z. c.least_low.result <ℤ z) row.2 over in
    bound_fails v (g.N.BoundRows.bounds c.args.numbers.now) c.loop-topic.topic row.0 (λ ends. c.least_low.result ≡ ends.least_lo) row.1 c.least_low.ensures (HasLow v) (HasGreaterLow v)
    (λ t e. (e.0, e.1, subst (λ z. z <ℤ row.0.low) e.2 greater)) c.loop-topic.invariant

pub loop-topic-preserved : goal.loop-topic-preserved
loop-topic-preserved g c =
    let v = c.args.self.now in
    let row = c.low-low.ensures in
    let under : c.low-low.result ≤ℤ c.least_low.result = omega (arith, ints, c.if-low-least_low.false) in
    let within : row.0.low ≤ℤ c.least_low.result = subst (λ z. z ≤ℤ c.least_low.result) row.2 under in
    bound_more v (g.N.BoundRows.bounds c.args.numbers.now) c.loop-topic.topic row.0 (λ ends. c.least_low.result ≡ ends.least_lo) row.1 c.least_low.ensures (HasLow v)
    (λ t e. ((e.0, e.1, subst (λ z. row.0.low ≤ℤ z) e.2 within), tt)) c.loop-topic.invariant

pub returns : goal.returns
returns g c =
    let v = c.args.self.now in
    let bounds = g.N.BoundRows.bounds c.args.numbers.now in
    let pairs = zip bounds (topics_in v) in
    let whole : take c.loop-topic.topic pairs ≡ pairs = take_all c.loop-topic.topic pairs (omega (arith, length-zip bounds (topics_in v), c.requires.topics, c.count-topic-end.ensures)) in
    all_pairs _ (λ (b : TopicBound). b.low) bounds (topics_in v) c.requires.topics (subst (AllByRecursion (HasLow v)) whole c.loop-topic.invariant)
