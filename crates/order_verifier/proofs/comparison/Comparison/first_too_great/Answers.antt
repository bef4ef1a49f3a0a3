use Rattle.std.proofs.Common.{◌≡◌, take, ap, sym, ◌∙◌, subst, arith, inl, inr, ◌⊎◌, ◌≤ℤ◌, ◌<ℤ◌}
use Rattle.std.specs.List.{AllByRecursion, zip}
use Rattle.std.specs.Prelude.{Some}
use Rattle.std.proofs.lemmas.Int.{ints}
use Rattle.std.proofs.lemmas.List.{take_all}
use Rattle.std.proofs.lemmas.Slice.Zip.{length-zip}
use Rattle.desk_model.specs.Extremes.{Ends}
use Rattle.order_certificate.specs.declared.certificate.TopicBound.{TopicBound}
use Rattle.order_verifier.specs.Refusal.{HasLow, HasHigh, HasGreaterLow, HasSmallerHigh, OfEnds, topics_in}
use Rattle.order_verifier.specs.declared.comparison.OuterEnds.{OuterEnds}
use Rattle.order_verifier.proofs.NumbersOnTopics.{bound_more, bound_fails}
use Rattle.order_verifier.proofs.FirstFailing.{all_pairs, firsts, seconds}
use Rattle.order_verifier.proofs.comparison.Comparison.first_too_great.Goals as goal
use Rattle.order_verifier.proofs.comparison.Comparison.first_too_great.Goals.{then-low-ends-via-then-low-ends, then-low-ends-via-else-low-ends+then-high-ends}

-- the outer ends are those of two runs
abbrev AreOuter : OuterEnds → Ends → Type 0
AreOuter r ends = r ≡ record { least_low = ends.least_lo; most_high = ends.most_hi }

-- two rows with one number are one
one_row : {x y : TopicBound} → Some x ≡ Some y → x ≡ y
one_row p = cc

pub returns-then-low-ends : goal.returns-then-low-ends
returns-then-low-ends g c =
    let v = c.args.self.now in
    let r = c.outer_ends-ends.result in
    let low = c.low-low.ensures in
    let high = c.high-high.ensures in
    let bound = low.0 in
    let same : high.0 ≡ bound = one_row (sym high.1 ∙ low.1) in
    let is_high : c.high-high.result ≡ bound.high = high.2 ∙ ap (λ (b : TopicBound). b.high) same in
    let beyond : (r.least_low <ℤ c.low-low.result) ⊎ (c.high-high.result <ℤ r.most_high) = elim c.then-low-ends.branch [
      | then-low-ends-via-then-low-ends w ↦ inl (omega (arith, ints, w.if-low-ends.true))
      | then-low-ends-via-else-low-ends+then-high-ends w ↦ inr (omega (arith, ints, w.if-high-ends.true))
    ] in
    let fails : (t : _) → OfEnds v t (AreOuter r) → HasGreaterLow v (bound, t) ⊎ HasSmallerHigh v (bound, t) = λ t e. elim beyond [
      | inl over ↦ inl (e.0, e.1, subst (λ z. z <ℤ bound.low) (ap (λ (o : OuterEnds). o.least_low) e.2) (subst (λ z. r.least_low <ℤ z) low.2 over))
      | inr under ↦ inr (e.0, e.1, subst (λ z. bound.high <ℤ z) (ap (λ (o : OuterEnds). o.most_high) e.2) (subst (λ z. z <ℤ r.most_high) is_high under))
    ] in
    bound_fails v (g.N.BoundRows.bounds c.args.numbers.now) c.loop-topic.topic bound (AreOuter r) low.1 c.outer_ends-ends.ensures (λ p. HasLow v p × HasHigh v p) (λ p. HasGreaterLow v p ⊎ HasSmallerHigh v p) fails c.loop-topic.invariant

pub loop-topic-preserved : goal.loop-topic-preserved
loop-topic-preserved g c =
    let v = c.args.self.now in
    let r = c.outer_ends-ends.result in
    let low = c.low-low.ensures in
    let high = c.high-high.ensures in
    let bound = low.0 in
    let same : high.0 ≡ bound = one_row (sym high.1 ∙ low.1) in
    let is_high : c.high-high.result ≡ bound.high = high.2 ∙ ap (λ (b : TopicBound). b.high) same in
    let under : c.low-low.result ≤ℤ r.least_low = omega (arith, ints, c.if-low-ends.false) in
    let over : r.most_high ≤ℤ c.high-high.result = omega (arith, ints, c.if-high-ends.false) in
    let held_low : bound.low ≤ℤ r.least_low = subst (λ z. z ≤ℤ r.least_low) low.2 under in
    let held_high : r.most_high ≤ℤ bound.high = subst (λ z. r.most_high ≤ℤ z) is_high over in
    bound_more v (g.N.BoundRows.bounds c.args.numbers.now) c.loop-topic.topic bound (AreOuter r) low.1 c.outer_ends-ends.ensures (λ p. HasLow v p × HasHigh v p)
    (λ t e. (
      ((e.0, e.1, subst (λ z. bound.low ≤ℤ z) (ap (λ (o : OuterEnds). o.least_low) e.2) held_low), tt),
      ((e.0, e.1, subst (λ z. z ≤ℤ bound.high) (ap (λ (o : OuterEnds). o.most_high) e.2) held_high), tt),
    )) c.loop-topic.invariant

pub returns : goal.returns
returns g c =
    let v = c.args.self.now in
    let bounds = g.N.BoundRows.bounds c.args.numbers.now in
    let pairs = zip bounds (topics_in v) in
    let whole : take c.loop-topic.topic pairs ≡ pairs = take_all c.loop-topic.topic pairs (omega (arith, length-zip bounds (topics_in v), c.requires.topics, c.count-topic-end.ensures)) in
    let all = subst (AllByRecursion (λ p. HasLow v p × HasHigh v p)) whole c.loop-topic.invariant in (
      all_pairs _ (λ (b : TopicBound). b.low) bounds (topics_in v) c.requires.topics (firsts (HasLow v) (HasHigh v) pairs all),
      all_pairs _ (λ (b : TopicBound). b.high) bounds (topics_in v) c.requires.topics (seconds (HasLow v) (HasHigh v) pairs all),
    )
