use Rattle.std.proofs.Common.{◌≡◌, ◌+◌, ◌*◌, ◌^◌, ◌≤◌, take, arith, ap, sym, subst, ◌∙◌, ◌+ℤ◌, to_z, of_z}
use Rattle.std.specs.Prelude.{unsigned_abs}
use Rattle.std.specs.Int.{w128}
use Rattle.std.proofs.lemmas.Int.{ints}
use Rattle.std.proofs.lemmas.List.Elements.{recursion_from_All}
use Rattle.desk_model.specs.Verdict.{whole_sum}
use Rattle.line_forms.specs.Places.{IsShortNumber}
use Rattle.order_certificate.specs.Evidence.{highs_of}
use Rattle.order_certificate.specs.declared.certificate.TopicBound.{TopicBound}
use Rattle.small_lemmas.proofs.Lists.{all_there}
use Rattle.order_verifier.proofs.NumbersOnTopics.{sum_more}
use Rattle.order_verifier.proofs.bounds.high_sum.Goals as goal

pub loop-topic-preserved : goal.loop-topic-preserved
loop-topic-preserved g c =
    let bounds = g.N.BoundRows.bounds c.args.numbers.now in
    let i = c.loop-topic.topic in
    let z = c.high-high.result in
    let row = c.high-high.ensures in
    let sized : IsShortNumber z = subst IsShortNumber (sym row.2) (all_there (λ (b : TopicBound). IsShortNumber b.high) bounds i row.0 (recursion_from_All (λ (b : TopicBound). IsShortNumber b.high) bounds c.requires.sizes) row.1) in
    let more = sum_more (λ (b : TopicBound). b.high) bounds i row.0 row.1 in
    let within = c.loop-topic.invariant.1 in
    let before = to_z w128 c.loop-topic.sum-bits in
    let sum : to_z w128 (of_z w128 (before +ℤ to_z w128 (of_z w128 z))) ≡ before +ℤ z = omega (arith, ints, within, sized, c.requires.few) in
    let size : unsigned_abs (before +ℤ z) ≤ (i + 1) * 10 ^ 19 = omega (arith, ints, within, sized) in
    (sum ∙ ap (λ s. s +ℤ z) c.loop-topic.invariant.0 ∙ ap (λ s. whole_sum (highs_of (take i bounds)) +ℤ s) row.2 ∙ sym more, subst (λ s. unsigned_abs s ≤ (i + 1) * 10 ^ 19) (sym sum) size)
