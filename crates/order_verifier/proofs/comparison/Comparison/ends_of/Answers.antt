use Rattle.std.proofs.Common.{◌≡◌, refl, ap, sym, subst, ◌∙◌}
use Rattle.order_certificate.specs.Evidence.{AreUnjudged}
use Rattle.order_verifier.specs.Checks.{OfTopic}
use Rattle.order_verifier.specs.CompletionEnds.{IsHighEnd, IsLowEnd}
use Rattle.order_verifier.specs.Refusal.{IsFirstOther, topics_in}
use Rattle.order_verifier.specs.Rows.{ListedOn}
use Rattle.order_verifier.proofs.Topics.{of_topic}
use Rattle.order_verifier.proofs.comparison.Comparison.ends_of.Goals as goal

pub returns-in-Some-first_other_flagged : goal.returns-in-Some-first_other_flagged
returns-in-Some-first_other_flagged c = λ w low high.
    let of = c.in-Some-first_other_flagged.ensures.other in
    let unjudged = of_topic (topics_in c.args.self.now) c.args.topic of.0 of.1 c.in_default.ensures.other in
    (of.0, of.1, (refl, subst (AreUnjudged of.0) (sym low) unjudged, subst (λ ns. IsFirstOther of.0 ns c.in-Some-first_other_flagged.document) (sym high) of.2))

pub completion_ends-requires-clause-low_topic : goal.completion_ends-requires-clause-low_topic
completion_ends-requires-clause-low_topic c =
    let of = c.in_default.ensures.other in
    let docs = of_topic (topics_in c.args.self.now) c.args.topic of.0 of.1 c.requires.low.on in
    subst (λ (l : ListedOn). OfTopic (topics_in c.args.self.now) c.args.topic (λ t. (l.docs ≡ t.docs) × AreUnjudged t l.names)) (sym c.flagged-low.ensures) (of.0, of.1, (docs, of.2))

pub completion_ends-requires-clause-high_topic : goal.completion_ends-requires-clause-high_topic
completion_ends-requires-clause-high_topic c =
    let of = c.in_default-first_other_flagged.ensures.other in
    let docs = of_topic (topics_in c.args.self.now) c.args.topic of.0 of.1 c.requires.high.on in
    subst (λ (l : ListedOn). OfTopic (topics_in c.args.self.now) c.args.topic (λ t. (l.docs ≡ t.docs) × AreUnjudged t l.names)) (sym c.flagged-high.ensures) (of.0, of.1, (docs, of.2))

pub returns : goal.returns
returns c = λ w low high.
    let v = c.args.self.now in
    let of = c.in_default.ensures.other in
    let t = of.0 in
    let low_names = ap (λ (l : ListedOn). l.names) c.flagged-low.ensures ∙ sym low in
    let high_names = ap (λ (l : ListedOn). l.names) c.flagged-high.ensures ∙ sym high in
    let ends = c.completion_ends.result in
    let are = c.completion_ends.ensures in (
      t,
      of.1,
      record {
        unjudged = (subst (AreUnjudged t) (sym low) of.2, subst (AreUnjudged t) (sym high) (of_topic (topics_in v) c.args.topic t of.1 c.in_default-first_other_flagged.ensures.other));
        low = subst (λ names. IsLowEnd v ends.low (record w { low = names }, t)) low_names (of_topic (topics_in v) c.args.topic t of.1 are.low);
        high = subst (λ names. IsHighEnd v ends.high (record w { high = names }, t)) high_names (of_topic (topics_in v) c.args.topic t of.1 are.high);
        low_modest = are.low_modest;
        high_modest = are.high_modest;
      },
    )
