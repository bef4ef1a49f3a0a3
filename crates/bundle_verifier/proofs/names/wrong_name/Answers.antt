use Rattle.std.proofs.Common.{◌≡◌, All, ap, subst, ◌∙◌, arith, length}
use Rattle.std.proofs.lemmas.List.{length-map}
use Rattle.desk_model.specs.Book.{Book}
use Rattle.order_certificate.specs.declared.place.CertificatePlace.TheVariants.{Topic}
use Rattle.order_bundle.specs.Bundle.{Bundle}
use Rattle.order_bundle.specs.declared.bundle.TopicNames.{TopicNames}
use Rattle.order_verifier.specs.Refusal.{HaveWrongTopic, topic_names}
use Rattle.bundle_verifier.specs.Refusal.{IsRunOf, names_of_topics}
use Rattle.bundle_verifier.proofs.names.wrong_name.Goals as goal

pub returns-then-topics-count-clause-name : goal.returns-then-topics-count-clause-name
returns-then-topics-count-clause-name c =
    let is_runs = c.as_slice.ensures ∙ ap (λ (v : Bundle). v.runs) c.bundle.view_is in
    let is_topics = c.as_slice-topics.ensures ∙ ap (λ (v : Bundle). v.topics) c.bundle.view_is in (
      subst (All (IsRunOf c.args.desk.now)) is_runs c.in_default.ensures,
      (λ even. omega (arith, even, length-map c.args.bundle.now.topics (λ (t : TopicNames). t.topic), length-map c.args.desk.now.topics (λ (book : Book). book.name), c.topic_count-count.ensures.count, c.if-topics-count.true, ap length is_topics)),
    )

pub returns-in-Some-first_other_topic-clause-name : goal.returns-in-Some-first_other_topic-clause-name
returns-in-Some-first_other_topic-clause-name c =
    let is_runs = c.as_slice.ensures ∙ ap (λ (v : Bundle). v.runs) c.bundle.view_is in
    let is_topics = c.as_slice-topics.ensures ∙ ap (λ (v : Bundle). v.topics) c.bundle.view_is in
    (subst (All (IsRunOf c.args.desk.now)) is_runs c.in_default.ensures, subst (λ ts. HaveWrongTopic (names_of_topics ts) (topic_names c.args.desk.now) (Topic c.in-Some-first_other_topic.topic)) is_topics c.in-Some-first_other_topic.ensures)

pub returns-in-None-clause-name : goal.returns-in-None-clause-name
returns-in-None-clause-name c =
    let is_runs = c.as_slice.ensures ∙ ap (λ (v : Bundle). v.runs) c.bundle.view_is in
    let is_topics = c.as_slice-topics.ensures ∙ ap (λ (v : Bundle). v.topics) c.bundle.view_is in
    (subst (All (IsRunOf c.args.desk.now)) is_runs c.in_default.ensures, subst (λ ts. names_of_topics ts ≡ topic_names c.args.desk.now) is_topics c.in-None.ensures)
