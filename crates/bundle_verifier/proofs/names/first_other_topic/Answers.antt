use Rattle.std.proofs.Common.{◌≡◌, ◌+◌, List, ℕ, length, map, take, ap, sym, subst, ◌∙◌, arith, Some}
use Rattle.std.specs.Prelude.{slice_get}
use Rattle.std.specs.List.{AllByRecursion, zip}
use Rattle.std.proofs.lemmas.List.{length-map, take_all}
use Rattle.std.proofs.lemmas.Slice.Zip.{length-zip}
use Rattle.desk_model.specs.Book.{Book}
use Rattle.order_certificate.specs.declared.place.CertificatePlace.TheVariants.{Topic}
use Rattle.order_bundle.specs.declared.bundle.TopicNames.{TopicNames}
use Rattle.order_verifier.specs.Refusal.{HaveWrongTopic, topic_names}
use Rattle.order_verifier.proofs.FirstFailing.{all_more}
use Rattle.order_verifier.proofs.SameNames.{names_differ, names_same, zip_same}
use Rattle.small_lemmas.proofs.Lists.{slice_get-zip, map_there}
use Rattle.topic_ends.proofs.DeskPlaces.{item_there}
use Rattle.bundle_verifier.proofs.names.first_other_topic.Goals as goal

pub returns-then-ne : goal.returns-then-ne
returns-then-ne c =
    let f : TopicNames → List ℕ = λ t. t.topic in
    let name : Book → List ℕ = λ book. book.name in
    let names = map f c.args.topics.now in
    let own = topic_names c.args.desk.now in
    let i = c.loop-item.item-index in
    let inv = c.loop-item.invariant in
    let lengths : length names ≡ length own = length-map c.args.topics.now f ∙ c.requires.count ∙ sym (length-map c.args.desk.now.topics name) in
    let item = map_there f c.args.topics.now i c.item-item.result (item_there c.args.topics.now i c.item-item.result c.loop-item-test.true c.item-item.is) in
    let book = map_there name c.args.desk.now.topics i c.topic.result.now (subst (λ k. slice_get c.args.desk.now.topics k ≡ Some c.topic.result.now) inv.number c.topic.ensures) in
    let differ = names_differ c.as_bytes.result.now c.name.result.now c.ne.result c.ne.ensures c.if-ne.true in
    subst (λ k. HaveWrongTopic names own (Topic k)) (sym inv.number) (
      lengths,
      record {
        before = inv.same;
        item = (f c.item-item.result, c.topic.result.now.name);
        there = slice_get-zip names own i _ _ item book;
        fails = λ same. differ (c.as_bytes.ensures.bytes ∙ same ∙ sym c.name.ensures.name);
      },
    )

pub loop-item-preserved : goal.loop-item-preserved
loop-item-preserved c =
    let f : TopicNames → List ℕ = λ t. t.topic in
    let name : Book → List ℕ = λ book. book.name in
    let names = map f c.args.topics.now in
    let own = topic_names c.args.desk.now in
    let i = c.loop-item.item-index in
    let inv = c.loop-item.invariant in
    let at = item_there c.args.topics.now i c.item-item.result c.loop-item-test.true c.item-item.is in
    let item = map_there f c.args.topics.now i c.item-item.result at in
    let book = map_there name c.args.desk.now.topics i c.topic.result.now (subst (λ k. slice_get c.args.desk.now.topics k ≡ Some c.topic.result.now) inv.number c.topic.ensures) in
    let same = names_same c.as_bytes.result.now c.name.result.now c.ne.result c.ne.ensures c.if-ne.false in
    record {
      number = ap (λ k. k + 1) inv.number;
      same = all_more (λ (p : List ℕ × List ℕ). p.0 ≡ p.1) (zip names own) i (f c.item-item.result, c.topic.result.now.name) inv.same (slice_get-zip names own i _ _ item book) (sym c.as_bytes.ensures.bytes ∙ same ∙ c.name.ensures.name);
    }

pub returns : goal.returns
returns c =
    let f : TopicNames → List ℕ = λ t. t.topic in
    let names = map f c.args.topics.now in
    let own = topic_names c.args.desk.now in
    let name : Book → List ℕ = λ book. book.name in
    let lengths : length names ≡ length own = length-map c.args.topics.now f ∙ c.requires.count ∙ sym (length-map c.args.desk.now.topics name) in
    let pairs = zip names own in
    let whole : take c.loop-item.item-index pairs ≡ pairs = take_all c.loop-item.item-index pairs (omega (arith, length-zip names own, length-map c.args.topics.now f, c.loop-item-test.false)) in
    zip_same names own lengths (subst (AllByRecursion (λ (p : List ℕ × List ℕ). p.0 ≡ p.1)) whole c.loop-item.invariant.same)
