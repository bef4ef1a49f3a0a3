use Rattle.std.proofs.Common.{◌≡◌, Some, refl, subst}
use Rattle.std.specs.Prelude.{slice_get}
use Rattle.std.proofs.lemmas.Option.{slice_get_within}
use Rattle.desk_model.specs.Book.{IsBook}
use Rattle.desk_model.proofs.Nested.{get_or-there}
use Rattle.desk_model.proofs.PairPlace.{there}
use Rattle.order_verifier.specs.Refusal.{Compared}
use Rattle.topic_ends.proofs.DeskPlaces.{marks_within}
use Rattle.order_verifier.proofs.Topics.{topic_inside, topic_on}
use Rattle.order_verifier.proofs.comparison.Comparison.topic_book.Goals as goal

pub topic-requires : goal.topic-requires
topic-requires c = topic_inside _ _ c.self.view_is c.self.invariant.0.known c.args.topic c.requires

pub returns-clause-book : goal.returns-clause-book
returns-clause-book c = subst (λ (w : Compared). slice_get w.desk.topics c.args.topic ≡ Some c.topic.result.now) c.self.view_is c.topic.ensures

pub returns-clause-docs : goal.returns-clause-docs
returns-clause-docs c =
    let marks = there c.self.inside.marks.now c.args.topic (marks_within c.self.inside.desk.now c.self.inside.marks.now c.self.invariant.0.known c.args.topic
    (topic_inside _ _ c.self.view_is c.self.invariant.0.known c.args.topic c.requires)) in
    topic_on _ _ c.self.view_is c.args.topic marks.0 c.topic.result.now marks.1 c.topic.ensures (λ _ n. c.topic.result.now.docs ≡ n.docs) refl

pub returns-clause-ascending : goal.returns-clause-ascending
returns-clause-ascending c =
    let books = c.self.inside.desk.now.topics in
    let book = c.topic.result.now in
    (subst IsBook (get_or-there books c.args.topic book book c.topic.ensures) (c.self.invariant.0.whole.books c.args.topic book (slice_get_within books c.args.topic book c.topic.ensures))).ascending
