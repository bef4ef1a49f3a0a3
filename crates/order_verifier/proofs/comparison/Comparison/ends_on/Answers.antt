use Rattle.std.proofs.Common.{◌≡◌, ℕ, List, All, Some, ap, sym, subst, ◌∙◌}
use Rattle.std.specs.Prelude.{slice_get}
use Rattle.std.proofs.lemmas.List.Elements.{recursion_from_All}
use Rattle.desk_model.specs.Name.{AreAscending}
use Rattle.small_lemmas.proofs.Lists.{all_there}
use Rattle.order_certificate.specs.Certificate.{AreDocuments, AreLists}
use Rattle.order_certificate.specs.declared.certificate.TopicWitness.{TopicWitness}
use Rattle.order_verifier.specs.Checks.{OfTopic}
use Rattle.order_verifier.specs.CompletionEnds.{IsListOn}
use Rattle.order_verifier.specs.Refusal.{Compared, topics_in}
use Rattle.order_verifier.specs.Rows.{ListedOn}
use Rattle.order_verifier.proofs.comparison.Comparison.ends_on.Goals as goal

one_row : {x y : TopicWitness} → Some x ≡ Some y → x ≡ y
one_row p = cc

pub low-low-requires-clause-suits : goal.low-low-requires-clause-suits
low-low-requires-clause-suits g c = c.requires.suits c.args.topic c.topic_book-book.result.now c.topic_book-book.ensures.book

pub high-high-requires-clause-suits : goal.high-high-requires-clause-suits
high-high-requires-clause-suits g c = c.requires.suits c.args.topic c.topic_book-book.result.now c.topic_book-book.ensures.book

-- what a row lists on a topic, where the topic's documents ascend
on_topic : (v : Compared) (topic : ℕ) (docs names : List (List ℕ)) (l : ListedOn) → l ≡ record { docs = docs; names = names } → OfTopic (topics_in v) topic (λ t. docs ≡ t.docs) → AreAscending docs → AreDocuments names → IsListOn v topic l
on_topic v topic docs names l is on up form =
    subst (IsListOn v topic) (sym is) (record { on = on; docs_ascend = up; names_ascend = form.ascending.ascending; few = form.count })

lists_at : (ws : List TopicWitness) → All AreLists ws → (k : ℕ) (w : TopicWitness) → slice_get ws k ≡ Some w → AreLists w
lists_at ws h k w at = all_there AreLists ws k w (recursion_from_All AreLists ws h) at

pub flagged_ends-requires-clause-low : goal.flagged_ends-requires-clause-low
flagged_ends-requires-clause-low g c =
    let row = c.low-low.ensures in
    on_topic c.args.self.now c.args.topic c.topic_book-book.result.now.docs row.0.low c.low-low.result row.2 c.topic_book-book.ensures.docs c.topic_book-book.ensures.ascending (lists_at (g.L.ListRows.witnesses c.args.lists.now) c.requires.lists c.args.topic row.0 row.1).0

pub flagged_ends-requires-clause-high : goal.flagged_ends-requires-clause-high
flagged_ends-requires-clause-high g c =
    let row = c.high-high.ensures in
    on_topic c.args.self.now c.args.topic c.topic_book-book.result.now.docs row.0.high c.high-high.result row.2 c.topic_book-book.ensures.docs c.topic_book-book.ensures.ascending (lists_at (g.L.ListRows.witnesses c.args.lists.now) c.requires.lists c.args.topic row.0 row.1).1

pub ends_of-requires-clause-low : goal.ends_of-requires-clause-low
ends_of-requires-clause-low g c =
    let row = c.low-low.ensures in
    on_topic c.args.self.now c.args.topic c.topic_book-book.result.now.docs row.0.low c.low-low.result row.2 c.topic_book-book.ensures.docs c.topic_book-book.ensures.ascending (lists_at (g.L.ListRows.witnesses c.args.lists.now) c.requires.lists c.args.topic row.0 row.1).0

pub ends_of-requires-clause-high : goal.ends_of-requires-clause-high
ends_of-requires-clause-high g c =
    let row = c.high-high.ensures in
    on_topic c.args.self.now c.args.topic c.topic_book-book.result.now.docs row.0.high c.high-high.result row.2 c.topic_book-book.ensures.docs c.topic_book-book.ensures.ascending (lists_at (g.L.ListRows.witnesses c.args.lists.now) c.requires.lists c.args.topic row.0 row.1).1

pub returns-then-is_long : goal.returns-then-is_long
returns-then-is_long g c =
    let row = c.low-low.ensures in
    let other = c.high-high.ensures in
    let high = ap (λ (w : TopicWitness). w.high) (one_row (sym row.1 ∙ other.1)) ∙ sym (ap (λ (l : ListedOn). l.names) other.2) in
    (row.0, row.1, c.flagged_ends.ensures row.0 (sym (ap (λ (l : ListedOn). l.names) row.2)) high)

pub returns : goal.returns
returns g c =
    let row = c.low-low.ensures in
    let other = c.high-high.ensures in
    let high = ap (λ (w : TopicWitness). w.high) (one_row (sym row.1 ∙ other.1)) ∙ sym (ap (λ (l : ListedOn). l.names) other.2) in
    (row.0, row.1, c.ends_of.ensures row.0 (sym (ap (λ (l : ListedOn). l.names) row.2)) high)
