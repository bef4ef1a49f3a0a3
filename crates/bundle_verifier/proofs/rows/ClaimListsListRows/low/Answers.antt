use Rattle.std.proofs.Common.{◌≡◌, ◌<◌, true, length, map, Some, ap, sym, subst, ◌∙◌, arith}
use Rattle.order_certificate.specs.declared.certificate.TopicWitness.{TopicWitness}
use Rattle.order_bundle.specs.Evidence.{name_at, named_lists}
use Rattle.order_bundle.specs.declared.bundle.TopicNames.{TopicNames}
use Rattle.order_verifier.specs.Rows.{OfRow, names_listed, numbers_of}
use Rattle.bundle_verifier.specs.Rows.{AreNumbersOn, PickRows, witnesses_of}
use Rattle.bundle_verifier.proofs.Zipped.{row_there, row_within}
use Rattle.bundle_verifier.proofs.rows.ClaimListsListRows.low.Goals as goal

one_row : {x y : TopicNames} → Some x ≡ Some y → x ≡ y
one_row p = cc

pub item_at-row-requires : goal.item_at-row-requires
item_at-row-requires c =
    let within = row_within named_lists c.self.inside.topics.now c.self.inside.picks.now c.self.invariant c.args.topic (subst (λ (rows : PickRows). c.args.topic < length (witnesses_of rows)) (sym c.self.view_is) c.requires.topic) in
    omega (arith, within, c.self.invariant)

pub item_at-lists-requires : goal.item_at-lists-requires
item_at-lists-requires c =
    row_within named_lists c.self.inside.topics.now c.self.inside.picks.now c.self.invariant c.args.topic (subst (λ (rows : PickRows). c.args.topic < length (witnesses_of rows)) (sym c.self.view_is) c.requires.topic)

pub documents_of-requires : goal.documents_of-requires
documents_of-requires c = λ ns there.
    let docs = c.args.book.now.docs in
    let suits = subst (λ (rows : PickRows). AreNumbersOn rows c.args.topic docs) (sym c.self.view_is) c.requires.suits in
    suits c.item_at-row.result.now ns c.item_at-row.ensures there ∙ ap (numbers_of docs) (sym c.as_slice-names.ensures)

pub returns : goal.returns
returns c =
    let docs = c.args.book.now.docs in
    let within = row_within named_lists c.self.inside.topics.now c.self.inside.picks.now c.self.invariant c.args.topic (subst (λ (rows : PickRows). c.args.topic < length (witnesses_of rows)) (sym c.self.view_is) c.requires.topic) in
    let picks = c.item_at-lists.result.now in
    let row = row_there named_lists c.self.inside.topics.now c.self.inside.picks.now c.self.invariant c.args.topic picks within c.item_at-lists.ensures in
    let same : c.item_at-row.result.now ≡ row.0 = one_row (sym c.item_at-row.ensures ∙ row.1) in
    let own : c.as_slice-names.result.now ≡ row.0.docs = c.as_slice-names.ensures ∙ ap (λ (t : TopicNames). t.docs) same in
    let names : names_listed c.as_slice-names.result.now c.as_slice-picks.result.now true ≡ map (name_at row.0.docs) picks.low =
    ap (λ ns. names_listed ns c.as_slice-picks.result.now true) own ∙ ap (λ ks. names_listed row.0.docs ks true) c.as_slice-picks.ensures in
    let listed : c.documents_of.result ≡ record { docs = docs; names = map (name_at row.0.docs) picks.low } = c.documents_of.ensures ∙ ap (λ ns. record { docs = docs; names = ns }) names in
    subst (λ (rows : PickRows). OfRow (witnesses_of rows) c.args.topic (λ (w : TopicWitness). c.documents_of.result ≡ record { docs = docs; names = w.low })) c.self.view_is (named_lists (row.0, picks), row.2, listed)
