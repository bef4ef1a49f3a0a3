use Rattle.std.proofs.Common.{◌≡◌, ◌<◌, length, sym, subst, ◌∙◌, arith, to_z, of_z}
use Rattle.std.specs.Int.{w128}
use Rattle.std.proofs.lemmas.Int.{ints}
use Rattle.order_certificate.specs.declared.certificate.TopicBound.{TopicBound}
use Rattle.order_bundle.specs.Evidence.{named_bound}
use Rattle.order_verifier.specs.Rows.{OfRow}
use Rattle.bundle_verifier.proofs.Zipped.{row_there, row_within}
use Rattle.bundle_verifier.proofs.rows.ClaimNumbersBoundRows.high.Goals as goal

pub item_at-requires : goal.item_at-requires
item_at-requires c =
    row_within named_bound c.self.inside.topics.now c.self.inside.bounds.now c.self.invariant c.args.topic (subst (λ rows. c.args.topic < length rows) (sym c.self.view_is) c.requires)

pub returns : goal.returns
returns c =
    let within = row_within named_bound c.self.inside.topics.now c.self.inside.bounds.now c.self.invariant c.args.topic (subst (λ rows. c.args.topic < length rows) (sym c.self.view_is) c.requires) in
    let row = row_there named_bound c.self.inside.topics.now c.self.inside.bounds.now c.self.invariant c.args.topic c.item_at.result.now within c.item_at.ensures in
    let read : to_z w128 (of_z w128 c.high_of.result) ≡ c.high_of.result = omega (arith, ints) in
    subst (λ rows. OfRow rows c.args.topic (λ (b : TopicBound). to_z w128 (of_z w128 c.high_of.result) ≡ b.high)) c.self.view_is (named_bound (row.0, c.item_at.result.now), row.2, read ∙ c.high_of.ensures)
