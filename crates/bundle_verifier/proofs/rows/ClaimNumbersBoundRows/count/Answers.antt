use Rattle.std.proofs.Common.{length, sym, ap, ◌∙◌, arith}
use Rattle.order_bundle.specs.Evidence.{named_bound}
use Rattle.bundle_verifier.proofs.Zipped.{length_rows}
use Rattle.bundle_verifier.proofs.rows.ClaimNumbersBoundRows.count.Goals as goal

pub overflow_cast-result : goal.overflow_cast-result
overflow_cast-result c =
    let rows = length_rows named_bound c.self.inside.topics.now c.self.inside.bounds.now c.self.invariant in
    let view = ap length c.self.view_is in
    omega (arith, c.requires, rows, view)

pub returns : goal.returns
returns c = sym (length_rows named_bound c.self.inside.topics.now c.self.inside.bounds.now c.self.invariant) ∙ ap length c.self.view_is
