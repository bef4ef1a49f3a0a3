use Rattle.std.proofs.Common.{◌∷◌, [], arith}
use Rattle.std.proofs.lemmas.Result.{err_from_is_err_and}
use Rattle.line_forms.proofs.Loops.{one_read, rest_unread}
use Rattle.order_bundle.specs.Bundle.{IsLowerBound, bound_line}
use Rattle.order_bundle.specs.Places.{bound_place}
use Rattle.order_bundle.specs.declared.bundle.Bound.{Bound}
use Rattle.order_bundle.proofs.PickRows.{bound_kind, same_key}
use Rattle.order_bundle.proofs.claims.bounds.Goals as goal

pub returns-in_err-bound : goal.returns-in_err-bound
returns-in_err-bound c =
    let p = err_from_is_err_and c.from_residual.result c.from_residual.ensures.1 in
    let size = c.len.ensures in
    let test = c.loop-lines-test.true in
    rw (p.1, p.2) (rest_unread bound_place same_key (λ (b : Bound). bound_line b ∷ []) (λ _ b. IsLowerBound b) bound_kind c.args.topics tt c.args.lines.now.rest c.loop-lines.bounds.items c.loop-lines.lines.rest c.bound_line.new.lines c.in_err-bound.field-0.0 c.loop-lines.invariant (omega arith) c.in_err-bound.ensures)

pub loop-lines-preserved : goal.loop-lines-preserved
loop-lines-preserved c =
    let size = c.len.ensures in
    let test = c.loop-lines-test.true in
    one_read bound_place same_key (λ (b : Bound). bound_line b ∷ []) (λ _ b. IsLowerBound b) bound_kind c.args.topics tt c.args.lines.now.rest c.loop-lines.bounds.items c.push.new.self.items c.in_ok-bound.bound c.loop-lines.lines.rest c.bound_line.new.lines.rest c.loop-lines.invariant (omega arith) c.in_ok-bound.ensures c.in_ok-push.ensures.items
