use Rattle.std.proofs.Common.{◌≡◌, ◌∷◌, [], ◌++◌, ◌∙◌, ap, sym, subst, arith, Err, None, Some}
use Rattle.std.proofs.lemmas.Result.{err_from_is_err_and}
use Rattle.line_forms.specs.Reading.{BeginsWith, IsReading}
use Rattle.line_forms.specs.Rows.{key_after}
use Rattle.line_forms.proofs.Loops.{key_more, one_read, rest_unread}
use Rattle.order_bundle.specs.Bundle.{IsClaimAfter, claim_lines, last_pair}
use Rattle.order_bundle.specs.Places.{claim_places}
use Rattle.order_bundle.proofs.ClaimRows.{claim_kind}
use Rattle.order_bundle.proofs.claims.each_claim.Goals as goal

pub returns-in_err-next : goal.returns-in_err-next
returns-in_err-next c =
    let p = err_from_is_err_and c.from_residual.result c.from_residual.ensures.1 in
    let claims = c.loop-alloc.claims.items in
    let runs = c.args.runs in
    let topics = c.args.topics.now in
    let fails = subst (λ z. IsReading (claim_places runs topics z) c.loop-alloc.lines.rest (Err c.in_err-next.field-0.0) c.claim.new.lines) c.loop-alloc.invariant.last c.in_err-next.ensures in
    let size = c.len.ensures in
    let test = c.loop-alloc-test.true in
    rw (p.1, p.2) (rest_unread (claim_places runs topics) last_pair claim_lines (IsClaimAfter runs topics) (claim_kind runs topics c.requires.runs c.requires.topics) c.args.count None c.args.lines.now.rest claims c.loop-alloc.lines.rest c.claim.new.lines c.in_err-next.field-0.0 c.loop-alloc.invariant.read (omega arith) fails)

pub loop-alloc-preserved : goal.loop-alloc-preserved
loop-alloc-preserved c =
    let claims = c.loop-alloc.claims.items in
    let runs = c.args.runs in
    let topics = c.args.topics.now in
    let next = c.in_ok-next.next in
    let here = subst (λ z. BeginsWith (claim_places runs topics z) c.loop-alloc.lines.rest next c.claim.new.lines.rest) c.loop-alloc.invariant.last c.in_ok-next.ensures in
    let items : c.push.new.self.items ≡ claims ++ next ∷ [] = c.in_ok-push.ensures.items in
    let size = c.len.ensures in
    let test = c.loop-alloc-test.true in
    record {
      read = one_read (claim_places runs topics) last_pair claim_lines (IsClaimAfter runs topics) (claim_kind runs topics c.requires.runs c.requires.topics) c.args.count None c.args.lines.now.rest claims c.push.new.self.items next c.loop-alloc.lines.rest c.claim.new.lines.rest c.loop-alloc.invariant.read (omega arith) here items;
      last = ap Some c.of.ensures ∙ sym (key_more last_pair None claims next) ∙ ap (key_after last_pair None) (sym items);
    }
