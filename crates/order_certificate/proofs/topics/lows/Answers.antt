use Rattle.std.proofs.Common.{◌∷◌, [], ◌∙◌, ap, subst, arith, List, ℕ, Err}
use Rattle.std.proofs.lemmas.Result.{err_from_is_err_and}
use Rattle.line_forms.specs.Reading.{BeginsWith, IsReading}
use Rattle.line_forms.specs.Rows.{last_name}
use Rattle.line_forms.proofs.Loops.{one_read, rest_unread}
use Rattle.order_certificate.specs.Certificate.{low_line}
use Rattle.order_certificate.specs.Places.{low_place}
use Rattle.order_certificate.specs.declared.certificate.TopicBound.{TopicBound}
use Rattle.order_certificate.proofs.RowKinds.{low_kind, LowFollows}
use Rattle.order_certificate.proofs.topics.lows.Goals as goal

pub returns-in_err-bound : goal.returns-in_err-bound
returns-in_err-bound c =
    let p = err_from_is_err_and c.from_residual.result c.from_residual.ensures.1 in
    let bounds = c.loop-alloc.bounds.items in
    let last = c.last_bound.ensures ∙ ap (last_name (λ (b : TopicBound). b.topic)) c.as_slice.ensures.value in
    let fails = subst (λ z. IsReading (low_place z) c.loop-alloc.lines.rest (Err c.in_err-bound.field-0.0) c.low_line.new.lines) last c.in_err-bound.ensures in
    let size = c.len.ensures in
    let test = c.loop-alloc-test.true in
    rw (p.1, p.2) (rest_unread low_place (λ (_ : List ℕ) (b : TopicBound). b.topic) (λ (b : TopicBound). low_line b ∷ []) LowFollows low_kind c.args.count [] c.args.lines.now.rest bounds c.loop-alloc.lines.rest c.low_line.new.lines c.in_err-bound.field-0.0 c.loop-alloc.invariant (omega arith) fails)

pub loop-alloc-preserved : goal.loop-alloc-preserved
loop-alloc-preserved c =
    let bounds = c.loop-alloc.bounds.items in
    let last = c.last_bound.ensures ∙ ap (last_name (λ (b : TopicBound). b.topic)) c.as_slice.ensures.value in
    let here = subst (λ z. BeginsWith (low_place z) c.loop-alloc.lines.rest c.in_ok-bound.bound c.low_line.new.lines.rest) last c.in_ok-bound.ensures in
    let size = c.len.ensures in
    let test = c.loop-alloc-test.true in
    one_read low_place (λ (_ : List ℕ) (b : TopicBound). b.topic) (λ (b : TopicBound). low_line b ∷ []) LowFollows low_kind c.args.count [] c.args.lines.now.rest bounds c.push.new.self.items c.in_ok-bound.bound c.loop-alloc.lines.rest c.low_line.new.lines.rest c.loop-alloc.invariant (omega arith) here c.in_ok-push.ensures.items
