use Rattle.std.proofs.Common.{[], ◌∙◌, ap, subst, arith, List, ℕ, Err}
use Rattle.std.proofs.lemmas.Result.{err_from_is_err_and}
use Rattle.line_forms.specs.Reading.{BeginsWith, IsReading}
use Rattle.line_forms.specs.Rows.{last_name}
use Rattle.line_forms.proofs.Loops.{one_read, rest_unread}
use Rattle.order_certificate.specs.Certificate.{witness_lines}
use Rattle.order_certificate.specs.Places.{witness_places}
use Rattle.order_certificate.specs.declared.certificate.TopicWitness.{TopicWitness}
use Rattle.order_certificate.proofs.RowKinds.{witness_kind, ListsFollow}
use Rattle.order_certificate.proofs.topics.witnesses.Goals as goal

pub returns-in_err-next : goal.returns-in_err-next
returns-in_err-next c =
    let p = err_from_is_err_and c.from_residual.result c.from_residual.ensures.1 in
    let witnesses = c.loop-alloc.witnesses.items in
    let last = c.last_witness.ensures ∙ ap (last_name (λ (w : TopicWitness). w.topic)) c.as_slice.ensures.value in
    let fails = subst (λ z. IsReading (witness_places z) c.loop-alloc.lines.rest (Err c.in_err-next.field-0.0) c.witness.new.lines) last c.in_err-next.ensures in
    let size = c.len.ensures in
    let test = c.loop-alloc-test.true in
    rw (p.1, p.2) (rest_unread witness_places (λ (_ : List ℕ) (w : TopicWitness). w.topic) witness_lines ListsFollow witness_kind c.args.count [] c.args.lines.now.rest witnesses c.loop-alloc.lines.rest c.witness.new.lines c.in_err-next.field-0.0 c.loop-alloc.invariant (omega arith) fails)

pub loop-alloc-preserved : goal.loop-alloc-preserved
loop-alloc-preserved c =
    let witnesses = c.loop-alloc.witnesses.items in
    let last = c.last_witness.ensures ∙ ap (last_name (λ (w : TopicWitness). w.topic)) c.as_slice.ensures.value in
    let here = subst (λ z. BeginsWith (witness_places z) c.loop-alloc.lines.rest c.in_ok-next.next c.witness.new.lines.rest) last c.in_ok-next.ensures in
    let size = c.len.ensures in
    let test = c.loop-alloc-test.true in
    one_read witness_places (λ (_ : List ℕ) (w : TopicWitness). w.topic) witness_lines ListsFollow witness_kind c.args.count [] c.args.lines.now.rest witnesses c.push.new.self.items c.in_ok-next.next c.loop-alloc.lines.rest c.witness.new.lines.rest c.loop-alloc.invariant (omega arith) here c.in_ok-push.ensures.items
