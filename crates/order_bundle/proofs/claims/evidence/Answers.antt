use Rattle.std.proofs.Common.{length, subst, sym, Err}
use Rattle.std.proofs.lemmas.Result.{err_from_is_err_and}
use Rattle.line_forms.specs.Form.{Whole}
use Rattle.line_forms.specs.Reading.{IsReading}
use Rattle.line_forms.proofs.Sequel.{stop_reads, made_reads}
use Rattle.order_certificate.specs.declared.places.Claim.{Claim}
use Rattle.order_bundle.specs.Places.{both_bounds_places, bound_places, evidence_places, topic_picks_places}
use Rattle.order_bundle.specs.declared.bundle.PairEvidence.TheVariants.{Above, Equal, Open}
use Rattle.order_bundle.proofs.ClaimRows.{both_bounds_plain, bounds_plain, topic_picks_plain}
use Rattle.order_bundle.proofs.claims.evidence.Goals as goal

pub returns-in_err-lower-in-Above : goal.returns-in_err-lower-in-Above
returns-in_err-lower-in-Above c =
    let p = err_from_is_err_and c.from_residual.result c.from_residual.ensures.1 in
    let n = length c.args.topics.now in
    rw (p.1, p.2) (subst (λ (z : Claim). IsReading (evidence_places c.args.topics.now z) c.args.lines.now.rest (Err c.in_err-lower-in-Above.field-0.0) c.bounds.new.lines) (sym c.in-Above.is) (stop_reads (bound_places n) (λ bs. Whole (Above bs)) c.args.lines.now.rest c.bounds.new.lines c.in_err-lower-in-Above.field-0.0 (bounds_plain n) c.in_err-lower-in-Above.ensures))

pub returns-in_err-both-in-Equal : goal.returns-in_err-both-in-Equal
returns-in_err-both-in-Equal c =
    let p = err_from_is_err_and c.from_residual-in_err-both-in-Equal.result c.from_residual-in_err-both-in-Equal.ensures.1 in
    let n = length c.args.topics.now in
    rw (p.1, p.2) (subst (λ (z : Claim). IsReading (evidence_places c.args.topics.now z) c.args.lines.now.rest (Err c.in_err-both-in-Equal.field-0.0) c.both_bounds.new.lines) (sym c.in-Equal.is) (stop_reads (both_bounds_places n) (λ bs. Whole (Equal bs)) c.args.lines.now.rest c.both_bounds.new.lines c.in_err-both-in-Equal.field-0.0 (both_bounds_plain n) c.in_err-both-in-Equal.ensures))

pub returns-in_err-lists-in-Open : goal.returns-in_err-lists-in-Open
returns-in_err-lists-in-Open c =
    let p = err_from_is_err_and c.from_residual-in_err-lists-in-Open.result c.from_residual-in_err-lists-in-Open.ensures.1 in
    let topics = c.args.topics.now in
    rw (p.1, p.2) (subst (λ (z : Claim). IsReading (evidence_places topics z) c.args.lines.now.rest (Err c.in_err-lists-in-Open.field-0.0) c.topic_picks.new.lines) (sym c.in-Open.is) (stop_reads (topic_picks_places topics) (λ ps. Whole (Open ps)) c.args.lines.now.rest c.topic_picks.new.lines c.in_err-lists-in-Open.field-0.0 (topic_picks_plain topics c.requires) c.in_err-lists-in-Open.ensures))

pub returns-in_ok-lower-in-Above : goal.returns-in_ok-lower-in-Above
returns-in_ok-lower-in-Above c = rw c.in-Above.is (made_reads (bound_places (length c.args.topics.now)) Above c.args.lines.now.rest c.bounds.new.lines.rest c.in_ok-lower-in-Above.lower c.in_ok-lower-in-Above.ensures)

pub returns-in_ok-both-in-Equal : goal.returns-in_ok-both-in-Equal
returns-in_ok-both-in-Equal c = rw c.in-Equal.is (made_reads (both_bounds_places (length c.args.topics.now)) Equal c.args.lines.now.rest c.both_bounds.new.lines.rest c.in_ok-both-in-Equal.both c.in_ok-both-in-Equal.ensures)

pub returns-in_ok-lists-in-Open : goal.returns-in_ok-lists-in-Open
returns-in_ok-lists-in-Open c = rw c.in-Open.is (made_reads (topic_picks_places c.args.topics.now) Open c.args.lines.now.rest c.topic_picks.new.lines.rest c.in_ok-lists-in-Open.lists c.in_ok-lists-in-Open.ensures)
