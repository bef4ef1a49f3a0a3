use Rattle.std.proofs.Common.{subst, sym, Err}
use Rattle.std.proofs.lemmas.Result.{err_from_is_err_and}
use Rattle.line_forms.specs.Form.{Whole}
use Rattle.line_forms.specs.Reading.{IsReading}
use Rattle.line_forms.specs.Rows.{named_rows}
use Rattle.line_forms.proofs.Sequel.{made_reads, stop_reads}
use Rattle.order_certificate.specs.Places.{low_place, low_high_place, witness_places, claim_rows}
use Rattle.order_certificate.specs.declared.places.Claim.{Claim}
use Rattle.order_certificate.specs.declared.certificate.Evidence.TheVariants.{Above, Equal, Open}
use Rattle.order_certificate.proofs.RowKinds.{bound_name, witness_name, lows_plain, lows_and_highs_plain, witnesses_plain}
use Rattle.order_certificate.proofs.topics.rows_of.Goals as goal

pub returns-in_err-lower-in-Above : goal.returns-in_err-lower-in-Above
returns-in_err-lower-in-Above c =
    let p = err_from_is_err_and c.from_residual.result c.from_residual.ensures.1 in
    rw (p.1, p.2) (subst (λ (z : Claim). IsReading (claim_rows z c.args.count) c.args.lines.now.rest (Err c.in_err-lower-in-Above.field-0.0) c.lows.new.lines) (sym c.in-Above.is)
    (stop_reads (named_rows low_place bound_name c.args.count) (λ vs. Whole (Above vs)) c.args.lines.now.rest c.lows.new.lines c.in_err-lower-in-Above.field-0.0 (lows_plain c.args.count) c.in_err-lower-in-Above.ensures))

pub returns-in_ok-lower-in-Above : goal.returns-in_ok-lower-in-Above
returns-in_ok-lower-in-Above c = rw c.in-Above.is (made_reads (named_rows low_place bound_name c.args.count) Above c.args.lines.now.rest c.lows.new.lines.rest c.in_ok-lower-in-Above.lower c.in_ok-lower-in-Above.ensures)

pub returns-in_err-bounds-in-Equal : goal.returns-in_err-bounds-in-Equal
returns-in_err-bounds-in-Equal c =
    let p = err_from_is_err_and c.from_residual-in_err-bounds-in-Equal.result c.from_residual-in_err-bounds-in-Equal.ensures.1 in
    rw (p.1, p.2) (subst (λ (z : Claim). IsReading (claim_rows z c.args.count) c.args.lines.now.rest (Err c.in_err-bounds-in-Equal.field-0.0) c.lows_and_highs.new.lines) (sym c.in-Equal.is)
    (stop_reads (named_rows low_high_place bound_name c.args.count) (λ vs. Whole (Equal vs)) c.args.lines.now.rest c.lows_and_highs.new.lines c.in_err-bounds-in-Equal.field-0.0 (lows_and_highs_plain c.args.count) c.in_err-bounds-in-Equal.ensures))

pub returns-in_ok-bounds-in-Equal : goal.returns-in_ok-bounds-in-Equal
returns-in_ok-bounds-in-Equal c = rw c.in-Equal.is (made_reads (named_rows low_high_place bound_name c.args.count) Equal c.args.lines.now.rest c.lows_and_highs.new.lines.rest c.in_ok-bounds-in-Equal.bounds c.in_ok-bounds-in-Equal.ensures)

pub returns-in_err-lists-in-Open : goal.returns-in_err-lists-in-Open
returns-in_err-lists-in-Open c =
    let p = err_from_is_err_and c.from_residual-in_err-lists-in-Open.result c.from_residual-in_err-lists-in-Open.ensures.1 in
    rw (p.1, p.2) (subst (λ (z : Claim). IsReading (claim_rows z c.args.count) c.args.lines.now.rest (Err c.in_err-lists-in-Open.field-0.0) c.witnesses.new.lines) (sym c.in-Open.is)
    (stop_reads (named_rows witness_places witness_name c.args.count) (λ vs. Whole (Open vs)) c.args.lines.now.rest c.witnesses.new.lines c.in_err-lists-in-Open.field-0.0 (witnesses_plain c.args.count) c.in_err-lists-in-Open.ensures))

pub returns-in_ok-lists-in-Open : goal.returns-in_ok-lists-in-Open
returns-in_ok-lists-in-Open c = rw c.in-Open.is (made_reads (named_rows witness_places witness_name c.args.count) Open c.args.lines.now.rest c.witnesses.new.lines.rest c.in_ok-lists-in-Open.lists c.in_ok-lists-in-Open.ensures)
