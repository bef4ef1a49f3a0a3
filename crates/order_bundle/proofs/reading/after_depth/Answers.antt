use Rattle.std.proofs.Common.{subst, sym, Err}
use Rattle.std.proofs.lemmas.Result.{err_from_is_err_and}
use Rattle.line_forms.specs.Form.{Whole}
use Rattle.line_forms.specs.Reading.{IsReading}
use Rattle.line_forms.proofs.Sequel.{stop_reads, made_reads}
use Rattle.order_certificate.specs.Places.{from_first}
use Rattle.order_bundle.specs.Places.{after_depth, from_runs}
use Rattle.order_bundle.specs.declared.any_certificate.Version.{Version}
use Rattle.order_bundle.proofs.Either.{from_first_plain, many_under, one_under}
use Rattle.order_bundle.proofs.WholeBundles.{from_runs_plain}
use Rattle.order_bundle.proofs.reading.after_depth.Goals as goal

pub returns-in_err-certificate-in-One : goal.returns-in_err-certificate-in-One
returns-in_err-certificate-in-One c =
    let p = err_from_is_err_and c.from_residual.result c.from_residual.ensures.1 in
    let m = c.args.measure in
    let l = c.args.level in
    let d = c.args.depth in
    rw (p.1, p.2) (subst (λ (v : Version). IsReading (after_depth v m l d) c.args.lines.now.rest (Err c.in_err-certificate-in-One.field-0.0) c.from_first.new.lines) (sym c.in-One.is) (stop_reads (from_first m l) (λ x. Whole (one_under d x)) c.args.lines.now.rest c.from_first.new.lines c.in_err-certificate-in-One.field-0.0 (from_first_plain m l) c.in_err-certificate-in-One.ensures))

pub returns-in_err-bundle-in-Many : goal.returns-in_err-bundle-in-Many
returns-in_err-bundle-in-Many c =
    let p = err_from_is_err_and c.from_residual-in_err-bundle-in-Many.result c.from_residual-in_err-bundle-in-Many.ensures.1 in
    let m = c.args.measure in
    let l = c.args.level in
    let d = c.args.depth in
    rw (p.1, p.2) (subst (λ (v : Version). IsReading (after_depth v m l d) c.args.lines.now.rest (Err c.in_err-bundle-in-Many.field-0.0) c.from_runs.new.lines) (sym c.in-Many.is) (stop_reads (from_runs m l) (λ x. Whole (many_under d x)) c.args.lines.now.rest c.from_runs.new.lines c.in_err-bundle-in-Many.field-0.0 (from_runs_plain m l) c.in_err-bundle-in-Many.ensures))

pub returns-in_ok-certificate-in-One : goal.returns-in_ok-certificate-in-One
returns-in_ok-certificate-in-One c = rw c.in-One.is (made_reads (from_first c.args.measure c.args.level) (one_under c.args.depth) c.args.lines.now.rest c.from_first.new.lines.rest c.in_ok-certificate-in-One.certificate c.in_ok-certificate-in-One.ensures)

pub returns-in_ok-bundle-in-Many : goal.returns-in_ok-bundle-in-Many
returns-in_ok-bundle-in-Many c = rw c.in-Many.is (made_reads (from_runs c.args.measure c.args.level) (many_under c.args.depth) c.args.lines.now.rest c.from_runs.new.lines.rest c.in_ok-bundle-in-Many.bundle c.in_ok-bundle-in-Many.ensures)
