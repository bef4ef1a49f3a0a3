use Rattle.std.proofs.lemmas.Result.{err_from_is_err_and}
use Rattle.line_forms.proofs.Sequel.{then_reads, stop_reads}
use Rattle.order_bundle.specs.Places.{after_version, version_place}
use Rattle.order_bundle.proofs.Either.{version_plain}
use Rattle.order_bundle.proofs.reading.certificate_with.Goals as goal

pub returns-in_err-version : goal.returns-in_err-version
returns-in_err-version c =
    let p = err_from_is_err_and c.from_residual.result c.from_residual.ensures.1 in
    rw (p.1, p.2) (stop_reads version_place (after_version c.args.depths) c.args.lines.now.rest c.version_line.new.lines c.in_err-version.field-0.0 version_plain c.in_err-version.ensures)

pub returns : goal.returns
returns c = then_reads version_place (after_version c.args.depths) c.args.lines.now.rest c.version_line.new.lines.rest c.in_ok-version.version c.after_version.new.lines c.after_version.result version_plain c.in_ok-version.ensures c.after_version.ensures
