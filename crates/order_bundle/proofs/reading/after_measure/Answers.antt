use Rattle.std.proofs.Common.{◌++◌, decimal}
use Rattle.std.specs.Prelude.{codes}
use Rattle.std.proofs.lemmas.Result.{err_from_is_err_and}
use Rattle.line_forms.proofs.Sequel.{then_reads, stop_reads}
use Rattle.line_forms.proofs.Spelling.{one_forth}
use Rattle.order_certificate.specs.Certificate.{IsLevel}
use Rattle.order_certificate.specs.Places.{level_place}
use Rattle.order_certificate.proofs.Whole.{level_plain}
use Rattle.order_bundle.specs.Places.{after_level}
use Rattle.order_bundle.proofs.reading.after_measure.Goals as goal

pub returns-in_err-level : goal.returns-in_err-level
returns-in_err-level c =
    let p = err_from_is_err_and c.from_residual.result c.from_residual.ensures.1 in
    rw (p.1, p.2) (stop_reads level_place (after_level c.args.depths c.args.version c.args.measure) c.args.lines.now.rest c.number_line.new.lines c.in_err-level.field-0.0 level_plain c.in_err-level.ensures)

pub after_level-requires-clause-level : goal.after_level-requires-clause-level
after_level-requires-clause-level c =
    let h = c.in_ok-level.ensures in
    (one_forth (λ level. codes "level " ++ decimal level) IsLevel h.lines c.in_ok-level.level h.spells).0

pub returns : goal.returns
returns c = then_reads level_place (after_level c.args.depths c.args.version c.args.measure) c.args.lines.now.rest c.number_line.new.lines.rest c.in_ok-level.level c.after_level.new.lines c.after_level.result level_plain c.in_ok-level.ensures c.after_level.ensures
