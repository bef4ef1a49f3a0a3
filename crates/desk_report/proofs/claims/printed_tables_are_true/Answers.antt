use Rattle.desk_report.proofs.Truths.{tables_true}
use Rattle.desk_report.proofs.claims.printed_tables_are_true.Goals as goal

pub returns : goal.returns
returns c = tables_true c.numbers_hold_in_every_completion.ensures.pairs c.numbers_hold_in_every_completion.ensures.runs c.precision_is_exact.ensures c.scoped_certificates_have_texts.ensures.written
