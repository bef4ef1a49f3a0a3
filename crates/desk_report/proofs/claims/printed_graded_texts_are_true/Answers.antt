use Rattle.desk_report.proofs.ByGrades.{graded_true}
use Rattle.desk_report.proofs.claims.printed_graded_texts_are_true.Goals as goal

pub returns : goal.returns
returns c = graded_true c.numbers_hold_by_grades.ensures.pairs c.numbers_hold_by_grades.ensures.runs c.scoped_certificates_have_texts.ensures.written
