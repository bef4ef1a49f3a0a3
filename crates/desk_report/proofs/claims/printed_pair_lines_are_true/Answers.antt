use Rattle.desk_report.proofs.Truths.{pairs_true}
use Rattle.desk_report.proofs.claims.printed_pair_lines_are_true.Goals as goal

pub returns : goal.returns
returns c = pairs_true c.numbers_of_two_runs_hold.ensures.sums c.numbers_of_two_runs_hold.ensures.exact c.scoped_certificates_have_texts.ensures.written
