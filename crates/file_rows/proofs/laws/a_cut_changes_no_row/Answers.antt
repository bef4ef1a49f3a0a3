use Rattle.file_rows.proofs.Cuts.{rows_of-cut}
use Rattle.file_rows.proofs.laws.a_cut_changes_no_row.Goals as goal

pub returns : goal.returns
returns c = rows_of-cut
