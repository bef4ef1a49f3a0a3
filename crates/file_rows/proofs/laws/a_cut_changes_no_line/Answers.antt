use Rattle.file_rows.proofs.Cuts.{lines-cut}
use Rattle.file_rows.proofs.laws.a_cut_changes_no_line.Goals as goal

pub returns : goal.returns
returns c = lines-cut
