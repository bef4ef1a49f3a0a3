use Rattle.desk_text.proofs.WholeLines.{longer-kept_line}
use Rattle.desk_text.proofs.laws.pieces_do_not_matter.Goals as goal

pub returns : goal.returns
returns c = longer-kept_line
