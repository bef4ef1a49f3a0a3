use Rattle.desk_text.proofs.WholeLines.{keeps_on}
use Rattle.desk_text.proofs.laws.pushes_keep_the_line.Goals as goal

pub returns : goal.returns
returns c = keeps_on
