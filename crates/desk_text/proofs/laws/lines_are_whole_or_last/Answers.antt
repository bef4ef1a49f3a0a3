use Rattle.desk_text.proofs.WholeLines.{lines-whole_lines}
use Rattle.desk_text.proofs.laws.lines_are_whole_or_last.Goals as goal

pub returns : goal.returns
returns c = lines-whole_lines
