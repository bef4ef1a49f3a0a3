use Rattle.judge_session.proofs.Lines.{long_from, long_to}
use Rattle.judge_session.proofs.line_laws.long_lines_are_too_long.Goals as goal

pub returns : goal.returns
returns c = λ line. (long_from line, long_to line)
