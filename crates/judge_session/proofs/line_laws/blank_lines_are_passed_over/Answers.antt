use Rattle.judge_session.proofs.Lines.{blank_from, blank_to}
use Rattle.judge_session.proofs.line_laws.blank_lines_are_passed_over.Goals as goal

pub returns : goal.returns
returns c = λ line. (blank_from line, blank_to line)
