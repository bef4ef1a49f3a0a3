use Rattle.judge_session.proofs.Lines.{bad_from, bad_to}
use Rattle.judge_session.proofs.line_laws.bad_lines_are_of_no_form.Goals as goal

pub returns : goal.returns
returns c = λ line. (bad_from line, λ (short, filled, none). bad_to line short filled none)
