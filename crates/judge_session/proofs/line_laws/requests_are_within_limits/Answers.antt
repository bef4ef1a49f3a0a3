use Rattle.judge_session.proofs.Lines.{within}
use Rattle.judge_session.proofs.line_laws.requests_are_within_limits.Goals as goal

pub returns : goal.returns
returns c = within
