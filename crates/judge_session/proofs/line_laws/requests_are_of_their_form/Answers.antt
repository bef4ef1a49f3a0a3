use Rattle.judge_session.proofs.Lines.{asks, asked}
use Rattle.judge_session.proofs.line_laws.requests_are_of_their_form.Goals as goal

pub returns : goal.returns
returns c = λ line request. (asks line request, asked line request)
