use Rattle.judge_session.proofs.Finding.{full_at_limit}
use Rattle.judge_session.proofs.laws.history_is_full_at_its_limit.Goals as goal

pub returns : goal.returns
returns c desk who topic doc changes session = full_at_limit desk who topic doc changes session
