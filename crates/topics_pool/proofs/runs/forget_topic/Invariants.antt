use Rattle.topics_pool.proofs.Forgetting.{ForgetBefore}
use Rattle.topics_pool.proofs.runs.forget_topic.Given as goal

abbrev pub invariant-loop-r : goal.invariant-loop-r
invariant-loop-r l = ForgetBefore l.topic l.r l.fn.runs l.runs
