use Rattle.std.proofs.Common.{◌≡◌, ◌≤◌, ◌*◌, take, not}
use Rattle.std.specs.Prelude.{sum_by}
use Rattle.std.specs.List.{count_by}
use Rattle.desk_model.specs.Limits.{DOCUMENT_LIMIT}
use Rattle.desk_model.specs.Mark.{is_unjudged}
use Rattle.demo_desk.proofs.summary.judged.Given as goal

abbrev pub invariant-loop-topic : goal.invariant-loop-topic
invariant-loop-topic l = (l.count ≡ sum_by (λ topic. count_by (λ mark. not (is_unjudged mark)) topic) (take l.topic l.marks)) × (l.count ≤ l.topic * DOCUMENT_LIMIT)
