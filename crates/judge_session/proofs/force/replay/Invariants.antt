use Rattle.std.proofs.Common.{◌≡◌, ℕ, ◌<◌, length, get_or, take, Option}
use Rattle.std.specs.Prelude.{ℤ}
use Rattle.judge_session.specs.InForce.{counted_grade, grade_after}
use Rattle.judge_session.proofs.force.replay.Given as goal

abbrev pub invariant-loop-change : goal.invariant-loop-change
invariant-loop-change l = (doc : ℕ) (e : Option ℤ) → doc < length l.fn.grades →
    get_or l.grades doc e ≡ counted_grade (grade_after (get_or l.fn.grades doc e) l.topic doc (take l.change-index l.changes))
