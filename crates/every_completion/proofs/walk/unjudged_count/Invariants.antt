use Rattle.std.proofs.Common.{◌≡◌, ◌≤◌, take, count_by}
use Rattle.desk_model.specs.Mark.{is_unjudged}
use Rattle.every_completion.proofs.walk.unjudged_count.Given as goal

abbrev pub invariant-loop-mark : goal.invariant-loop-mark
invariant-loop-mark l = (l.n ≡ count_by is_unjudged (take l.mark-index l.marks)) × (l.n ≤ l.mark-index)
