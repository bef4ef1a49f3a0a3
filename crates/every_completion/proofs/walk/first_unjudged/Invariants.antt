use Rattle.std.proofs.Common.{◌≡◌, ◌≤◌, ◌<◌, ℕ, false}
use Rattle.desk_model.specs.Mark.{is_unjudged, mark_at}
use Rattle.every_completion.proofs.walk.first_unjudged.Given as goal

abbrev pub invariant-loop-doc : goal.invariant-loop-doc
invariant-loop-doc l = (d : ℕ) → l.from ≤ d → d < l.doc → is_unjudged (mark_at l.marks d) ≡ false
