use Rattle.std.proofs.Common.{◌≡◌, ℕ, ◌<◌, ◌≤◌, false, length, get_or}
use Rattle.judge_session.specs.InForce.{is_live_on}
use Rattle.judge_session.specs.declared.change.Change.{Change}
use Rattle.judge_session.proofs.marking.last_on.Given as goal

abbrev pub invariant-loop-place : goal.invariant-loop-place
invariant-loop-place l = record {
  within : l.place ≤ length l.changes;
  after : (k : ℕ) (d : Change) → l.place ≤ k → k < length l.changes → is_live_on l.topic l.doc (get_or l.changes k d) ≡ false;
}

abbrev pub decreases-loop-place : goal.decreases-loop-place
decreases-loop-place l = l.place
