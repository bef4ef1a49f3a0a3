use Rattle.std.proofs.Common.{◌≡◌, ◌≤◌, length, drop}
use Rattle.judge_session.specs.Looking.{looked_back}
use Rattle.judge_session.proofs.looking.look_back.Given as goal

abbrev pub invariant-loop-place : goal.invariant-loop-place
invariant-loop-place l = record {
  within : l.place ≤ length l.changes;
  found : l.found ≡ looked_back l.who l.topic l.doc l.place (drop l.place l.changes);
}

abbrev pub decreases-loop-place : goal.decreases-loop-place
decreases-loop-place l = l.place
