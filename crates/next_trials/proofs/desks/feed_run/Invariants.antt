use Rattle.std.proofs.Common.{◌≡◌}
use Rattle.next_trials.proofs.desks.feed_run.Given as goal

abbrev pub invariant-loop-piece : goal.invariant-loop-piece
invariant-loop-piece l = l.reader.used ≡ l.fn.reader.used
