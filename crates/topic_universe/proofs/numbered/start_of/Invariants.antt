use Rattle.std.proofs.Common.{◌≡◌, ◌-◌, ◌^◌, ◌<◌, drop}
use Rattle.topic_universe.proofs.Starts.{spelt}
use Rattle.topic_universe.proofs.numbered.start_of.Given as goal

abbrev pub invariant-loop-i : goal.invariant-loop-i
invariant-loop-i l = record { small : l.start < 256 ^ l.i; spells : spelt (16 - l.i) l.start (drop l.i l.name) ≡ spelt 16 0 l.name }
