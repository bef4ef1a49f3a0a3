use Rattle.std.proofs.Common.{◌≡◌, ◌*◌}
use Rattle.run_reader.specs.Run.{IsWithinLimits}
use Rattle.demo_desk.specs.Draws.{state_after}
use Rattle.demo_desk.proofs.Said.{AreSaid}
use Rattle.demo_desk.proofs.demo.read_rankings.Given as goal

abbrev pub invariant-loop-run : goal.invariant-loop-run
invariant-loop-run l = record {
  said : AreSaid l.fn.generator l.run l.qrels l.used l.runs.items;
  state : l.generator ≡ state_after l.fn.generator (25050 * l.run);
  within : IsWithinLimits l.used;
}
