use Rattle.std.proofs.Common.{ℕ, take, map}
use Rattle.std.specs.Prelude.{Vec, flat_map}
use Rattle.std.specs.List.{AllZip}
use Rattle.std.specs.declared.alloc.Global.{Global}
use Rattle.run_reader.specs.Run.{rows_on_topic}
use Rattle.topic_universe.specs.Names.{AddsNames}
use Rattle.topic_universe.specs.Universe.{retrieved, AreRankedNumbers}
use Rattle.topic_universe.proofs.universe.add_runs.Given as goal

abbrev pub invariant-loop-run : goal.invariant-loop-run
invariant-loop-run l = record {
  names : AddsNames l.fn.names (flat_map (retrieved l.topic) (take l.run-index l.runs)) l.names;
  numbers : AllZip (λ run each. AreRankedNumbers l.names (rows_on_topic run l.topic) each) (take l.run-index l.runs) (map (λ (each : Vec ℕ Global). each.items) l.numbers.items);
}
