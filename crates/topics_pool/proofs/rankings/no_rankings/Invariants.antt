use Rattle.std.proofs.Common.{ℕ, List, [], take, map}
use Rattle.std.specs.Prelude.{Vec}
use Rattle.std.specs.List.{AllZip}
use Rattle.std.specs.declared.alloc.Global.{Global}
use Rattle.topics_pool.specs.Made.{AreRankingsOf}
use Rattle.topics_pool.proofs.rankings.no_rankings.Given as goal

abbrev pub invariant-loop-run : goal.invariant-loop-run
invariant-loop-run l = AllZip (AreRankingsOf []) (take l._run-index l.runs) (map (λ (each : Vec (List ℕ) Global). each.items) l.rankings.items)
