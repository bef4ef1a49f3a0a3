use Rattle.std.proofs.Common.{List, ℕ, map}
use Rattle.std.specs.Prelude.{Vec}
use Rattle.std.specs.declared.alloc.Global.{Global}
use Rattle.topics_pool.proofs.Ranked.{AreRankedBefore}
use Rattle.topics_pool.proofs.rankings.rank_topic.Given as goal

abbrev pub invariant-loop-r : goal.invariant-loop-r
invariant-loop-r l =
    AreRankedBefore l.r l.runs l.book (map (λ (each : Vec (List ℕ) Global). each.items) l.fn.rankings) (map (λ (each : Vec (List ℕ) Global). each.items) l.rankings)
