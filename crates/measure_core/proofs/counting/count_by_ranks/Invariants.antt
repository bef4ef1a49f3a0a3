use Rattle.std.proofs.Common.{◌≡◌, ℕ, ◌+◌, ◌<◌, drop, length, get_or, take, Some}
use Rattle.desk_model.specs.declared.placed.Placed.{Placed}
use Rattle.measure_core.specs.Lists.{placed_documents, times}
use Rattle.measure_core.specs.Worths.{rank_or_none}
use Rattle.measure_core.proofs.counting.count_by_ranks.Given as goal

-- what is counted and what is left to count are all
abbrev pub invariant-loop-place : goal.invariant-loop-place
invariant-loop-place g l =
    let test = λ (p : Placed). g.T.RankTest.test l.test (rank_or_none (get_or l.ranks p.doc 0)) (Some p.rank) in
    let whole = take l.fn.most (placed_documents l.marks test l.place-items) in
    let rest = take l.left (placed_documents l.marks test (drop l.place-index l.place-items)) in
    record {
      size : length l.counts ≡ length l.initial.counts;
      left : l.left + length whole ≡ l.fn.most + length rest;
      counted : (doc : ℕ) → doc < length l.initial.counts → get_or l.counts doc 0 + times rest doc ≡ get_or l.initial.counts doc 0 + times whole doc;
    }
