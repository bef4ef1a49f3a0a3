use Rattle.std.proofs.Common.{◌≡◌, ◌+◌, ◌≤◌, ◌++◌, drop, length, take, None, Some}
use Rattle.desk_model.specs.declared.placed.Placed.{Placed}
use Rattle.measure_core.specs.Lists.{placed_documents}
use Rattle.measure_core.proofs.rank_lists.put_rest.Given as goal

abbrev pub invariant-loop-place : goal.invariant-loop-place
invariant-loop-place g l =
    let test = λ (p : Placed). g.T.RankTest.test l.test None (Some p.rank) in
    record {
      made : take l.count l.docs ++ placed_documents l.marks test (drop l.place-index l.place-items) ≡ take l.before l.initial.docs ++ placed_documents l.marks test l.place-items;
      size : length l.docs ≡ length l.initial.docs;
      room : l.count ≤ l.before + l.place-index;
    }
