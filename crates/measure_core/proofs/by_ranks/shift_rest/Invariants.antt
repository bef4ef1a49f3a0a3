use Rattle.std.proofs.Common.{ℕ, Option, [], drop}
use Rattle.desk_model.specs.Placed.{lookup}
use Rattle.measure_core.proofs.Walking.{AreBalanced}
use Rattle.measure_core.proofs.by_ranks.shift_rest.Given as goal

abbrev pub invariant-loop-place : goal.invariant-loop-place
invariant-loop-place g l =
    let worth = g.W.RankWorth.worth l.ranks in
    AreBalanced (λ (x _ : Option ℕ). worth x) (g.met.W.RankWorth.absent l.ranks) l.shift (λ (doc : ℕ). worth (lookup l.places doc)) l.initial.totals (drop l.place-index l.places) [] l.totals
