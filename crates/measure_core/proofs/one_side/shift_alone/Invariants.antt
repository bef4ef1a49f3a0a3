use Rattle.std.proofs.Common.{ℕ, take, not}
use Rattle.desk_model.specs.Ranking.{is_in}
use Rattle.measure_core.proofs.Alone.{AreBalancedFrom}
use Rattle.measure_core.proofs.one_side.shift_alone.Given as goal

abbrev pub invariant-loop-doc : goal.invariant-loop-doc
invariant-loop-doc l = AreBalancedFrom (λ (doc : ℕ). not (is_in (take l.k l.other) doc)) l.doc-items l.shift l.initial.totals l.doc-index l.totals
