use Rattle.std.proofs.Common.{◌≡◌, ◌+◌, drop}
use Rattle.std.specs.List.{position_from}
use Rattle.desk_model.specs.Completion.{with_picked}
use Rattle.recip_rank.proofs.firsts.first_rank.Given as goal

abbrev pub invariant-loop-place : goal.invariant-loop-place
invariant-loop-place l = position_from (with_picked l.marks (λ _. l.picked)) 1 l.docs ≡ position_from (with_picked l.marks (λ _. l.picked)) (1 + l.place) (drop l.place l.docs)
