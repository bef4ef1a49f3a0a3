use Rattle.std.proofs.Common.{◌≡◌, ◌+◌, drop, false}
use Rattle.std.specs.List.{position_from}
use Rattle.desk_model.specs.Completion.{with_picked}
use Rattle.every_completion.proofs.scores.first_relevant.Given as goal

abbrev pub invariant-loop-place : goal.invariant-loop-place
invariant-loop-place l = position_from (with_picked l.of.marks.now (λ _. false)) 1 l.of.docs.now ≡ position_from (with_picked l.of.marks.now (λ _. false)) (1 + l.place) (drop l.place l.of.docs.now)
