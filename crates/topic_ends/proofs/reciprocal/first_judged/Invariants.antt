use Rattle.std.proofs.Common.{◌≡◌, ◌+◌, drop, false}
use Rattle.std.specs.List.{position_from}
use Rattle.desk_model.specs.Completion.{with_picked}
use Rattle.topic_ends.proofs.reciprocal.first_judged.Given as goal

abbrev pub invariant-loop-place : goal.invariant-loop-place
invariant-loop-place l = position_from (with_picked l.marks (λ _. false)) 1 l.doc-items ≡ position_from (with_picked l.marks (λ _. false)) (1 + l.place) (drop l.place l.doc-items)
