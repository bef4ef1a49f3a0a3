use Rattle.std.proofs.Common.{◌≡◌, ◌≤◌, count_by, false}
use Rattle.std.specs.List.{range_with_len}
use Rattle.desk_model.specs.Completion.{with_picked}
use Rattle.every_completion.proofs.scores.relevant_count.Given as goal

abbrev pub invariant-loop-doc : goal.invariant-loop-doc
invariant-loop-doc l = (l.n ≡ count_by (with_picked l.marks (λ _. false)) (range_with_len 0 l.doc)) × (l.n ≤ l.doc)
