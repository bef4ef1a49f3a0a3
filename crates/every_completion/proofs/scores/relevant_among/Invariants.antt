use Rattle.std.proofs.Common.{◌≡◌, ◌≤◌, take, count_by, false}
use Rattle.desk_model.specs.Completion.{with_picked}
use Rattle.every_completion.proofs.scores.relevant_among.Given as goal

abbrev pub invariant-loop-doc : goal.invariant-loop-doc
invariant-loop-doc l = (l.n ≡ count_by (with_picked l.of.marks.now (λ _. false)) (take l.doc-index l.prefix)) × (l.n ≤ l.doc-index)
