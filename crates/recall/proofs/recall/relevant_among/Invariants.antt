use Rattle.std.proofs.Common.{◌≡◌, ◌≤◌, take, count_by, false}
use Rattle.desk_model.specs.Completion.{with_picked}
use Rattle.recall.proofs.recall.relevant_among.Given as goal

abbrev pub invariant-loop-doc : goal.invariant-loop-doc
invariant-loop-doc l = record {
  count : l.relevant ≡ count_by (with_picked l.marks (λ _. false)) (take l.doc-index l.doc-items);
  few : l.relevant ≤ l.doc-index;
}
