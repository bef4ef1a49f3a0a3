use Rattle.std.proofs.Common.{◌≡◌, ◌+◌, ◌-◌, ◌≤◌, length, drop, true, false}
use Rattle.desk_model.specs.Completion.{with_picked}
use Rattle.topic_counts.proofs.Walk.{left}
use Rattle.topic_counts.proofs.shared.shared_documents.Given as goal

abbrev pub invariant-loop-i : goal.invariant-loop-i
invariant-loop-i l = record {
  first_in : l.i ≤ length l.first;
  second_in : l.j ≤ length l.second;
  least : l.counts.relevant + left (with_picked l.marks (λ _. false)) l.k (length l.marks) (drop l.i l.first) (drop l.j l.second) ≡ left (with_picked l.marks (λ _. false)) l.k (length l.marks) l.first l.second;
  most : l.counts.relevant + l.counts.unjudged + left (with_picked l.marks (λ _. true)) l.k (length l.marks) (drop l.i l.first) (drop l.j l.second) ≡ left (with_picked l.marks (λ _. true)) l.k (length l.marks) l.first l.second;
}

abbrev pub decreases-loop-i : goal.decreases-loop-i
decreases-loop-i l = (length l.first - l.i) + (length l.second - l.j)
