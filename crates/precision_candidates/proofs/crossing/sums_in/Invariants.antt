use Rattle.std.proofs.Common.{◌≡◌, ◌+◌, map, drop, not}
use Rattle.desk_model.specs.Precisions.{true_ranks}
use Rattle.measure_laws.specs.AverageEnds.{high_case, low_case}
use Rattle.measure_laws.specs.Parts.{ranked_sum}
use Rattle.precision_candidates.specs.Sums.{IsBefore, whole, worth_of}
use Rattle.precision_candidates.proofs.crossing.sums_in.Given as goal

abbrev pub invariant-loop-doc : goal.invariant-loop-doc
invariant-loop-doc g l = record {
  rank : l.rank ≡ l.doc-index + 1;
  high_before : IsBefore l.rank l.in_high;
  low_before : IsBefore l.rank l.in_low;
  high : whole (worth_of l.outward) l.in_high l.rank (map (high_case (g.C.Classes.marks l.classes) (g.C.Classes.run l.classes)) (drop l.doc-index l.docs)) ≡ ranked_sum (worth_of l.outward) 1 (true_ranks 1 (map (high_case (g.C.Classes.marks l.classes) (g.C.Classes.run l.classes)) l.docs));
  low : whole (worth_of (not l.outward)) l.in_low l.rank (map (low_case (g.C.Classes.marks l.classes) (g.C.Classes.run l.classes)) (drop l.doc-index l.docs)) ≡ ranked_sum (worth_of (not l.outward)) 1 (true_ranks 1 (map (low_case (g.C.Classes.marks l.classes) (g.C.Classes.run l.classes)) l.docs));
}
