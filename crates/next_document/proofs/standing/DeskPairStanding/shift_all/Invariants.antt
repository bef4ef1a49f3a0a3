use Rattle.std.proofs.Common.{map}
use Rattle.next_document.specs.Moved.{pair_weights}
use Rattle.next_document.proofs.AllTopics.{AreShiftedBelow}
use Rattle.next_document.proofs.standing.DeskPairStanding.shift_all.Given as goal

abbrev pub invariant-loop-topic : goal.invariant-loop-topic
invariant-loop-topic g l =
    AreShiftedBelow l.shift (pair_weights (g.M.Measure.measured l.self.standing.measure.now) l.self.standing.on.desk.now l.self.standing.on.marks.now l.self.pair) l.topic (map (λ each. each.items) l.initial.totals) (map (λ each. each.items) l.totals)
