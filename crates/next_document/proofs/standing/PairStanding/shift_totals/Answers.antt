use Rattle.std.proofs.Common.{ℕ, [], length, get_or, ap, sym, ◌∙◌, subst, arith}
use Rattle.std.proofs.lemmas.Option.{get_or_from_slice_get}
use Rattle.desk_model.specs.Desk.{ranking_of}
use Rattle.desk_model.proofs.DeskTopics.{length-marks}
use Rattle.next_document.proofs.Weighing.{met_at, same_weights}
use Rattle.measure_core.specs.Shifts.{HaveRoom, AreShifted}
use Rattle.next_document.proofs.standing.PairStanding.shift_totals.Goals as goal

pub topic-requires : goal.topic-requires
topic-requires g c = omega (arith, length-marks c.args.self.now.topic.standing.on.desk.now c.args.self.now.topic.standing.on.marks.now c.args.self.now.topic.standing.on.marked, c.args.self.now.topic.known)

pub shift_weights-requires-clause-met : goal.shift_weights-requires-clause-met
shift_weights-requires-clause-met g c =
    rw (c.ranking-a.ensures.ranking, c.ranking-b.ensures.ranking)
    (met_at c.args.self.now.topic.standing.on.desk.now c.args.self.now.topic.standing.on.marks.now c.valid.ensures c.args.self.now.topic.standing.on.marked c.args.self.now.pair.first c.args.self.now.pair.second c.args.self.now.topic.number c.topic.result.now c.args.self.now.first c.args.self.now.second c.topic.ensures)

pub shift_weights-requires-clause-count : goal.shift_weights-requires-clause-count
shift_weights-requires-clause-count g c = c.requires.count ∙ ap length (get_or_from_slice_get c.args.self.now.topic.standing.on.marks.now c.args.self.now.topic.number c.topic.result.now [] c.topic.ensures)

pub shift_weights-requires-clause-room : goal.shift_weights-requires-clause-room
shift_weights-requires-clause-room g c =
    subst (λ (w : ℕ → ℕ). HaveRoom c.args.shift w c.args.totals.now)
    (same_weights (g.M.Measure.measured c.args.self.now.topic.standing.measure.now) c.topic.result.now (get_or c.args.self.now.topic.standing.on.marks.now c.args.self.now.topic.number []) c.ranking-a.result.now c.ranking-b.result.now (ranking_of c.args.self.now.topic.standing.on.desk.now c.args.self.now.pair.first c.args.self.now.topic.number)
    (ranking_of c.args.self.now.topic.standing.on.desk.now c.args.self.now.pair.second c.args.self.now.topic.number) (get_or_from_slice_get c.args.self.now.topic.standing.on.marks.now c.args.self.now.topic.number c.topic.result.now [] c.topic.ensures) c.ranking-a.ensures.ranking c.ranking-b.ensures.ranking)
    c.requires.room

pub returns : goal.returns
returns g c =
    subst (λ (w : ℕ → ℕ). AreShifted c.args.shift w c.args.totals.now c.shift_weights.new.totals)
    (sym
    (same_weights (g.M.Measure.measured c.args.self.now.topic.standing.measure.now) c.topic.result.now (get_or c.args.self.now.topic.standing.on.marks.now c.args.self.now.topic.number []) c.ranking-a.result.now c.ranking-b.result.now (ranking_of c.args.self.now.topic.standing.on.desk.now c.args.self.now.pair.first c.args.self.now.topic.number)
    (ranking_of c.args.self.now.topic.standing.on.desk.now c.args.self.now.pair.second c.args.self.now.topic.number) (get_or_from_slice_get c.args.self.now.topic.standing.on.marks.now c.args.self.now.topic.number c.topic.result.now [] c.topic.ensures) c.ranking-a.ensures.ranking c.ranking-b.ensures.ranking))
    c.shift_weights.ensures
