use Rattle.std.proofs.Common.{◌≡◌, Bool, true, false, [], length, get_or, ap, sym, ◌∙◌, arith}
use Rattle.std.specs.Prelude.{◌||◌}
use Rattle.std.proofs.lemmas.Option.{get_or_from_slice_get}
use Rattle.desk_model.specs.Desk.{ranking_of}
use Rattle.next_document.proofs.Weighing.{met_at, same_weight, unheld}
use Rattle.next_document.proofs.standing.PairStanding.weight_of.Goals as goal
use Rattle.next_document.proofs.standing.PairStanding.weight_of.Goals.{then-holders-pair, else-holders-pair}

pub weight-requires-clause-met : goal.weight-requires-clause-met
weight-requires-clause-met g c =
    rw (c.ranking-a.ensures.ranking, c.ranking-b.ensures.ranking)
    (met_at c.args.self.now.topic.standing.on.desk.now c.args.self.now.topic.standing.on.marks.now c.valid.ensures c.args.self.now.topic.standing.on.marked c.args.self.now.pair.first c.args.self.now.pair.second c.args.self.now.topic.number c.topic.result.now c.args.self.now.first c.args.self.now.second c.topic.ensures)

pub weight-requires-clause-known : goal.weight-requires-clause-known
weight-requires-clause-known g c =
    let here = ap length (get_or_from_slice_get c.args.self.now.topic.standing.on.marks.now c.args.self.now.topic.number c.topic.result.now [] c.topic.ensures) in
    omega (arith, here, c.requires.doc)

pub returns-then-holders-pair-2 : goal.returns-then-holders-pair-2
returns-then-holders-pair-2 g c =
    let marks = c.args.self.now.topic.standing.on.marks.now in
    let desk = c.args.self.now.topic.standing.on.desk.now in
    same_weight (g.M.Measure.measured c.args.self.now.topic.standing.measure.now) c.topic.result.now (get_or marks c.args.self.now.topic.number []) c.ranking-a.result.now c.ranking-b.result.now (ranking_of desk c.args.self.now.pair.first c.args.self.now.topic.number)
    (ranking_of desk c.args.self.now.pair.second c.args.self.now.topic.number) c.args.doc c.weight.result c.weight.ensures (get_or_from_slice_get marks c.args.self.now.topic.number c.topic.result.now [] c.topic.ensures) c.ranking-a.ensures.ranking
    c.ranking-b.ensures.ranking

-- neither of the two runs has the document
pub returns-else-holders-pair-2 : goal.returns-else-holders-pair-2
returns-else-holders-pair-2 g c =
    let holders = c.args.holders.now in
    let none : (get_or holders c.args.self.now.pair.first false || get_or holders c.args.self.now.pair.second false) ≡ false = elim c.if-holders-pair.branch [
      | then-holders-pair w ↦ let has : true ≡ c.if-holders-pair.value = sym w.if-holders-pair.true ∙ sym w.value-is in let no : c.if-holders-pair.value ≡ false = c.if-holders-pair-2.false in absurd (cc)
      | else-holders-pair w ↦ ap (λ (b : Bool). b || get_or holders c.args.self.now.pair.second false) w.if-holders-pair.false ∙ sym w.value-is ∙ c.if-holders-pair-2.false
    ] in
    sym (unheld (g.M.Measure.measured c.args.self.now.topic.standing.measure.now) c.args.self.now.topic.standing.on.desk.now (get_or c.args.self.now.topic.standing.on.marks.now c.args.self.now.topic.number []) holders c.args.self.now.pair.first c.args.self.now.pair.second c.args.self.now.topic.number c.args.doc c.requires.holders
    c.args.self.now.first c.args.self.now.second none)
