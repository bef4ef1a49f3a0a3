use Rattle.std.proofs.Common.{ℕ, List, subst, sym, ap, ◌∙◌}
use Rattle.desk_model.specs.declared.types.Mark.{Mark}
use Rattle.measure_core.specs.Laws.{SpanIsModest}
use Rattle.pair_table.specs.TopicUnder.{place_of, topic_of}
use Rattle.pair_table.proofs.DeskTopics.{one_of_met}
use Rattle.pair_table.proofs.numbers.bounds_at.Goals as goal

pub bounds-requires : goal.bounds-requires
bounds-requires g c = one_of_met c.marks.result.now (place_of c.args.topic.now) c.args.run c.ranking.result.now c.marks.ensures.met c.requires c.ranking.ensures

pub returns-clause-bounds : goal.returns-clause-bounds
returns-clause-bounds g c =
    let bounds = g.M.Measure.bounds_of c.args.measure.now in
    c.bounds.ensures ∙ ap (λ (m : List Mark). bounds m c.ranking.result.now) c.marks.ensures.marks ∙ ap (λ (r : List ℕ). bounds (topic_of c.args.topic.now).marks r) c.ranking.ensures

pub returns-clause-modest : goal.returns-clause-modest
returns-clause-modest g c named =
    subst SpanIsModest (sym c.bounds.ensures) ((g.met.M.Measure.laws c.args.measure.now named).bounds_modest c.marks.result.now c.ranking.result.now
    (one_of_met c.marks.result.now (place_of c.args.topic.now) c.args.run c.ranking.result.now c.marks.ensures.met c.requires c.ranking.ensures))
