use Rattle.std.proofs.Common.{length, arith}
use Rattle.desk_model.specs.declared.placed.Placed.{Placed}
use Rattle.measure_core.proofs.Walking.{left_whole, doc_within}
use Rattle.measure_core.proofs.Placing.{placed_more}
use Rattle.measure_core.proofs.ranked_rows.place_ranks.Goals as goal

abbrev nowhere : Placed
nowhere = record { doc = 0; rank = 0 }

pub bounds-ranks-place : goal.bounds-ranks-place
bounds-ranks-place c =
    let places = c.by_doc-place-items in
    let n = length c.args.ranks.now in
    let within = doc_within n c.loop-place.place-index places.result.now nowhere (left_whole n c.args.ranking.now places.result.now c.requires places.ensures.ascending places.ensures.ranks) c.loop-place-test.true in
    omega (arith, within, c.loop-place.auto.ranks, c.fill.auto.self)

pub loop-place-preserved : goal.loop-place-preserved
loop-place-preserved c =
    let places = c.by_doc-place-items in
    placed_more (length c.args.ranks.now) c.loop-place.place-index c.args.ranking.now places.result.now c.loop-place.ranks nowhere c.requires places.ensures.ascending places.ensures.ranks
    (omega (arith, c.loop-place.auto.ranks, c.fill.auto.self)) c.loop-place-test.true c.loop-place.invariant
