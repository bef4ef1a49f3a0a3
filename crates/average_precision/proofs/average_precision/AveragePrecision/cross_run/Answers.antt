use Rattle.std.proofs.Common.{◌<◌, length, ◌∙◌, arith}
use Rattle.measure_core.specs.Pairs.{ranking_on, runs_on}
use Rattle.average_precision.proofs.CrossedPlaces.{crossed_more, place_within}
use Rattle.average_precision.proofs.Pairing.{crossed_moved}
use Rattle.average_precision.specs.Crossed.{AreCrossed, place_of}
use Rattle.average_precision.proofs.average_precision.AveragePrecision.cross_run.Goals as goal

pub scores_in-requires : goal.scores_in-requires
scores_in-requires c =
    let on = c.args.runs.now.on in
    let within : c.loop-other.other < runs_on on.rankings.now = omega (arith, c.loop-other-test.true, c.runs-count.ensures.count) in
    rw (c.chosen-chosen.ensures.marks, c.docs-docs.ensures.docs, c.ranking.ensures) (on.met.each c.loop-other.other within)

pub loop-other-preserved : goal.loop-other-preserved
loop-other-preserved c =
    let t = c.args.runs.now.on.rankings.now in
    let marks = c.args.runs.now.on.marks.now in
    let run = c.args.run in
    let other = c.loop-other.other in
    let own = c.chosen-chosen.result.on in
    let within : other < runs_on t = omega (arith, c.loop-other-test.true, c.runs-count.ensures.count) in
    let made : AreCrossed marks (ranking_on t run) (ranking_on t other) c.scores_in.result =
    crossed_moved own.marks.now marks own.docs.now (ranking_on t run) c.docs-docs.result.now (ranking_on t other) c.scores_in.result c.chosen-chosen.ensures.marks c.chosen-chosen.ensures.docs (c.docs-docs.ensures.docs ∙ c.ranking.ensures) c.scores_in.ensures.scores.in_high
    c.scores_in.ensures.scores.in_low in
    let room : place_of t run other < length c.loop-other.scores = omega (arith, place_within t run other c.requires.within within, c.requires.room, c.loop-other.auto.scores) in
    rw c.runs-count.ensures.count
    (λ r o h lt none. crossed_more marks t run other c.loop-other.scores c.scores_in.result within room made c.loop-other.invariant r o h (omega (arith, lt)) none)
