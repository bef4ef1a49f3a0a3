use Rattle.std.proofs.Common.{◌≡◌, ℕ, List, length, subst}
use Rattle.desk_model.specs.Ranking.{IsRanking}
use Rattle.desk_model.specs.declared.types.Mark.{Mark}
use Rattle.measure_laws.specs.AverageEnds.{high_case, low_case}
use Rattle.measure_laws.specs.Parts.{high_average, low_average}
use Rattle.precision_candidates.specs.Runs.{AreChosen}
use Rattle.average_precision.proofs.pair.known_run.Goals as goal

pub crossed-own-requires : goal.crossed-own-requires
crossed-own-requires g c =
    let run = c.chosen-run.result.now in
    subst (λ (ms : List Mark). IsRanking (length ms) run.on.docs.now) c.chosen-run.ensures.marks run.on.ranking

pub returns : goal.returns
returns g c =
    let marks = g.C.Classes.marks c.args.classes.now in
    let docs = g.C.Classes.run c.args.classes.now in
    let run = c.chosen-run.result.now in
    let are : AreChosen marks docs run.chosen =
    subst (λ (ms : List Mark). AreChosen ms docs run.chosen) c.chosen-run.ensures.marks (subst (λ (ds : List ℕ). AreChosen run.on.marks.now ds run.chosen) c.chosen-run.ensures.run run.are) in
    record {
      lo = are.low.value;
      hi = are.high.value;
      low_in_high = subst (λ (ds : List ℕ). c.crossed-own.result.in_high ≡ low_average (length marks) (high_case marks docs) ds) c.chosen-run.ensures.run c.crossed-own.ensures.in_high;
      high_in_low = subst (λ (ds : List ℕ). c.crossed-own.result.in_low ≡ high_average (length marks) (low_case marks docs) ds) c.chosen-run.ensures.run c.crossed-own.ensures.in_low;
    }
