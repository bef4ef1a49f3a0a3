use Rattle.std.proofs.Common.{List, subst}
use Rattle.desk_model.specs.declared.types.Mark.{Mark}
use Rattle.precision_candidates.specs.Runs.{AreChosen}
use Rattle.average_precision.proofs.Ends.{bounds_are}
use Rattle.average_precision.proofs.average_precision.AveragePrecisionMeasure.bounds.Goals as goal

pub returns : goal.returns
returns c =
    let run = c.chosen_run-run.result in
    let are = subst (λ (ms : List Mark). AreChosen ms run.on.docs.now run.chosen) c.chosen_run-run.ensures.marks run.are in
    bounds_are c.args.marks.now c.args.a.now run.on.docs.now run.chosen c.span_between.result.lo c.span_between.result.hi c.chosen_run-run.ensures.docs are c.span_between.ensures.lo c.span_between.ensures.hi
