use Rattle.std.proofs.Common.{get_or, pos, arith}
use Rattle.std.proofs.lemmas.Option.{slice_get-get_or}
use Rattle.desk_model.specs.Verdict.{verdict}
use Rattle.desk_model.specs.declared.types.Totals.{Totals}
use Rattle.measure_core.proofs.Filling.{filled_none, filled_more, filled_whole}
use Rattle.pair_table.proofs.table_sums.fill_verdicts.Goals as goal

pub loop-place-init : goal.loop-place-init
loop-place-init c = record { filled = filled_none verdict (λ _. Unit {0}) c.args.totals.now c.args.verdicts.now }

abbrev none : Totals
none = record { least_lo = pos 0; least_hi = pos 0; most_lo = pos 0; most_hi = pos 0 }

pub loop-place-preserved : goal.loop-place-preserved
loop-place-preserved c = record {
  filled = filled_more verdict (λ _. Unit {0}) c.args.totals.now c.loop-place.verdicts c.loop-place.place (get_or c.args.totals.now c.loop-place.place none) c.verdict_of.result (omega arith) c.loop-place.invariant.filled
      (slice_get-get_or c.args.totals.now c.loop-place.place none (omega arith)) c.verdict_of.ensures tt;
}

pub returns : goal.returns
returns c = (filled_whole verdict (λ _. Unit {0}) c.args.totals.now c.loop-place.verdicts c.loop-place.place (omega arith) (omega arith) c.loop-place.invariant.filled).0
