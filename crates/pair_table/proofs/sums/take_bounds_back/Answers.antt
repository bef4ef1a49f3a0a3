use Rattle.std.proofs.Common.{◌≡◌, ◌+◌, List, length, get_or, pos, ap, sym, ◌∙◌, subst, arith}
use Rattle.std.specs.List.{zip}
use Rattle.std.proofs.lemmas.Option.{slice_get-get_or}
use Rattle.small_lemmas.proofs.Lists.{slice_get-zip}
use Rattle.desk_model.proofs.Nested.{length-zip}
use Rattle.desk_model.specs.Limits.{TOPIC_LIMIT}
use Rattle.topic_counts.specs.declared.span.Span.{Span}
use Rattle.pair_table.specs.Kept.{each_with, without_span, SpanIsWithin}
use Rattle.measure_core.proofs.Filling.{refilled_none, refilled_here, refilled_more, filled_whole}
use Rattle.pair_table.proofs.sums.take_bounds_back.Goals as goal

abbrev nothing : Span
nothing = record { lo = pos 0; hi = pos 0 }

abbrev step : Span × Span → Span
step p = without_span p.0 p.1

pub loop-run-init : goal.loop-run-init
loop-run-init c = record { refilled = refilled_none step (λ _. Unit {0}) (zip c.args.sums.now c.bounds-bounds.result.now) c.args.sums.now }

pub span_minus-requires-clause-sums : goal.span_minus-requires-clause-sums
span_minus-requires-clause-sums c =
    let here : get_or c.loop-run.sums c.loop-run.run nothing ≡ get_or c.args.sums.now c.loop-run.run nothing =
    refilled_here _ _ _ c.loop-run.sums c.args.sums.now c.loop-run.run nothing c.loop-run.invariant.refilled in
    subst (SpanIsWithin (TOPIC_LIMIT + 1)) (sym here) (c.requires.near c.loop-run.run nothing (omega arith))

pub loop-run-preserved : goal.loop-run-preserved
loop-run-preserved c =
    let sums : List Span = c.args.sums.now in
    let bounds : List Span = c.bounds-bounds.result.now in
    let run = c.loop-run.run in
    let here : get_or c.loop-run.sums run nothing ≡ get_or sums run nothing = refilled_here _ _ _ c.loop-run.sums sums run nothing c.loop-run.invariant.refilled in
    let made = c.span_minus.ensures ∙ ap (λ s. without_span s (get_or bounds run nothing)) here in
    record {
      refilled = refilled_more step (λ _. Unit {0}) (zip sums bounds) c.loop-run.sums sums run (get_or sums run nothing, get_or bounds run nothing) c.span_minus.result (omega arith) c.loop-run.invariant.refilled
          (slice_get-zip sums bounds run _ _ (slice_get-get_or sums run nothing (omega arith)) (slice_get-get_or bounds run nothing (omega (arith, c.requires.count, ap length c.bounds-bounds.ensures.bounds)))) made tt;
    }

pub returns : goal.returns
returns c =
    let sums = c.args.sums.now in
    let bounds = c.bounds-bounds.result.now in
    let count = c.requires.count ∙ sym (ap length c.bounds-bounds.ensures.bounds) in
    (filled_whole step (λ _. Unit {0}) (zip sums bounds) c.loop-run.sums c.loop-run.run (omega arith) (omega (arith, length-zip sums bounds (sym count))) c.loop-run.invariant.refilled.filled).0
    ∙ ap (each_with without_span sums) c.bounds-bounds.ensures.bounds
