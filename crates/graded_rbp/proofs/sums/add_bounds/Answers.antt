use Rattle.std.proofs.Common.{◌≡◌, List, get_or, pos, ap, sym, ◌∙◌, subst, arith}
use Rattle.std.specs.List.{zip}
use Rattle.std.proofs.lemmas.Option.{slice_get-get_or}
use Rattle.small_lemmas.proofs.Lists.{slice_get-zip}
use Rattle.desk_model.proofs.Nested.{length-zip}
use Rattle.topic_counts.specs.declared.span.Span.{Span}
use Rattle.pair_table.specs.Kept.{with_span}
use Rattle.topic_counts.specs.Ends.{IsShort}
use Rattle.measure_core.proofs.Filling.{refilled_none, refilled_here, refilled_more, filled_whole}
use Rattle.graded_rbp.proofs.sums.add_bounds.Goals as goal

abbrev nothing : Span
nothing = record { lo = pos 0; hi = pos 0 }

abbrev step : Span × Span → Span
step p = with_span p.0 p.1

pub loop-run-init : goal.loop-run-init
loop-run-init c = record { refilled = refilled_none step (λ _. Unit {0}) (zip c.args.bounds.now c.args.more.now) c.args.bounds.now }

pub span_plus-requires-clause-sums : goal.span_plus-requires-clause-sums
span_plus-requires-clause-sums c =
    let here : get_or c.loop-run.bounds c.loop-run.run nothing ≡ get_or c.args.bounds.now c.loop-run.run nothing =
    refilled_here _ _ _ c.loop-run.bounds c.args.bounds.now c.loop-run.run nothing c.loop-run.invariant.refilled in
    subst (IsShort) (sym here) (c.requires.near c.loop-run.run nothing (omega arith))

pub loop-run-preserved : goal.loop-run-preserved
loop-run-preserved c =
    let sums : List Span = c.args.bounds.now in
    let more : List Span = c.args.more.now in
    let run = c.loop-run.run in
    let here : get_or c.loop-run.bounds run nothing ≡ get_or sums run nothing = refilled_here _ _ _ c.loop-run.bounds sums run nothing c.loop-run.invariant.refilled in
    let made = c.span_plus.ensures ∙ ap (λ s. with_span s (get_or more run nothing)) here in
    record {
      refilled = refilled_more step (λ _. Unit {0}) (zip sums more) c.loop-run.bounds sums run (get_or sums run nothing, get_or more run nothing) c.span_plus.result (omega arith) c.loop-run.invariant.refilled
          (slice_get-zip sums more run _ _ (slice_get-get_or sums run nothing (omega arith)) (slice_get-get_or more run nothing (omega (arith, c.requires.count)))) made tt;
    }

pub returns : goal.returns
returns c =
    (filled_whole step (λ _. Unit {0}) (zip c.args.bounds.now c.args.more.now) c.loop-run.bounds c.loop-run.run (omega arith)
    (omega (arith, length-zip c.args.bounds.now c.args.more.now (sym c.requires.count))) c.loop-run.invariant.refilled.filled).0
