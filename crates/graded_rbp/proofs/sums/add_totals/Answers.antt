use Rattle.std.proofs.Common.{◌≡◌, List, get_or, pos, ap, sym, ◌∙◌, subst, arith}
use Rattle.std.specs.List.{zip}
use Rattle.std.proofs.lemmas.Option.{slice_get-get_or}
use Rattle.small_lemmas.proofs.Lists.{slice_get-zip}
use Rattle.desk_model.proofs.Nested.{length-zip}
use Rattle.desk_model.specs.declared.types.Totals.{Totals}
use Rattle.pair_table.specs.Kept.{AreModestTotals}
use Rattle.graded_rbp.specs.Kept.{with_totals}
use Rattle.measure_core.proofs.Filling.{refilled_none, refilled_here, refilled_more, filled_whole}
use Rattle.graded_rbp.proofs.sums.add_totals.Goals as goal

abbrev nothing : Totals
nothing = record { least_lo = pos 0; least_hi = pos 0; most_lo = pos 0; most_hi = pos 0 }

abbrev step : Totals × Totals → Totals
step p = with_totals p.0 p.1

pub loop-place-init : goal.loop-place-init
loop-place-init c = record { refilled = refilled_none step (λ _. Unit {0}) (zip c.args.totals.now c.args.more.now) c.args.totals.now }

pub plus-requires-clause-totals : goal.plus-requires-clause-totals
plus-requires-clause-totals c =
    let here : get_or c.loop-place.totals c.loop-place.place nothing ≡ get_or c.args.totals.now c.loop-place.place nothing =
    refilled_here _ _ _ c.loop-place.totals c.args.totals.now c.loop-place.place nothing c.loop-place.invariant.refilled in
    subst (AreModestTotals) (sym here) (c.requires.near c.loop-place.place nothing (omega arith))

pub loop-place-preserved : goal.loop-place-preserved
loop-place-preserved c =
    let totals : List Totals = c.args.totals.now in
    let more : List Totals = c.args.more.now in
    let place = c.loop-place.place in
    let here : get_or c.loop-place.totals place nothing ≡ get_or totals place nothing = refilled_here _ _ _ c.loop-place.totals totals place nothing c.loop-place.invariant.refilled in
    let made = c.plus.ensures ∙ ap (λ t. with_totals t (get_or more place nothing)) here in
    record {
      refilled = refilled_more step (λ _. Unit {0}) (zip totals more) c.loop-place.totals totals place (get_or totals place nothing, get_or more place nothing) c.plus.result (omega arith) c.loop-place.invariant.refilled
          (slice_get-zip totals more place _ _ (slice_get-get_or totals place nothing (omega arith)) (slice_get-get_or more place nothing (omega (arith, c.requires.count)))) made tt;
    }

pub returns : goal.returns
returns c =
    (filled_whole step (λ _. Unit {0}) (zip c.args.totals.now c.args.more.now) c.loop-place.totals c.loop-place.place (omega arith)
    (omega (arith, length-zip c.args.totals.now c.args.more.now (sym c.requires.count))) c.loop-place.invariant.refilled.filled).0
