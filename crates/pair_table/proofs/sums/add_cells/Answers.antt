use Rattle.std.proofs.Common.{◌≡◌, List, get_or, pos, Some, ap, sym, ◌∙◌, subst, arith}
use Rattle.std.specs.Prelude.{slice_get}
use Rattle.std.proofs.Common.{◌+◌}
use Rattle.std.specs.List.{zip}
use Rattle.std.proofs.lemmas.Option.{slice_get-get_or}
use Rattle.small_lemmas.proofs.Lists.{slice_get-zip}
use Rattle.desk_model.proofs.Nested.{length-zip}
use Rattle.desk_model.specs.Limits.{TOPIC_LIMIT}
use Rattle.desk_model.specs.declared.types.Totals.{Totals}
use Rattle.measure_core.specs.declared.cell.Cell.{Cell}
use Rattle.pair_table.specs.Kept.{each_with, with_cell, AreWithin}
use Rattle.measure_core.proofs.Filling.{refilled_none, refilled_here, refilled_more, filled_whole}
use Rattle.pair_table.proofs.sums.add_cells.Goals as goal

abbrev nothing : Totals
nothing = record { least_lo = pos 0; least_hi = pos 0; most_lo = pos 0; most_hi = pos 0 }

abbrev step : Totals × Cell → Totals
step p = with_cell p.0 p.1

pub loop-place-init : goal.loop-place-init
loop-place-init c = record { refilled = refilled_none step (λ _. Unit {0}) (zip c.args.totals.now c.cells-cells.result.now) c.args.totals.now }

pub plus-requires : goal.plus-requires
plus-requires c =
    let here : get_or c.loop-place.totals c.loop-place.place nothing ≡ get_or c.args.totals.now c.loop-place.place nothing =
    refilled_here _ _ _ c.loop-place.totals c.args.totals.now c.loop-place.place nothing c.loop-place.invariant.refilled in
    subst (AreWithin (TOPIC_LIMIT + 1)) (sym here) (c.requires.near c.loop-place.place nothing (omega arith))

pub loop-place-preserved : goal.loop-place-preserved
loop-place-preserved c =
    let totals : List Totals = c.args.totals.now in
    let cells : List Cell = c.cells-cells.result.now in
    let place = c.loop-place.place in
    let here : get_or c.loop-place.totals place nothing ≡ get_or totals place nothing = refilled_here _ _ _ c.loop-place.totals totals place nothing c.loop-place.invariant.refilled in
    let cell : Cell = c.index-cells-place.result in
    let there : slice_get cells place ≡ Some cell = slice_get-get_or cells place cell (omega (arith, c.requires.count, c.cells-cells.ensures.count)) ∙ ap Some (sym c.index-cells-place.is) in
    let made = c.plus.ensures ∙ ap (λ t. with_cell t cell) here in
    record {
      refilled = refilled_more step (λ _. Unit {0}) (zip totals cells) c.loop-place.totals totals place (get_or totals place nothing, cell) c.plus.result (omega arith) c.loop-place.invariant.refilled
          (slice_get-zip totals cells place _ _ (slice_get-get_or totals place nothing (omega arith)) there) made tt;
    }

pub returns : goal.returns
returns c =
    let totals = c.args.totals.now in
    let cells = c.cells-cells.result.now in
    let count = c.requires.count ∙ sym c.cells-cells.ensures.count in
    (filled_whole step (λ _. Unit {0}) (zip totals cells) c.loop-place.totals c.loop-place.place (omega arith) (omega (arith, length-zip totals cells (sym count))) c.loop-place.invariant.refilled.filled).0
    ∙ ap (each_with with_cell totals) c.cells-cells.ensures.cells
