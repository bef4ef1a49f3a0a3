use Rattle.std.proofs.Common.{◌+◌, ◌-◌, ◌/◌, ◌<◌, ◌≤◌, length, ap, sym, ◌∙◌, arith}
use Rattle.std.specs.Prelude.{Some}
use Rattle.sheet_merge.specs.Sheet.{SheetPlace, SheetRow, place_cmp}
use Rattle.sheet_merge.proofs.Entries.{equal_from}
use Rattle.sheet_merge.proofs.Finding.{between_all, between_none, narrower, found}
use Rattle.sheet_merge.proofs.find.find.Goals as goal

pub loop-low-init : goal.loop-low-init
loop-low-init c = record { between = between_all (c.args.topic.now, c.args.document.now) c.args.rows.now c.len-high.result c.len-high.ensures }

pub get-row-requires : goal.get-row-requires
get-row-requires c = let within = c.loop-low.invariant.between.high_in in omega (arith, within, c.loop-low-test.true)

pub returns : goal.returns
returns c = between_none (c.args.topic.now, c.args.document.now) c.args.rows.now c.loop-low.low c.loop-low.high c.loop-low.invariant.between c.loop-low-test.false

pub returns-then-is_eq : goal.returns-then-is_eq
returns-then-is_eq c =
    let place : SheetPlace = (c.args.topic.now, c.args.document.now) in
    let rows = c.args.rows.now in
    let middle = c.loop-low.low + (c.loop-low.high - c.loop-low.low) / 2 in
    let within = c.loop-low.invariant.between.high_in in
    let lt : middle < length rows = omega (arith, within, c.loop-low-test.true) in
    let equal = equal_from c.compare_place_with-order.result (sym c.is_eq.ensures ∙ c.if-is_eq.true) in
    found place rows middle c.requires lt (ap (λ (row : SheetRow). place_cmp row.0 place) (sym c.get-row.ensures) ∙ sym c.compare_place_with-order.ensures ∙ equal) ∙ ap (λ (row : SheetRow). Some row.1) (sym c.get-row.ensures)

pub loop-low-preserved : goal.loop-low-preserved
loop-low-preserved c =
    let place : SheetPlace = (c.args.topic.now, c.args.document.now) in
    let rows = c.args.rows.now in
    let low = c.loop-low.low in
    let high = c.loop-low.high in
    let middle = low + (high - low) / 2 in
    let ge : low ≤ middle = omega arith in
    let lt : middle < high = omega (arith, c.loop-low-test.true) in
    record {
      between = narrower place rows c.requires low middle high c.loop-low.invariant.between ge lt c.compare_place_with-order.result c.narrowed.result
          (c.compare_place_with-order.ensures ∙ ap (λ (row : SheetRow). place_cmp row.0 place) c.get-row.ensures) (sym c.is_eq.ensures ∙ c.if-is_eq.false) c.narrowed.ensures;
    }
