use Rattle.std.proofs.Common.{◌≡◌, ap, sym, ◌∙◌}
use Rattle.std.specs.Ordering.{is_lt}
use Rattle.sheet_merge.specs.Sheet.{SheetRow, greater}
use Rattle.sheet_merge.proofs.Entries.{place_exact, second}
use Rattle.sheet_merge.proofs.merge.greater_row.Goals as goal

pub returns-in-Less-clause-row : goal.returns-in-Less-clause-row
returns-in-Less-clause-row c =
    let x : SheetRow = c.args.x.now in
    let y : SheetRow = c.args.y.now in
    let place : x.0 ≡ y.0 = place_exact x.0 y.0 c.requires in
    let entry : greater x.1 y.1 ≡ y.1 = second x.1 y.1 (ap is_lt (sym c.compare_entry.ensures ∙ c.in-Less.is)) in
    let same : y ≡ (x.0, greater x.1 y.1) = λ i. (sym place i, sym entry i) in
    c.copied.ensures ∙ same
