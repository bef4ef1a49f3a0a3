use Rattle.std.proofs.Common.{◌≤◌, ℕ, List, ◌++◌, length, ap, sym, subst, ◌∙◌}
use Rattle.sheet_merge.specs.Sheet.{SheetPlace, SheetRow}
use Rattle.sheet_merge.specs.Packed.{first_of, second_of, IsPacked, row_from}
use Rattle.sheet_merge.proofs.Unpacking.{row_from-pair, packed_is, name_short}
use Rattle.sheet_merge.proofs.packed.PackedName.new.Goals as goal

pub returns-clause-packed : goal.returns-clause-packed
returns-clause-packed c =
    let row : SheetRow = c.args.row.now in
    let who = c.who-who.result.now in
    let place = c.place.result.now in
    let items = c.in_ok-extend_from_slice-2.ensures.ok ∙ ap (λ bs. bs ++ place) (c.in_ok-extend_from_slice.ensures.ok ∙ ap (λ bs. bs ++ who) c.in_ok-bytes.ensures.ok) in
    let topic : length (first_of place) ≤ 255 = subst (λ (p : SheetPlace). length p.0 ≤ 255) (sym c.place.ensures.place) (name_short row.0.0 c.requires.topic) in
    let document : length (second_of place) ≤ 255 = subst (λ (p : SheetPlace). length p.1 ≤ 255) (sym c.place.ensures.place) (name_short row.0.1 c.requires.document) in
    let short : length who ≤ 255 = subst (λ (w : List ℕ). length w ≤ 255) (sym c.who-who.ensures) (name_short row.1.who c.requires.assessor) in
    subst IsPacked (sym items) (packed_is who place (record { stamp = row.1.stamp; grade = row.1.grade }) c.place.ensures.pair short topic document)

pub returns-clause-row : goal.returns-clause-row
returns-clause-row c =
    let row : SheetRow = c.args.row.now in
    let who = c.who-who.result.now in
    let place = c.place.result.now in
    let items = c.in_ok-extend_from_slice-2.ensures.ok ∙ ap (λ bs. bs ++ place) (c.in_ok-extend_from_slice.ensures.ok ∙ ap (λ bs. bs ++ who) c.in_ok-bytes.ensures.ok) in
    ap (λ bs. row_from (bs, record { stamp = row.1.stamp; grade = row.1.grade })) items ∙ row_from-pair who place (record { stamp = row.1.stamp; grade = row.1.grade })
    ∙ (λ i. (c.place.ensures.place i, record { stamp = row.1.stamp; who = c.who-who.ensures i; grade = row.1.grade }))
