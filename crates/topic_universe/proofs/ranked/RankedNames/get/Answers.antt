use Rattle.std.proofs.Common.{◌≡◌, ◌<◌, ℕ, List, length, map, refl, sym, ap, ◌∙◌, arith}
use Rattle.std.specs.Prelude.{slice_get, option_map}
use Rattle.std.proofs.lemmas.List.{length-map}
use Rattle.std.proofs.lemmas.Option.{slice_get-map, slice_get_read}
use Rattle.file_rows.specs.Grouped.{Valued}
use Rattle.topic_universe.specs.Entry.{row_of, ranked_rows}
use Rattle.topic_universe.specs.declared.entry.RankedRows.{RankedRows}
use Rattle.topic_universe.proofs.ranked.RankedNames.get.Goals as goal

pub returns-in-Sorted : goal.returns-in-Sorted
returns-in-Sorted c =
    let entries = c.in-Sorted.entries.items in
    let names : map (λ (row : Valued). row.document) (map row_of entries) ≡ c.args.self.now = ap (λ (rows : RankedRows). map (λ (row : Valued). row.document) (ranked_rows rows)) (sym c.in-Sorted.is) ∙ c.self.view_is in
    let size = ap length names in
    let within : c.args.i < length entries = omega (arith, size, length-map (map row_of entries) (λ (row : Valued). row.document), length-map entries row_of, c.requires) in
    ap (λ (names : List (List ℕ)). slice_get names c.args.i) (sym names)
    ∙ slice_get-map (λ (row : Valued). row.document) (map row_of entries) c.args.i
    ∙ ap (option_map (λ (row : Valued). row.document)) (slice_get-map row_of entries c.args.i)
    ∙ ap (λ o. option_map (λ (row : Valued). row.document) (option_map row_of o)) (slice_get_read entries (length entries) c.args.i c.index.result.now refl within c.index.ensures)
