use Rattle.std.proofs.Common.{List, ◌∷◌, ◌++◌, [], map, take, sym, ap, ◌∙◌, add-one}
use Rattle.std.proofs.lemmas.List.{map-append}
use Rattle.file_rows.specs.Grouped.{Valued}
use Rattle.topic_universe.specs.Entry.{row_of}
use Rattle.topic_universe.proofs.Ranks.{row_more}
use Rattle.topic_universe.proofs.entry.entries_of.Goals as goal

pub loop-i-preserved : goal.loop-i-preserved
loop-i-preserved c =
    let rows = c.args.rows.now in
    let i = c.loop-i.i in
    let more = row_more rows i c.document.result.now c.value.result.now c.document.ensures c.value.ensures in
    ap (map row_of) c.in_ok-push.ensures.items ∙ map-append row_of c.loop-i.entries.items _
    ∙ ap (λ (before : List Valued). before ++ record { document = c.document.result.now; value = c.value.result.now } ∷ []) c.loop-i.invariant
    ∙ more ∙ ap (λ k. take k rows) (sym (add-one i))
