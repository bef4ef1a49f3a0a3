use Rattle.std.proofs.Common.{◌≤◌, ap, sym, ◌∙◌, arith, length, drop, subst}
use Rattle.std.specs.Prelude.{option_map, Some}
use Rattle.std.proofs.lemmas.List.{drop_all}
use Rattle.desk_outside.proofs.Files.{entry_at}
use Rattle.desk_outside.proofs.mem_shelf.left_of.Goals as goal

pub returns-else-at-bytes-clause-left : goal.returns-else-at-bytes-clause-left
returns-else-at-bytes-clause-left c =
    let file = c.index-files-place.result in
    ap (option_map (λ e. drop c.args.at e.1)) (entry_at c.args.files.now c.args.place file c.requires c.index-files-place.is)
    ∙ ap Some (drop_all c.args.at file.1.items (subst (λ xs. length xs ≤ c.args.at) (c.as_slice-bytes.ensures.value ∙ ap (λ e. e.1.items) (sym c.index-files-place.is)) (omega arith)))
