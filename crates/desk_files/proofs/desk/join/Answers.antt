use Rattle.std.proofs.Common.{◌≡◌, ℕ, List, [], map, length, ap, sym, ◌∙◌, arith, Vec, Global, slice_index_or}
use Rattle.std.proofs.lemmas.List.{length-map, get_or-map}
use Rattle.std.specs.Prelude.{Some}
use Rattle.std.proofs.lemmas.Result.{IfOk-from_err}
use Rattle.run_reader.specs.Run.{Run}
use Rattle.topics_pool.specs.Rows.{run_names, first_repeated}
use Rattle.desk_files.specs.Load.{cells_in_all}
use Rattle.desk_files.proofs.Joining.{repeated_in, is_repeated_at, joins_memory, is_within, is_excessive, more_in_all, desk_cells}
use Rattle.desk_files.proofs.desk.join.Goals as goal

pub swap_remove-name-requires : goal.swap_remove-name-requires
swap_remove-name-requires c =
    let items : Vec ℕ Global → List ℕ = λ each. each.items in
    let names = c.in_ok-names.names in
    let is : map items names.items ≡ run_names c.args.runs.items = c.in_ok-names.ensures ∙ ap run_names c.deref-2.ensures.value in
    omega (arith, repeated_in (run_names c.args.runs.items) c.in-Err-SameName.run' (rw c.in-Err-SameName.field-0-is at c.in-Err-SameName.ensures.fault), sym (length-map names.items items) ∙ ap length is, names.ok)

pub returns-in-Err-SameName-clause-joins : goal.returns-in-Err-SameName-clause-joins
returns-in-Err-SameName-clause-joins c =
    let items : Vec ℕ Global → List ℕ = λ each. each.items in
    let names = c.in_ok-names.names in
    let r = c.in-Err-SameName.run' in
    let is : map items names.items ≡ run_names c.args.runs.items = c.in_ok-names.ensures ∙ ap run_names c.deref-2.ensures.value in
    let fault : first_repeated (run_names c.args.runs.items) ≡ Some r = rw c.in-Err-SameName.field-0-is at c.in-Err-SameName.ensures.fault in
    let within = repeated_in (run_names c.args.runs.items) r fault in
    let name = ap items c.swap_remove-name.ensures.value ∙ sym (get_or-map items names.items r c.swap_remove-name.result [] (omega (arith, within, sym (length-map names.items items) ∙ ap length is))) ∙ ap (λ ns. slice_index_or ns r []) is in
    is_repeated_at c.args.tables c.args.qrels c.args.runs.items r c.swap_remove-name.result.items fault name

pub returns-in_err-names-clause-joins : goal.returns-in_err-names-clause-joins
returns-in_err-names-clause-joins c = joins_memory c.args.tables c.args.qrels c.args.runs.items c.from_residual.result c.from_residual.ensures.1

pub returns-in_err-names-clause-runs : goal.returns-in_err-names-clause-runs
returns-in_err-names-clause-runs c = IfOk-from_err c.from_residual.result _ c.from_residual.ensures.0

pub returns-then-cells-gt-MOST_CELLS-clause-joins : goal.returns-then-cells-gt-MOST_CELLS-clause-joins
returns-then-cells-gt-MOST_CELLS-clause-joins c =
    let count : c.cell_count-cells.result ≡ cells_in_all c.args.tables c.args.qrels c.args.runs.items = c.cell_count-cells.ensures.count ∙ ap (cells_in_all c.args.tables c.args.qrels) c.deref.ensures.value in
    is_excessive c.args.tables c.args.qrels c.args.runs.items c.cell_count-cells.result c.in-Ok.ensures.right.names count c.if-cells-gt-MOST_CELLS.true

pub returns-in-Ok-clause-joins : goal.returns-in-Ok-clause-joins
returns-in-Ok-clause-joins c =
    let count : c.cell_count-cells.result ≡ cells_in_all c.args.tables c.args.qrels c.args.runs.items = c.cell_count-cells.ensures.count ∙ ap (cells_in_all c.args.tables c.args.qrels) c.deref.ensures.value in
    (is_within c.args.tables c.args.qrels c.args.runs.items c.in-Ok.ensures.right (omega (arith, count, c.if-cells-gt-MOST_CELLS.false)), c.in-Ok.ensures.desk)

pub returns-in-Ok-clause-cells : goal.returns-in-Ok-clause-cells
returns-in-Ok-clause-cells c =
    let count : c.cell_count-cells.result ≡ cells_in_all c.args.tables c.args.qrels c.args.runs.items = c.cell_count-cells.ensures.count ∙ ap (cells_in_all c.args.tables c.args.qrels) c.deref.ensures.value in
    omega (arith, count, c.if-cells-gt-MOST_CELLS.false, desk_cells c.args.tables c.args.qrels c.args.runs.items c.in-Ok.desk c.in-Ok.ensures.desk c.cell_count-cells.ensures.distinct)

pub returns-in-Ok-clause-runs : goal.returns-in-Ok-clause-runs
returns-in-Ok-clause-runs c = omega (arith, ap length c.in-Ok.ensures.desk.run_names, length-map c.args.runs.items (λ (r : Run). r.name), c.args.runs.ok)

pub returns-in-Err-TooManyCells-clause-joins : goal.returns-in-Err-TooManyCells-clause-joins
returns-in-Err-TooManyCells-clause-joins c =
    let count : c.cell_count-cells.result ≡ cells_in_all c.args.tables c.args.qrels c.args.runs.items = c.cell_count-cells.ensures.count ∙ ap (cells_in_all c.args.tables c.args.qrels) c.deref.ensures.value in
    let fault = (rw c.in-Err-TooManyCells.field-0-is at c.in-Err-TooManyCells.ensures.fault) in
    let more = more_in_all c.args.tables c.args.qrels c.args.runs.items _ fault c.requires.tables in
    is_excessive c.args.tables c.args.qrels c.args.runs.items c.cell_count-cells.result fault.0 count (omega (arith, more, count))

pub desk_of_ranked-requires-clause-some : goal.desk_of_ranked-requires-clause-some
desk_of_ranked-requires-clause-some c = c.requires.some

pub desk_of_ranked-requires-clause-few : goal.desk_of_ranked-requires-clause-few
desk_of_ranked-requires-clause-few c = c.requires.few

pub desk_of_ranked-requires-clause-rows : goal.desk_of_ranked-requires-clause-rows
desk_of_ranked-requires-clause-rows c = c.requires.rows

pub returns-in-Err-SameName-clause-runs : goal.returns-in-Err-SameName-clause-runs
returns-in-Err-SameName-clause-runs c = tt

pub returns-in-Err-TooManyCells-clause-runs : goal.returns-in-Err-TooManyCells-clause-runs
returns-in-Err-TooManyCells-clause-runs c = tt

pub returns-clause-joins : goal.returns-clause-joins
returns-clause-joins c = tt

pub returns-clause-runs : goal.returns-clause-runs
returns-clause-runs c = tt
