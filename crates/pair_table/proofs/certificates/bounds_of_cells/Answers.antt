use Rattle.std.proofs.Common.{◌≡◌, ℕ, ◌<◌, ◌≤◌, List, get_or, map, length, pos, Some, ap, sym, ◌∙◌, arith}
use Rattle.std.specs.Prelude.{if◌then◌else◌, slice_get}
use Rattle.std.proofs.lemmas.List.{length-map, take_all}
use Rattle.std.proofs.lemmas.Option.{slice_get-get_or}
use Rattle.desk_model.specs.Extremes.{Ends}
use Rattle.measure_core.specs.Made.{ends_of}
use Rattle.measure_core.specs.declared.cell.Cell.{Cell}
use Rattle.pair_table.specs.Evidence.{bounds_of}
use Rattle.small_lemmas.proofs.Lists.{map_there}
use Rattle.pair_table.proofs.Listing.{grown, bound_there, length-bounds}
use Rattle.pair_table.proofs.certificates.bounds_of_cells.Goals as goal

abbrev no_cell : Cell
no_cell = record { least = record { lo = pos 0; hi = pos 0 }; most = record { lo = pos 0; hi = pos 0 } }

pub loop-topic-preserved : goal.loop-topic-preserved
loop-topic-preserved c =
    let desk = c.args.desk.now in
    let t = c.loop-topic.topic in
    let high = λ (e : Ends). if c.args.upper then e.most_hi else pos 0 in
    let cells : List Cell = c.args.cells.now in
    let cell : Cell = get_or cells t no_cell in
    let within : t < length cells = omega (arith, c.requires) in
    let made : c.in_ok-next.next ≡ record { topic = c.topic.result.now.name; low = cell.least.lo; high = high (ends_of cell) } =
    c.in_ok-next.ensures ∙ ap (λ (n : List ℕ). record { topic = n; low = cell.least.lo; high = high (ends_of cell) }) c.name-name.ensures.name in
    let there : slice_get (bounds_of high desk (map ends_of cells)) t ≡ Some c.in_ok-next.next =
    bound_there high desk (map ends_of cells) t c.topic.result.now (ends_of cell) c.topic.ensures (map_there ends_of cells t cell (slice_get-get_or cells t no_cell within)) ∙ ap Some (sym made) in
    record { made = c.in_ok-push.ensures.items ∙ grown _ _ t _ there c.loop-topic.invariant.made }

pub returns : goal.returns
returns c =
    let high = λ (e : Ends). if c.args.upper then e.most_hi else pos 0 in
    let ends : List Ends = map ends_of c.args.cells.now in
    let count : length ends ≡ length c.args.desk.now.topics = length-map c.args.cells.now ends_of ∙ c.requires in
    let end : length (bounds_of high c.args.desk.now ends) ≤ c.loop-topic.topic = omega (arith, length-bounds high c.args.desk.now ends count) in
    c.new.ensures ∙ c.loop-topic.invariant.made ∙ take_all c.loop-topic.topic _ end
