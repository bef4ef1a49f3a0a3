use Rattle.std.proofs.Common.{map}
use Rattle.std.specs.Str.{bytes_eq}
use Rattle.std.proofs.lemmas.List.Sorted.{IsPermutation-map}
use Rattle.std.proofs.lemmas.Map.Keys.{IsDistinct-IsPermutation}
use Rattle.file_rows.proofs.Seen.{laws}
use Rattle.file_rows.specs.Grouped.{Valued}
use Rattle.topic_universe.specs.Entry.{row_of}
use Rattle.topic_universe.proofs.Ranks.{in_order}
use Rattle.topic_universe.proofs.entry.ranked.Goals as goal

pub returns-then-are_in_order-clause-ordered : goal.returns-then-are_in_order-clause-ordered
returns-then-are_in_order-clause-ordered c = in_order c.args.rows.now c.requires (c.are_in_order.ensures c.if-are_in_order.true)

pub returns : goal.returns
returns c =
    let sorted = map row_of c.in_ok-sorted.field-0.items in
    let names = IsPermutation-map (λ (row : Valued). row.document) c.args.rows.now sorted c.in_ok-sorted.ensures.once in
    record {
      once = c.in_ok-sorted.ensures.once;
      ordered = in_order sorted (IsDistinct-IsPermutation bytes_eq laws.symm (map (λ row. row.document) c.args.rows.now) (map (λ row. row.document) sorted) names c.requires) c.in_ok-sorted.ensures.ordered;
    }
