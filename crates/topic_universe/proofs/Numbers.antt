-- Numbers that rank the documents of rows.
use Rattle.std.proofs.Common.{ℕ, ◌<◌, List, length, map, sym, subst, arith}
use Rattle.std.specs.List.Sorted.{IsPermutation}
use Rattle.std.proofs.lemmas.List.Elements.{All-weaker}
use Rattle.std.proofs.lemmas.List.Sorted.{IsPermutation-map}
use Rattle.file_rows.specs.Grouped.{Valued}
use Rattle.topic_universe.specs.Order.{IsTrecOrder}
use Rattle.topic_universe.specs.Names.{AddsNames}
use Rattle.topic_universe.specs.Universe.{AreRankedNumbers}
use Rattle.topic_universe.proofs.Sets.{renamed}

-- the ranked names are the documents of the rows, in another order
pub ranked_documents : (rows : List Valued) (names : List (List ℕ)) → IsTrecOrder rows names → IsPermutation (map (λ (row : Valued). row.document) rows) names
ranked_documents rows names order = subst (IsPermutation (map (λ (row : Valued). row.document) rows)) (sym order.are_names) (IsPermutation-map (λ (row : Valued). row.document) rows order.ranked order.once)

-- numbers stay those of the rows where more names are added
pub still_numbers : (old more new : List (List ℕ)) (rows : List Valued) (numbers : List ℕ) → AddsNames old more new → AreRankedNumbers old rows numbers → AreRankedNumbers new rows numbers
still_numbers old more new rows numbers gathered are = record {
  within = All-weaker (λ n. n < length old) (λ n. n < length new) (λ n lt. let longer = gathered.longer in omega (arith, lt, longer)) numbers are.within;
  order = subst (IsTrecOrder rows) (sym (renamed old new numbers gathered.kept are.within)) are.order;
}
