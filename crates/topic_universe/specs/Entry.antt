-- What is sorted.
use Rattle.std.specs.Prelude.{◌≡◌, ◌<◌, ◌+◌, ℕ, ℤ, List, length, map, slice_index_or, false}
use Rattle.std.specs.Borrow.{Bor}
use Rattle.std.specs.Ordering.{is_lt}
use Rattle.std.specs.declared.cmp.Reverse.{Reverse}
use Rattle.file_rows.specs.Grouped.{Valued}
use Rattle.topic_universe.specs.Order.{trec_cmp}
use Rattle.topic_universe.specs.declared.entry.RankedRows.{RankedRows}
use Rattle.topic_universe.specs.declared.entry.RankedRows.TheVariants.{Standing, Sorted}

-- a row that is borrowed, so that the earlier row in trec_eval's order is the smaller
abbrev pub Entry : Type 0
Entry = Reverse (Bor ℤ) × Reverse (Bor (List ℕ))

-- the row of an entry
abbrev pub row_of : Entry → Valued
row_of entry = record { document = entry.1.0.now; value = entry.0.0.now }

-- the rows that stand in the file, or were sorted
abbrev pub ranked_rows : RankedRows → List Valued
ranked_rows (Standing rows) = rows.now
ranked_rows (Sorted entries) = map row_of entries.items

-- no row stands behind one that belongs after it
abbrev pub AreInOrder : List Valued → Type 0
AreInOrder rows = (k : ℕ) (d : Valued) → k + 1 < length rows → is_lt (trec_cmp (slice_index_or rows (k + 1) d) (slice_index_or rows k d)) ≡ false
