-- Lists that are kept apart: documents as names and values, topics as names and rows.
use Rattle.std.specs.Prelude.{◌≡◌, ℕ, List, length, map, ℤ}
use Rattle.std.specs.List.{zip}
use Rattle.file_rows.specs.Grouped.{Valued, TopicRows, row_count, name_bytes_in}

-- documents with their values
abbrev pub valued_in : List (List ℕ) → List ℤ → List Valued
valued_in documents values = map (λ pair. record { document = pair.0; value = pair.1 }) (zip documents values)

-- topics with their rows
abbrev pub topics_in : List (List ℕ) → List (List Valued) → List TopicRows
topics_in names rows = map (λ pair. record { name = pair.0; rows = pair.1 }) (zip names rows)

-- each topic has its rows, and these are counted
pub record IsCounted (names : List (List ℕ)) (grouped : List (List Valued)) (rows name_bytes : ℕ) : Type 0 where
  pub matched : length names ≡ length grouped
  pub rows_counted : rows ≡ row_count (topics_in names grouped)
  pub bytes_counted : name_bytes ≡ name_bytes_in (topics_in names grouped)
