-- Words on rows and topics that proofs use.
use Rattle.std.proofs.Common.{◌≡◌, ℕ, List, ap, sym, ◌∙◌}
use Rattle.std.specs.Prelude.{length, sum_by, ℤ}
use Rattle.file_rows.specs.Grouped.{Valued, TopicRows, row_count, name_bytes_in}
use Rattle.file_rows.specs.Names.{topics_in, IsCounted}

abbrev pub topic_with : List ℕ → List Valued → TopicRows
topic_with name rows = record { name = name; rows = rows }

abbrev pub valued : List ℕ → ℤ → Valued
valued document value = record { document = document; value = value }

-- what is counted over the rows of each topic
abbrev pub counted : (List Valued → ℕ) → List TopicRows → ℕ
counted count topics = sum_by (λ topic. count topic.rows) topics

-- topics whose names and rows are kept in two lists, and whose rows and bytes are counted
pub record Holds (names : List (List ℕ)) (grouped : List (List Valued)) (rows name_bytes : ℕ) (topics : List TopicRows) : Type 0 where
  pub matched : length names ≡ length grouped
  pub topics_are : topics_in names grouped ≡ topics
  pub rows_counted : rows ≡ row_count topics
  pub bytes_counted : name_bytes ≡ name_bytes_in topics

module _ {names : List (List ℕ)} {grouped : List (List Valued)} {rows name_bytes : ℕ} {topics : List TopicRows} where
  pub holding : IsCounted names grouped rows name_bytes → topics_in names grouped ≡ topics → Holds names grouped rows name_bytes topics
  holding c is = record { matched = c.matched; topics_are = is; rows_counted = c.rows_counted ∙ ap row_count is; bytes_counted = c.bytes_counted ∙ ap name_bytes_in is }

  pub is_counted : Holds names grouped rows name_bytes topics → IsCounted names grouped rows name_bytes
  is_counted h = record { matched = h.matched; rows_counted = h.rows_counted ∙ ap row_count (sym h.topics_are); bytes_counted = h.bytes_counted ∙ ap name_bytes_in (sym h.topics_are) }
