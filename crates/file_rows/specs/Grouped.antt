-- Rows that are grouped by their topics.
use Rattle.std.specs.Prelude.{ℕ, zero, suc, Bool, List, [], ◌∷◌, ◌++◌, if◌then◌else◌, Option, length, map, position, sum_by, slice_get, ℤ}
use Rattle.std.specs.List.{list_any}
use Rattle.std.specs.Option.{option_map_or}
use Rattle.std.specs.Str.{bytes_eq}
use Rattle.file_rows.specs.Rows.{Row, topics_of, rows_on}

-- a document and its value
pub record Valued : Type 0 where
  pub document : List ℕ
  pub value : ℤ

-- a topic and its rows, in the order of the file
pub record TopicRows : Type 0 where
  pub name : List ℕ
  pub rows : List Valued

abbrev pub valued_of : Row → Valued
valued_of row = record { document = row.document; value = row.value }

-- a topic with its rows
abbrev pub topic_of : List Row → List ℕ → TopicRows
topic_of rows name = record { name = name; rows = map valued_of (rows_on name rows) }

-- the rows, grouped by their topics: topics and rows stand in the order in which they first stood in the file
abbrev pub grouped : List Row → List TopicRows
grouped rows = map (topic_of rows) (topics_of rows)

abbrev pub names_of : List TopicRows → List (List ℕ)
names_of topics = map (λ topic. topic.name) topics

-- whether a topic has this name
abbrev pub is_topic : List ℕ → List TopicRows → Bool
is_topic name topics = list_any (bytes_eq name) (names_of topics)

-- the rows of a topic, by its number from 0
abbrev pub rows_at : List TopicRows → ℕ → List Valued
rows_at topics t = option_map_or (λ topic. topic.rows) (slice_get topics t) []

-- the rows of a topic, by its name: none where it is not there
abbrev pub rows_in : List ℕ → List TopicRows → List Valued
rows_in name [] = []
rows_in name (topic ∷ topics) = if bytes_eq name topic.name then topic.rows else rows_in name topics

-- how many rows topics have together
abbrev pub row_count : List TopicRows → ℕ
row_count topics = sum_by (λ topic. length topic.rows) topics

-- the bytes of the names of documents
abbrev pub bytes_in : List Valued → ℕ
bytes_in documents = sum_by (λ valued. length valued.document) documents

-- the bytes of the names of all documents of topics
abbrev pub name_bytes_in : List TopicRows → ℕ
name_bytes_in topics = sum_by (λ topic. bytes_in topic.rows) topics

-- topics of which one, by its number from 0, has one more row at its end
abbrev pub with_valued : List TopicRows → ℕ → Valued → List TopicRows
with_valued [] t valued = []
with_valued (topic ∷ topics) zero valued = record { name = topic.name; rows = topic.rows ++ valued ∷ [] } ∷ topics
with_valued (topic ∷ topics) (suc t) valued = topic ∷ with_valued topics t valued

-- topics with a row added: to its topic, or as a new topic at the end
abbrev pub with_row_on : List TopicRows → Row → List TopicRows
with_row_on [] row = record { name = row.topic; rows = valued_of row ∷ [] } ∷ []
with_row_on (topic ∷ topics) row =
    if bytes_eq row.topic topic.name then record { name = topic.name; rows = topic.rows ++ valued_of row ∷ [] } ∷ topics else topic ∷ with_row_on topics row

-- topics of which one, by its number from 0, has no row any more
abbrev pub emptied : List TopicRows → ℕ → List TopicRows
emptied [] t = []
emptied (topic ∷ topics) zero = record { name = topic.name; rows = [] } ∷ topics
emptied (topic ∷ topics) (suc t) = topic ∷ emptied topics t

-- topics of which one, by its name, has no row any more, where it is there
abbrev pub without_rows : List ℕ → List TopicRows → List TopicRows
without_rows name [] = []
without_rows name (topic ∷ topics) = if bytes_eq name topic.name then record { name = topic.name; rows = [] } ∷ topics else topic ∷ without_rows name topics

-- the number of a topic, by its name
abbrev pub place_of : List ℕ → List TopicRows → Option ℕ
place_of name topics = position (bytes_eq name) (names_of topics)

-- whether a document is one of those of rows
abbrev pub stands_in : List ℕ → List Valued → Bool
stands_in document rows = list_any (λ valued. bytes_eq document valued.document) rows
