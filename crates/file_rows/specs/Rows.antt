-- The rows of a file.
use Rattle.std.specs.Prelude.{ℕ, Bool, not, List, [], ◌∷◌, length, map, filter, sum_by, ℤ}
use Rattle.std.specs.List.{list_any}
use Rattle.std.specs.Str.{bytes_eq}

-- a row: the document of a topic and its value, a grade or a score
pub record Row : Type 0 where
  pub topic : List ℕ
  pub document : List ℕ
  pub value : ℤ

-- the names, each once, in the order in which they first stand
abbrev pub first_seen : List (List ℕ) → List (List ℕ)
first_seen [] = []
first_seen (name ∷ names) = name ∷ filter (λ other. not (bytes_eq name other)) (first_seen names)

-- the topics of rows, in the order in which they first stand
abbrev pub topics_of : List Row → List (List ℕ)
topics_of rows = first_seen (map (λ row. row.topic) rows)

-- the rows of a topic
abbrev pub rows_on : List ℕ → List Row → List Row
rows_on topic rows = filter (λ row. bytes_eq topic row.topic) rows

-- whether rows have a topic
abbrev pub has_topic : List ℕ → List Row → Bool
has_topic topic rows = list_any (λ row. bytes_eq topic row.topic) rows

-- whether a document stands in a topic
abbrev pub has_document : List ℕ → List ℕ → List Row → Bool
has_document topic document rows = list_any (λ row. bytes_eq document row.document) (rows_on topic rows)

-- the bytes of the document names of rows
abbrev pub name_bytes_of : List Row → ℕ
name_bytes_of rows = sum_by (λ row. length row.document) rows
