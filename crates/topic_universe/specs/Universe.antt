-- The documents of a topic, by name and by number.
use Rattle.std.specs.Prelude.{◌<◌, ℕ, map, flat_map, All, List, length}
use Rattle.std.specs.List.{AllZip}
use Rattle.file_rows.specs.Grouped.{Valued, TopicRows, rows_at}
use Rattle.run_reader.specs.Run.{Run, rows_on_topic}
use Rattle.topic_universe.specs.Order.{IsTrecOrder}
use Rattle.topic_universe.specs.Names.{numbered_names, AddsNames}
use Rattle.topic_universe.specs.Sorted.{Numbered, AreSorted}

-- the documents that the qrels list of a topic
abbrev pub listed : List Valued → List (List ℕ)
listed documents = map (λ judged. judged.document) documents

-- the documents of a run's rows on a topic, in the order of its file
abbrev pub retrieved : List ℕ → Run → List (List ℕ)
retrieved topic run = map (λ scored. scored.document) (rows_on_topic run topic)

-- numbers of names that rank the documents of rows
pub record AreRankedNumbers (names : List (List ℕ)) (rows : List Valued) (numbers : List ℕ) : Type 0 where
  pub within : All (λ n. n < length names) numbers
  pub order : IsTrecOrder rows (numbered_names names numbers)

-- the documents of topic t of the qrels and of the runs' rows on it: each once, in ascending order with its number, and for each run the numbers of
-- those that it retrieves, in the order of its rows
pub record IsUniverseOf (qrels : List TopicRows) (t : ℕ) (runs : List Run) (topic : List ℕ) (pairs : List Numbered) (numbers : List (List ℕ)) : Type 0 where
  pub names : List (List ℕ)
  pub gathered : AddsNames (listed (rows_at qrels t)) (flat_map (retrieved topic) runs) names
  pub sorted : AreSorted names pairs
  pub ranked : AllZip (λ run each. AreRankedNumbers names (rows_on_topic run topic) each) runs numbers
