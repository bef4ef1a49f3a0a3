-- The desk of the rows of files.
use Rattle.std.specs.Prelude.{◌≡◌, ℕ, ◌*◌, ◌≤◌, Bool, length, take, All, List, [], ◌++◌, map, flat_map, find, sum_by, slice_get, slice_index_or, Option, Some, None, ◌<◌, option_map, ℤ}
use Rattle.std.specs.List.{list_any, range_with_len}
use Rattle.std.specs.Str.{bytes_eq}
use Rattle.desk_model.specs.Book.{Book, file_grade_of}
use Rattle.desk_model.specs.Desk.{Desk, IsDesk, ranking_of, pair_count}
use Rattle.file_rows.specs.Grouped.{TopicRows, Valued, names_of, rows_in, row_count}
use Rattle.run_reader.specs.Run.{Run, rows_on_topic}
use Rattle.topic_universe.specs.Order.{IsTrecOrder}
use Rattle.topic_universe.specs.Names.{HaveSameNames}
use Rattle.topic_universe.specs.Universe.{listed, retrieved}
use Rattle.topics_pool.specs.declared.fault.DeskFault.{DeskFault}
use Rattle.topics_pool.specs.declared.fault.DeskFault.TheVariants.{SameName, TooManyCells, Memory}
use Rattle.topics_pool.specs.declared.limits.TheConstants.{MOST_CELLS}

-- the names of a topic's documents in the kept rows of all files
abbrev pub names_on : List TopicRows → List Run → List ℕ → List (List ℕ)
names_on qrels runs topic = listed (rows_in topic qrels) ++ flat_map (retrieved topic) runs

-- the grade that the qrels give a document, where they list it
abbrev pub grade_in : List Valued → List ℕ → Option ℤ
grade_in documents name = option_map (λ judged. judged.value) (find (λ judged. bytes_eq name judged.document) documents)

-- the universe of a topic is all names in its rows, each with its grade
pub record IsBookOf (qrels : List TopicRows) (runs : List Run) (book : Book) : Type 0 where
  pub universe : HaveSameNames book.docs (names_on qrels runs book.name)
  pub grades : (doc : ℕ) (name : List ℕ) → slice_get book.docs doc ≡ Some name → file_grade_of book doc ≡ grade_in (rows_in book.name qrels) name

-- the names of documents by their numbers
abbrev pub doc_names : Book → List ℕ → List (List ℕ)
doc_names book docs = map (λ doc. slice_index_or book.docs doc []) docs

-- the names of topics
abbrev pub topic_names : List Book → List (List ℕ)
topic_names books = map (λ (book : Book). book.name) books

-- the names of runs
abbrev pub run_names : List Run → List (List ℕ)
run_names runs = map (λ (run : Run). run.name) runs

-- a desk of these rows: the topics are those of the qrels, and each run ranks the documents of its rows
pub record IsDeskOf (qrels : List TopicRows) (runs : List Run) (desk : Desk) : Type 0 where
  pub valid : IsDesk desk
  pub topics : HaveSameNames (topic_names desk.topics) (names_of qrels)
  pub books : All (IsBookOf qrels runs) desk.topics
  pub run_names : desk.runs ≡ map (λ (run : Run). run.name) runs
  pub rankings : (r t : ℕ) (run : Run) (book : Book) → slice_get runs r ≡ Some run → slice_get desk.topics t ≡ Some book →
      IsTrecOrder (rows_on_topic run book.name) (doc_names book (ranking_of desk r t))

-- whether an earlier one of the names is this one
abbrev pub is_repeated : List (List ℕ) → ℕ → Bool
is_repeated names r = list_any (bytes_eq (slice_index_or names r [])) (take r names)

-- the first name that an earlier one is, by its number from 0
abbrev pub first_repeated : List (List ℕ) → Option ℕ
first_repeated names = find (is_repeated names) (range_with_len 0 (length names))

-- pairs times topics
abbrev pub cells_of : List TopicRows → List Run → ℕ
cells_of qrels runs = pair_count (length runs) * length qrels

-- the kept rows of runs together
abbrev pub total_rows : List Run → ℕ
total_rows runs = sum_by (λ (run : Run). row_count run.topics) runs

-- no run has the name of an earlier one, and pairs times topics are within the limit
pub record IsNoFault (qrels : List TopicRows) (runs : List Run) : Type 0 where
  pub names : first_repeated (run_names runs) ≡ None
  pub cells : cells_of qrels runs ≤ MOST_CELLS

-- the first fault of rows that make no desk; running out of memory may come in its place
abbrev pub IsFaultOf : List TopicRows → List Run → DeskFault → Type 0
IsFaultOf qrels runs (SameName run) = first_repeated (run_names runs) ≡ Some run
IsFaultOf qrels runs (TooManyCells cells) = (first_repeated (run_names runs) ≡ None) × (cells ≡ cells_of qrels runs) × (MOST_CELLS < cells)
IsFaultOf qrels runs Memory = Unit {0}
