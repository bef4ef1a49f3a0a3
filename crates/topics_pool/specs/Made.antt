-- The parts of a desk while it is made.
use Rattle.std.specs.Prelude.{◌≡◌, ◌<◌, ◌≤◌, ℕ, false, map, slice_index, All, List, [], ◌∷◌, ◌++◌, length, slice_get, slice_index_or, Some}
use Rattle.std.specs.List.{AllZip, list_any}
use Rattle.std.specs.Str.{bytes_eq}
use Rattle.desk_model.specs.Book.{Book, IsBook}
use Rattle.desk_model.specs.Name.{AreAscending}
use Rattle.desk_model.specs.Ranking.{IsRanking}
use Rattle.file_rows.specs.Grouped.{TopicRows, Valued, names_of, rows_at, row_count}
use Rattle.run_reader.specs.Run.{Run, rows_on_topic}
use Rattle.topic_universe.specs.Order.{IsTrecOrder}
use Rattle.topic_universe.specs.Names.{HaveSameNames}
use Rattle.topic_universe.specs.Universe.{listed}
use Rattle.topics_pool.specs.Rows.{IsBookOf, doc_names, grade_in, topic_names}

-- a topic of this name over these documents, each with the grade that topic t of the qrels gives it
abbrev pub book_over : List TopicRows → ℕ → List ℕ → List (List ℕ) → Book
book_over qrels t name docs = record { name = name; docs = docs; grades = map (grade_in (rows_at qrels t)) docs }

-- the topics of the qrels, ascending
pub record AreBooksOf (qrels : List TopicRows) (runs : List Run) (books : List Book) : Type 0 where
  pub sound : All IsBook books
  pub of_rows : All (IsBookOf qrels runs) books
  pub ascending : AreAscending (topic_names books)
  pub topics : HaveSameNames (topic_names books) (names_of qrels)
  pub count : length books ≡ length qrels

-- document numbers that rank the documents of a run on a topic
pub record IsRankingOf (run : Run) (book : Book) (docs : List ℕ) : Type 0 where
  pub ranking : IsRanking (length book.docs) docs
  pub order : IsTrecOrder (rows_on_topic run book.name) (doc_names book docs)

-- a run's ranking of each topic
abbrev pub AreRankingsOf : List Book → Run → List (List ℕ) → Type 0
AreRankingsOf books run rankings = AllZip (IsRankingOf run) books rankings

-- one more ranking at the end of those of a run: that of a topic
pub record IsOneMore (run : Run) (book : Book) (old new : List (List ℕ)) : Type 0 where
  pub docs : List ℕ
  pub ranking : IsRankingOf run book docs
  pub added : new ≡ old ++ docs ∷ []

-- each run has one more ranking: that of a topic
abbrev pub HaveOneMore : List Run → Book → List (List (List ℕ)) → List (List (List ℕ)) → Type 0
HaveOneMore runs book old new = (r : ℕ) (run : Run) → slice_get runs r ≡ Some run → IsOneMore run book (slice_index_or old r []) (slice_index_or new r [])

-- numbers that, where each has its place in the universe, rank the documents of a run on a topic
pub record AreDocsOf (run : Run) (book : Book) (places numbers : List ℕ) : Type 0 where
  pub known : All (λ n. n < length places) numbers
  pub within : All (λ doc. doc < length book.docs) (map (slice_index places) numbers)
  pub order : IsTrecOrder (rows_on_topic run book.name) (doc_names book (map (slice_index places) numbers))

-- a document's number: one that the qrels list of a topic has its number there, and any other has a greater one
pub record IsNumberedAfter (documents : List Valued) (name : List ℕ) (number : ℕ) : Type 0 where
  pub known : number < length documents → slice_index_or (listed documents) number [] ≡ name
  pub others : length documents ≤ number → list_any (bytes_eq name) (listed documents) ≡ false

-- a run has given back its rows on a topic; those on other topics are as they were
pub record Forgets (topic : List ℕ) (old new : Run) : Type 0 where
  pub gone : rows_on_topic new topic ≡ []
  pub others : (other : List ℕ) → bytes_eq topic other ≡ false → rows_on_topic new other ≡ rows_on_topic old other
  pub rows : row_count new.topics ≤ row_count old.topics

-- the rows of a run on the topics from one on are as they were at first
abbrev pub HasRowsFrom : List (List ℕ) → ℕ → Run → Run → Type 0
HasRowsFrom topics i first now =
    (k : ℕ) → i ≤ k → k < length topics → rows_on_topic now (slice_index_or topics k []) ≡ rows_on_topic first (slice_index_or topics k [])
