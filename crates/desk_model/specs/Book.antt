-- A topic's documents, and what the judgements file says of them.
use Rattle.std.specs.Prelude.{◌≡◌, ℕ, ◌≤◌, true, All, List, length, slice_index_or, Option, None, ℤ}
use Rattle.desk_model.specs.Limits.{DOCUMENT_LIMIT}
use Rattle.desk_model.specs.Name.{is_name, AreAscending}

-- a topic: its name, the names of its documents, and the grade of each where the judgements file lists it
pub record Book : Type 0 where
  pub name : List ℕ
  pub docs : List (List ℕ)
  pub grades : List (Option ℤ)

-- the universe of a topic: different names, numbered from 0 in ascending order
pub record IsBook (book : Book) : Type 0 where
  pub named : is_name book.name ≡ true
  pub documents : All (λ doc. is_name doc ≡ true) book.docs
  pub ascending : AreAscending book.docs
  pub small : length book.docs ≤ DOCUMENT_LIMIT
  pub graded : length book.grades ≡ length book.docs

-- the grade that the judgements file gives a document, where it lists it
abbrev pub file_grade_of : Book → ℕ → Option ℤ
file_grade_of book doc = slice_index_or book.grades doc None
