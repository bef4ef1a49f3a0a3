-- Topics and documents by their numbers.
use Rattle.std.specs.Prelude.{ℕ, List, [], slice_index_or}
use Rattle.desk_model.specs.Book.{Book}
use Rattle.desk_model.specs.Desk.{Desk}

-- a topic by its number
abbrev pub book_at : Desk → ℕ → Book
book_at desk topic = slice_index_or desk.topics topic (record { name = []; docs = []; grades = [] })

-- the name of a document, by the numbers of its topic and of itself
abbrev pub name_at : Desk → ℕ → ℕ → List ℕ
name_at desk topic doc = slice_index_or (book_at desk topic).docs doc []
