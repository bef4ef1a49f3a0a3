-- What is listed for each topic, by its number.
use Rattle.std.specs.Prelude.{◌≡◌, ℕ, ◌<◌, ◌≤◌, Bool, true, false, List, [], All, length, map, slice_get, slice_index_or, Option, Some, unwrap_or}
use Rattle.std.specs.List.{list_any}
use Rattle.desk_model.specs.Book.{Book}
use Rattle.desk_model.specs.Desk.{Desk}
use Rattle.desk_model.specs.Name.{AreAscending, is_same_name, number_of}
use Rattle.order_verifier.specs.declared.documents.ListForm.{ListForm}
use Rattle.order_verifier.specs.declared.documents.ListForm.TheVariants.{Names, FlaggedNames, Picks, NumberedPicks}

-- the names of a list: all of some names, or those picked of them by their numbers
abbrev pub names_listed : List (List ℕ) → List ℕ → Bool → List (List ℕ)
names_listed names picks false = names
names_listed names picks true = map (λ k. slice_index_or names k []) picks

-- the documents of a topic, and those that a list names
pub record ListedOn : Type 0 where
  pub docs : List (List ℕ)
  pub names : List (List ℕ)

abbrev pub is_picked : ListForm → Bool
is_picked Names = false
is_picked FlaggedNames = false
is_picked Picks = true
is_picked NumberedPicks = true

-- the number of each of some names among the documents of a topic
abbrev pub numbers_of : List (List ℕ) → List (List ℕ) → List (Option ℕ)
numbers_of docs names = map (number_of docs) names

-- that of the name with a number among them, and 0 where it has none
abbrev pub number_of_pick : List (List ℕ) → List (Option ℕ) → ℕ → ℕ
number_of_pick docs numbers k = unwrap_or (slice_index_or numbers k (number_of docs [])) 0

-- numbers that are known are those of the names
abbrev pub AreNumbered : ListForm → List (List ℕ) → List (List ℕ) → List (Option ℕ) → Type 0
AreNumbered Names docs names numbers = Unit {0}
AreNumbered FlaggedNames docs names numbers = Unit {0}
AreNumbered Picks docs names numbers = Unit {0}
AreNumbered NumberedPicks docs names numbers = numbers ≡ numbers_of docs names

-- whether a list names a document of a topic
abbrev pub is_named : List (List ℕ) → List (List ℕ) → ℕ → Bool
is_named docs names doc = list_any (λ each. is_same_name each (slice_index_or docs doc [])) names

-- as far as flags go, the one of each document says whether the list names it
abbrev pub AreFlags : List (List ℕ) → List (List ℕ) → List Bool → Type 0
AreFlags docs names flags = (doc : ℕ) → doc < length docs → doc < length flags → slice_index_or flags doc false ≡ is_named docs names doc

-- flags that are known are those of all documents
abbrev pub AreFlagged : ListForm → List (List ℕ) → List (List ℕ) → List Bool → Type 0
AreFlagged FlaggedNames docs names flags = (length docs ≤ length flags) × AreFlags docs names flags
AreFlagged Names docs names flags = Unit {0}
AreFlagged Picks docs names flags = Unit {0}
AreFlagged NumberedPicks docs names flags = Unit {0}

-- ascending names of documents of a topic, which ascend, too
pub record AreKnown (docs names : List (List ℕ)) : Type 0 where
  pub docs_ascend : AreAscending docs
  pub names_ascend : AreAscending names
  pub known : All (λ name. (number : ℕ) × (number_of docs name ≡ Some number)) names

-- a fact of the row with a number
abbrev pub OfRow : {X : Type 0} → List X → ℕ → (X → Type 0) → Type 0
OfRow {X} rows n fact = (row : X) × (slice_get rows n ≡ Some row) × fact row

-- what is known of documents on each topic of a desk is so
abbrev pub SuitDesk : (ℕ → List (List ℕ) → Type 0) → Desk → Type 0
SuitDesk suits desk = (topic : ℕ) (book : Book) → slice_get desk.topics topic ≡ Some book → suits topic book.docs
