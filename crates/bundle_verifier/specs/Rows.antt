-- The evidence of a claim with the names and numbers that its picks stand for.
use Rattle.std.specs.Prelude.{◌≡◌, ℕ, List, map, slice_get, Option, Some}
use Rattle.std.specs.List.{zip}
use Rattle.desk_model.specs.Book.{Book}
use Rattle.desk_model.specs.Desk.{Desk}
use Rattle.order_bundle.specs.Evidence.{named_lists}
use Rattle.order_bundle.specs.declared.bundle.Picks.{Picks}
use Rattle.order_bundle.specs.declared.bundle.TopicNames.{TopicNames}
use Rattle.order_certificate.specs.declared.certificate.TopicWitness.{TopicWitness}
use Rattle.order_verifier.specs.Rows.{numbers_of}

-- topics with their documents, two lists for each, and a desk's numbers of the documents of the first topics
pub record PickRows : Type 0 where
  pub topics : List TopicNames
  pub picks : List Picks
  pub numbers : List (List (Option ℕ))

-- the lists with the names that they stand for
abbrev pub witnesses_of : PickRows → List TopicWitness
witnesses_of rows = map named_lists (zip rows.topics rows.picks)

-- the numbers of a topic, where they are there, are those of its documents among some
abbrev pub AreNumbersOn : PickRows → ℕ → List (List ℕ) → Type 0
AreNumbersOn rows topic docs = (t : TopicNames) (ns : List (Option ℕ)) → slice_get rows.topics topic ≡ Some t → slice_get rows.numbers topic ≡ Some ns → ns ≡ numbers_of docs t.docs

-- the numbers of the first topics are a desk's
abbrev pub AreNumbersOf : Desk → List TopicNames → List (List (Option ℕ)) → Type 0
AreNumbersOf desk topics numbers =
    (topic : ℕ) (book : Book) (t : TopicNames) (ns : List (Option ℕ)) → slice_get desk.topics topic ≡ Some book → slice_get topics topic ≡ Some t → slice_get numbers topic ≡ Some ns → ns ≡ numbers_of book.docs t.docs
