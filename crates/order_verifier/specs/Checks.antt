-- Parts of checking a certificate.
use Rattle.std.specs.Prelude.{◌≡◌, ℕ, ◌<◌, ◌≤◌, List, [], length, slice_get, Some}
use Rattle.desk_model.specs.Desk.{Desk, IsDesk, AreMarksOf}
use Rattle.desk_model.specs.Limits.{DOCUMENT_LIMIT}
use Rattle.desk_model.specs.Name.{AreAscending}
use Rattle.desk_model.specs.declared.types.Mark.{Mark}
use Rattle.order_certificate.specs.Claim.{NamedTopic}
use Rattle.order_certificate.specs.Evidence.{AreUnjudged}

-- a fact of a topic by its number
abbrev pub OfTopic : List NamedTopic → ℕ → (NamedTopic → Type 0) → Type 0
OfTopic topics t fact = (topic : NamedTopic) × (slice_get topics t ≡ Some topic) × fact topic

-- the documents of a topic with their marks, and some names
pub record NamesOnTopic : Type 0 where
  pub docs : List (List ℕ)
  pub marks : List Mark
  pub names : List (List ℕ)

-- the topic, which no run is asked of
abbrev pub unranked : NamesOnTopic → NamedTopic
unranked l = record { docs = l.docs; topic = record { marks = l.marks; ranking = λ _. [] } }

-- the documents ascend by name, and the names are those of different unjudged ones, ascending
pub record AreListed (l : NamesOnTopic) : Type 0 where
  pub sized : length l.marks ≡ length l.docs
  pub small : length l.docs ≤ DOCUMENT_LIMIT
  pub docs : AreAscending l.docs
  pub names : AreAscending l.names
  pub unjudged : AreUnjudged (unranked l) l.names

-- what two runs are compared on: a desk, its marks, and two of its runs
pub record IsComparison (desk : Desk) (marks : List (List Mark)) (first second : ℕ) : Type 0 where
  pub whole : IsDesk desk
  pub known : AreMarksOf desk marks
  pub first_known : first < length desk.runs
  pub second_known : second < length desk.runs
