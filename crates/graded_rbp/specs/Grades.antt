-- Completions by grades: each document of a topic has a number from 0 to a greatest one.
use Rattle.std.specs.Prelude.{◌≡◌, ℕ, ◌<◌, ◌≤◌, min, List, All, length, map, slice_index_or, Option, Some, None, ℤ, pos, negsuc}
use Rattle.std.specs.List.{AllZip, enumerate_from}
use Rattle.desk_model.specs.Book.{Book}
use Rattle.desk_model.specs.Desk.{Desk, ranking_of}

-- a topic: the grades of its documents, and the ranking of each run
pub record GradedTopic : Type 0 where
  pub grades : List (Option ℤ)
  pub ranking : ℕ → List ℕ

-- the topics of a desk, by the grades of the judgements file
abbrev pub graded_topics : Desk → List GradedTopic
graded_topics desk = map (λ (p : ℕ × Book). record { grades = p.1.grades; ranking = λ run. ranking_of desk run p.0 }) (enumerate_from 0 desk.topics)

-- the grade of a document, by its number in the universe
abbrev pub grade_at : List (Option ℤ) → ℕ → Option ℤ
grade_at grades doc = slice_index_or grades doc None

-- a number that a grade allows: the smaller of the grade and the greatest number, and where the document is unjudged, as it is below 0, any number
abbrev pub AllowsNumber : ℕ → Option ℤ → ℕ → Type 0
AllowsNumber greatest None number = number ≤ greatest
AllowsNumber greatest (Some (negsuc _)) number = number ≤ greatest
AllowsNumber greatest (Some (pos grade)) number = number ≡ min grade greatest

-- a completion by grades of a topic: the number of each document, and those of the places that each run shows past its end
pub record GradedCompletion : Type 0 where
  pub number : ℕ → ℕ
  pub tail : ℕ → List ℕ

-- each document of the topic has a number that its grade allows, and no place of a tail has more than the greatest
pub record CompletesGrades (greatest : ℕ) (topic : GradedTopic) (c : GradedCompletion) : Type 0 where
  pub allowed : (doc : ℕ) → doc < length topic.grades → AllowsNumber greatest (grade_at topic.grades doc) (c.number doc)
  pub tails : (run : ℕ) → All (λ number. number ≤ greatest) (c.tail run)

-- a completion by grades of the judgements is one for each topic
abbrev pub IsGradedCompletion : ℕ → List GradedTopic → List GradedCompletion → Type 0
IsGradedCompletion greatest topics cs = AllZip (CompletesGrades greatest) topics cs
