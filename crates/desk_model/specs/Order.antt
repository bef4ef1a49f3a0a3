-- When the mean of a run is always above that of another.
use Rattle.std.specs.Prelude.{ℕ, List, [], ◌∷◌, length}
use Rattle.std.specs.List.{AllZip}
use Rattle.desk_model.specs.Completion.{Completion, Completes}
use Rattle.desk_model.specs.Fraction.{Fraction, mean, IsBelow, IsSame}
use Rattle.desk_model.specs.Score.{score}
use Rattle.desk_model.specs.declared.types.Mark.{Mark}
use Rattle.desk_model.specs.declared.types.MeasureName.{MeasureName}

-- a topic: the marks of its documents, and the ranking of each run
pub record Topic : Type 0 where
  pub marks : List Mark
  pub ranking : ℕ → List ℕ

-- a completion of the judgements is one completion for each topic
abbrev pub IsCompletion : List Topic → List Completion → Type 0
IsCompletion topics completions = AllZip (λ topic c. Completes topic.marks c.truth) topics completions

-- what a run scores on a topic in a completion
abbrev pub run_score : MeasureName → ℕ → Topic → Completion → Fraction
run_score measure run topic c = score measure (length topic.marks) c.truth (topic.ranking run) (c.tail run)

-- what a run scores on each topic
abbrev pub run_scores : MeasureName → ℕ → List Topic → List Completion → List Fraction
run_scores measure run [] cs = []
run_scores measure run (topic ∷ topics) [] = []
run_scores measure run (topic ∷ topics) (c ∷ cs) = run_score measure run topic c ∷ run_scores measure run topics cs

-- the mean of a run over all topics
abbrev pub run_mean : MeasureName → ℕ → List Topic → List Completion → Fraction
run_mean measure run topics cs = mean (run_scores measure run topics cs)

-- the mean of a is greater than that of b in every completion of the judgements
pub record IsAlwaysAbove (measure : MeasureName) (topics : List Topic) (a b : ℕ) : Type 0 where
  pub in_every : (cs : List Completion) → IsCompletion topics cs → IsBelow (run_mean measure b topics cs) (run_mean measure a topics cs)

-- the two means are equal in every completion of the judgements
pub record AreAlwaysEqual (measure : MeasureName) (topics : List Topic) (a b : ℕ) : Type 0 where
  pub in_every : (cs : List Completion) → IsCompletion topics cs → IsSame (run_mean measure a topics cs) (run_mean measure b topics cs)
