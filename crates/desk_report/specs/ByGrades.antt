-- The printed table by grades, and what it claims.
use Rattle.std.specs.Prelude.{◌≡◌, ◌*◌, ℕ, List, [], ◌∷◌, ◌++◌, length, take, All, codes, decimal, flat_map, ℤ}
use Rattle.desk_text.specs.Lines.{whole_lines}
use Rattle.desk_model.specs.Desk.{Desk, IsDesk}
use Rattle.desk_model.specs.Extremes.{IsAtMostScore, IsAtLeastScore}
use Rattle.desk_model.specs.Fraction.{IsAtMost, IsAtLeast}
use Rattle.desk_model.specs.Limits.{PARTS_OF_ONE}
use Rattle.desk_model.specs.MeasureText.{measure_text}
use Rattle.desk_model.specs.declared.types.MeasureName.{MeasureName}
use Rattle.desk_model.specs.declared.types.Totals.{Totals}
use Rattle.graded_rbp.specs.Grades.{GradedTopic, GradedCompletion, IsGradedCompletion, graded_topics}
use Rattle.graded_rbp.specs.Kept.{all_graded_totals, all_graded_bounds}
use Rattle.graded_rbp.specs.Orders.{IsAlwaysAboveByGrades, AreAlwaysEqualByGrades, AreUndecidedByGrades}
use Rattle.graded_rbp.specs.Score.{GradedMeasure, IsGradedMeasure, binary, graded_mean}
use Rattle.order_bundle.specs.Scoped.{IsScopedText}
use Rattle.order_bundle.specs.declared.scoped.Scoped.{Scoped}
use Rattle.topic_counts.specs.declared.span.Span.{Span}
use Rattle.desk_report.specs.Claims.{HoldsByName, HoldsByNames, IsPairLine, IsRunLine}
use Rattle.desk_report.specs.Means.{decimal_text}
use Rattle.desk_report.specs.Table.{run_lines, pair_lines, ended}

-- the lines before the runs: the greatest number stands where a table has its level
abbrev pub graded_head : MeasureName → ℕ → ℕ → ℕ → List (List ℕ)
graded_head measure greatest topics runs =
    (codes "measure " ++ measure_text measure) ∷ (codes "greatest " ++ decimal greatest) ∷ (codes "topics " ++ decimal topics) ∷ (codes "runs " ++ decimal runs) ∷ []

-- the lines of the table by grades; the greatest number times 10^18 parts make a score of 1
unfoldable pub graded_lines : Desk → MeasureName → ℕ → List Span → List Totals → List (List ℕ)
graded_lines desk measure greatest bounds totals =
    let parts = greatest * PARTS_OF_ONE * length desk.topics in
    graded_head measure greatest (length desk.topics) (length desk.runs)
    ++ run_lines parts desk.runs bounds
    ++ pair_lines parts desk.runs totals

-- the table by grades
unfoldable pub graded_text : Desk → MeasureName → ℕ → List Span → List Totals → List ℕ
graded_text desk measure greatest bounds totals = flat_map ended (graded_lines desk measure greatest bounds totals)

-- ---- what it claims
-- two texts are decimals, in millionths, between which the mean of a minus that of b lies in every completion by grades
pub record EnclosesDifferenceByGrades (m : GradedMeasure) (topics : List GradedTopic) (low high : List ℕ) (a b : ℕ) : Type 0 where
  pub least : ℤ
  pub most : ℤ
  pub low_text : low ≡ decimal_text least
  pub high_text : high ≡ decimal_text most
  pub from_least : (cs : List GradedCompletion) → IsGradedCompletion m.greatest topics cs → IsAtMost least 1000000 (graded_mean m a topics cs) (graded_mean m b topics cs)
  pub to_most : (cs : List GradedCompletion) → IsGradedCompletion m.greatest topics cs → IsAtLeast most 1000000 (graded_mean m a topics cs) (graded_mean m b topics cs)

-- two texts are decimals, in millionths, between which the mean of a run lies in every completion by grades
pub record EnclosesMeanByGrades (m : GradedMeasure) (topics : List GradedTopic) (low high : List ℕ) (run : ℕ) : Type 0 where
  pub least : ℤ
  pub most : ℤ
  pub low_text : low ≡ decimal_text least
  pub high_text : high ≡ decimal_text most
  pub from_least : (cs : List GradedCompletion) → IsGradedCompletion m.greatest topics cs → IsAtMostScore least 1000000 (graded_mean m run topics cs)
  pub to_most : (cs : List GradedCompletion) → IsGradedCompletion m.greatest topics cs → IsAtLeastScore most 1000000 (graded_mean m run topics cs)

-- what a line claims of two runs or of one is true by grades
pub record IsTrueLineByGrades (m : GradedMeasure) (desk : Desk) (line : List ℕ) : Type 0 where
  pub above : (first second low high : List ℕ) → IsPairLine line first (codes "above") second low high →
      HoldsByNames desk first second (λ a b. IsAlwaysAboveByGrades m (graded_topics desk) a b)
  pub below : (first second low high : List ℕ) → IsPairLine line first (codes "below") second low high →
      HoldsByNames desk first second (λ a b. IsAlwaysAboveByGrades m (graded_topics desk) b a)
  pub equal : (first second low high : List ℕ) → IsPairLine line first (codes "equal") second low high →
      HoldsByNames desk first second (AreAlwaysEqualByGrades m (graded_topics desk))
  pub undecided : (first second low high : List ℕ) → IsPairLine line first (codes "open") second low high →
      HoldsByNames desk first second (AreUndecidedByGrades m (graded_topics desk))
  pub pair_bounds : (first word second low high : List ℕ) → IsPairLine line first word second low high →
      HoldsByNames desk first second (EnclosesDifferenceByGrades m (graded_topics desk) low high)
  pub run_bounds : (run low high : List ℕ) → IsRunLine line run low high →
      HoldsByName desk run (EnclosesMeanByGrades m (graded_topics desk) low high)

-- what received bytes claim of a desk by its grades is true: each whole line; and they are no certificate
pub record IsTrueTextByGrades (m : GradedMeasure) (desk : Desk) (received : List ℕ) : Type 0 where
  pub lines : All (IsTrueLineByGrades m desk) (whole_lines received)
  pub claim : (c : Scoped) → IsScopedText received c → ⊥

-- whatever was received of a table by grades is true
abbrev pub GradedTextsAreTrue : Type 0
GradedTextsAreTrue =
    (m : GradedMeasure) (desk : Desk) (received : ℕ) → IsGradedMeasure m → IsDesk desk →
    IsTrueTextByGrades m desk (take received (graded_text desk (binary m) m.greatest (all_graded_bounds m desk) (all_graded_totals m desk)))
