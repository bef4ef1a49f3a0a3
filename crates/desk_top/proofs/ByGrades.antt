-- The command that prints a table by grades.
use Rattle.std.proofs.Common.{◌≡◌, ℕ, ◌+◌, ◌*◌, ◌≤◌, [], ◌∷◌, take, refl, sym, subst, inr, Vec, Global}
use Rattle.std.specs.Prelude.{Ok, Err}
use Rattle.desk_outside.specs.Seen.{Shelf}
use Rattle.desk_words.specs.declared.command.Job.{Job}
use Rattle.desk_model.specs.Desk.{Desk, IsDesk}
use Rattle.desk_model.specs.MeasureText.{IsMeasure}
use Rattle.topics_pool.specs.Rows.{IsDeskOf}
use Rattle.graded_rbp.specs.Score.{GradedMeasure, IsGradedMeasure, GREATEST_LIMIT}
use Rattle.desk_report.specs.ByGrades.{IsTrueTextByGrades}
use Rattle.desk_report.specs.Reports.{cells_of}
use Rattle.desk_files.specs.Load.{Loaded, loaded, Reads}
use Rattle.desk_files.specs.declared.stop.Stop.TheVariants as kept
use Rattle.desk_top.specs.declared.outcome.Outcome.TheVariants as made
use Rattle.desk_top.specs.declared.status.Status.TheVariants.{Done}
use Rattle.desk_top.specs.Answer.{OfGrades}
use Rattle.desk_top.specs.Outcome.{Outcome, Prints}
use Rattle.desk_top.specs.Report.{IsAskedByGrades, IsMeasureByGrades, IsGradedText, HasDeskOf, graded_sources}
use Rattle.desk_top.specs.Loading.{graded_loading}
use Rattle.desk_top.specs.Meaning.{graded_meaning, PrintsGraded}
use Rattle.desk_top.specs.Meets.{IsTruthful}
use Rattle.desk_top.specs.Truths.{PrintsTruth}
use Rattle.desk_top.specs.Works.{CountsFor, Works}
use Rattle.desk_top.proofs.Reporting.{found_may_come, makes_one_text}
use Rattle.desk_top.proofs.Truth.{IsTrueOutcome, outcome_is_true, one_text_is_true}

-- ---- what is made
module _ (job : Job) (greatest : ℕ) (rows : Loaded) (desk : Desk) (ranked : IsDeskOf rows.qrels rows.runs desk) (shelf : Shelf) (read : Reads shelf.files (graded_sources job greatest) rows)
    (before after : ℕ) (counted : after ≤ before + cells_of desk * greatest)
  where
    graded_comes : (graded_loading job greatest).comes shelf.files (Ok rows)
    graded_comes = found_may_come (λ files found. loaded files (graded_sources job greatest) ≡ found) shelf.files rows read

    graded_counts : CountsFor (graded_meaning job greatest) before after rows
    graded_counts = (cells_of desk * greatest, λ taken. record { desk = desk; ranked = ranked; holds = refl }, counted)

    pub graded_memory : Works (graded_meaning job greatest) shelf before after (Err kept.Memory)
    graded_memory = (tt, inr (refl, rows, graded_comes, graded_counts))

    pub graded_works : IsAskedByGrades job greatest → (text : Vec ℕ Global) → ((m : GradedMeasure) → IsMeasureByGrades job.measure greatest m → IsGradedText m desk text.items) → Works (graded_meaning job greatest) shelf before after (Ok (made.Prints text Done))
    graded_works asked text is =
        let m : GradedMeasure = record { top = asked.biased.0; bottom = asked.biased.1; greatest = greatest } in
        let of : IsMeasureByGrades job.measure greatest m = record { biased = asked.biased.2; cut = refl } in
        let outcome : Outcome = Prints Done (record { about = OfGrades m desk; text = text.items } ∷ []) in (
          rows,
          graded_comes,
          (makes_one_text (graded_meaning job greatest) rows (OfGrades m desk) text.items Done tt (λ input. (outcome, record { desk = desk; ranked = ranked; holds = (m, of, (text.items, is m of, refl)) }, refl)), graded_counts),
        )

-- ---- what it says
module _ (laws : PrintsTruth) (job : Job) (greatest : ℕ) (asked : IsAskedByGrades job greatest) where
  measure_asked : (m : GradedMeasure) → IsMeasureByGrades job.measure greatest m → IsGradedMeasure m
  measure_asked m of = record {
    persistence = subst IsMeasure of.biased asked.on_desk.measure;
    some = subst (λ n. 1 ≤ n) (sym of.cut) asked.some;
    few = subst (λ n. n ≤ GREATEST_LIMIT) (sym of.cut) asked.few;
  }

  graded_is_true : (desk : Desk) → IsDesk desk → (outcome : Outcome) → PrintsGraded job greatest desk outcome → IsTrueOutcome outcome
  graded_is_true desk valid outcome (m, of, printed) =
      one_text_is_true Done (OfGrades m desk) (IsGradedText m desk) (λ text n is. subst (λ t. IsTrueTextByGrades m desk (take n t)) (sym is) (laws.graded m desk n (measure_asked m of) valid)) outcome printed

  pub graded_is_truthful : IsTruthful (graded_meaning job greatest)
  graded_is_truthful rows input answer is =
      outcome_is_true (λ outcome. HasDeskOf rows (λ desk. PrintsGraded job greatest desk outcome)) (λ outcome has. graded_is_true has.desk has.ranked.valid outcome has.holds) answer is
