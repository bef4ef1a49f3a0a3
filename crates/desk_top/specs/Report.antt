-- What commands make of a desk.
use Rattle.std.specs.Prelude.{◌≡◌, ℕ, ◌≤◌, List, length, map, Option}
use Rattle.desk_outside.specs.Outside.{Files}
use Rattle.desk_words.specs.declared.command.Job.{Job}
use Rattle.desk_model.specs.Closing.{closed_under}
use Rattle.desk_model.specs.Desk.{Desk, file_marks}
use Rattle.desk_model.specs.MeasureText.{IsMeasure}
use Rattle.desk_model.specs.declared.types.Mark.{Mark}
use Rattle.desk_model.specs.declared.types.MeasureName.{MeasureName}
use Rattle.desk_words.specs.Words.{HasPersistence}
use Rattle.topic_counts.specs.declared.span.Span.{Span}
use Rattle.measure_core.specs.declared.cell.Cell.{Cell}
use Rattle.topics_pool.specs.Rows.{IsDeskOf}
use Rattle.graded_rbp.specs.Kept.{all_graded_totals, all_graded_bounds}
use Rattle.graded_rbp.specs.Score.{GradedMeasure, GREATEST_LIMIT, binary}
use Rattle.desk_report.specs.ByGrades.{graded_text}
use Rattle.desk_report.specs.Grading.{Grading, IsGrading}
use Rattle.desk_report.specs.Reports.{Subject, subject, IsTableOn}
use Rattle.desk_files.specs.Load.{Sources, sources, sources_for, Loaded, Reads}
use Rattle.bundle_report.specs.declared.report.Bundled.{Bundled}
use Rattle.bundle_report.specs.declared.report.Bundled.TheVariants as bundled
use Rattle.desk_report.specs.declared.reports.Certified.{Certified}
use Rattle.desk_report.specs.declared.reports.Certified.TheVariants as certified
use Rattle.desk_top.specs.declared.status.Status.TheVariants.{Done, Close}
use Rattle.desk_top.specs.declared.outcome.Outcome.{Outcome as Made}
use Rattle.desk_top.specs.declared.outcome.Outcome.TheVariants as made
use Rattle.desk_top.specs.declared.work.DeskTable.{DeskTable}
use Rattle.desk_top.specs.Told.{too_long_line}

-- what the desk of a job is read from, for one table; and for a table by grades, which has one for each level up to the greatest
abbrev pub sources_of : Job → Sources
sources_of job = sources job.qrels job.runs

abbrev pub graded_sources : Job → ℕ → Sources
graded_sources job greatest = sources_for greatest job.qrels job.runs

-- how the grades of a job are read
abbrev pub grading_of : Job → Grading
grading_of job = record { level = job.level; depth = job.depth }

-- a job that can be done on a desk of so many runs at least
pub record IsAsked (least : ℕ) (job : Job) : Type 0 where
  pub measure : IsMeasure job.measure
  pub grading : IsGrading (grading_of job)
  pub runs : least ≤ length job.runs

-- a job that can be done by grades, where they are cut to a greatest one
pub record IsAskedByGrades (job : Job) (greatest : ℕ) : Type 0 where
  pub on_desk : IsAsked 1 job
  pub biased : HasPersistence job.measure
  pub some : 1 ≤ greatest
  pub few : greatest ≤ GREATEST_LIMIT

-- a measure and a greatest grade, as rank-biased precision by grades
pub record IsMeasureByGrades (measure : MeasureName) (greatest : ℕ) (m : GradedMeasure) : Type 0 where
  pub biased : measure ≡ binary m
  pub cut : m.greatest ≡ greatest

-- the text is the table of a desk by grades
abbrev pub IsGradedText : GradedMeasure → Desk → List ℕ → Type 0
IsGradedText m desk text = text ≡ graded_text desk (binary m) m.greatest (all_graded_bounds m desk) (all_graded_totals m desk)

-- the marks that the judgements file gives the documents of a desk, under the depth of the job
abbrev pub marks_in : Job → Desk → List (List Mark)
marks_in job desk = closed_under desk job.depth (map (file_marks job.level) desk.topics)

-- what a report on the desk of a job speaks of
abbrev pub subject_of : Job → Desk → Subject
subject_of job desk = subject job.measure job.level job.depth desk (marks_in job desk)

-- what was made of the answer to two runs
abbrev pub shown_as : Certified → Made
shown_as (certified.Certificate text) = made.Prints text Done
shown_as (certified.Close text) = made.Prints text Close

-- what was made of the answer to all pairs: their text, or the line that tells how many bytes it would have
abbrev pub IsShownAs : Bundled → Made → Type 0
IsShownAs (bundled.Bundle text) outcome = outcome ≡ made.Prints text Done
IsShownAs (bundled.TooLong bytes) (made.Refuses line) = line.items ≡ too_long_line bytes
IsShownAs (bundled.TooLong bytes) outcome = ⊥

-- rows make a desk, of which something holds
pub record HasDeskOf (rows : Loaded) (fact : Desk → Type 0) : Type 0 where
  pub desk : Desk
  pub ranked : IsDeskOf rows.qrels rows.runs desk
  pub holds : fact desk

-- the desk of the files of a job, and the marks that they give
pub record IsDeskFor (job : Job) (known : Option Files) (desk : Desk) (marks : List (List Mark)) : Type 0 where
  pub rows : Loaded
  pub read : Reads known (sources_of job) rows
  pub ranked : IsDeskOf rows.qrels rows.runs desk
  pub runs : length desk.runs ≡ length job.runs
  pub marked : marks ≡ marks_in job desk

-- the same, and the table of the measure
pub record IsTabled {M : Type 0} (measured : MeasureName) (cell : List Mark → List ℕ → List ℕ → Cell) (bound : List Mark → List ℕ → Span) (job : Job) (known : Option Files) (on : DeskTable M) : Type 0 where
  pub of_files : IsDeskFor job known on.desk on.marks.rows
  pub table : IsTableOn measured cell bound (subject_of job on.desk) on.table
