-- What is made of the files of a command.
use Rattle.std.proofs.Common.{◌≡◌, ℕ, ◌+◌, List, [], ◌∷◌, refl, ap, sym, subst, arith, append-nil, inl, inr}
use Rattle.std.specs.Result.{IsErrAnd}
use Rattle.std.specs.Prelude.{Option, Some, None, Result, Ok, Err, IfSome, IsSomeAnd}
use Rattle.desk_outside.specs.Outside.{Files}
use Rattle.desk_outside.specs.Seen.{Shelf}
use Rattle.desk_words.specs.declared.command.Check.{Check}
use Rattle.desk_words.specs.declared.command.Job.{Job}
use Rattle.desk_model.specs.Desk.{Desk, AreMarksOf}
use Rattle.desk_model.specs.declared.types.Mark.{Mark}
use Rattle.desk_model.specs.declared.types.MeasureName.{MeasureName}
use Rattle.topic_counts.specs.declared.span.Span.{Span}
use Rattle.measure_core.specs.declared.cell.Cell.{Cell}
use Rattle.topics_pool.specs.Rows.{IsDeskOf}
use Rattle.desk_files.specs.Files.{Stop, Outside, Refused, Refusal}
use Rattle.desk_files.specs.Load.{Sources, Loaded, loaded, Reads}
use Rattle.desk_files.specs.Outcome.{StopsAt, Stops}
use Rattle.desk_files.specs.Checks.{CheckComes}
use Rattle.desk_files.specs.Views.{refusal_of}
use Rattle.desk_files.specs.declared.stop.Stop.{Stop as KeptStop}
use Rattle.desk_files.specs.declared.stop.Stop.TheVariants as kept
use Rattle.desk_files.proofs.Opening.{may_open_qrels}
use Rattle.desk_files.proofs.Checking.{check_opens_qrels}
use Rattle.desk_report.specs.Reports.{Subject, cells_of, IsSubjectOf, IsSumsOn, IsCertifiedAs}
use Rattle.pair_table.specs.Kept.{HeldSums, StandsFor, table_sums}
use Rattle.pair_table.proofs.Saying.{sums_too}
use Rattle.bundle_report.specs.Bundled.{IsBundledAs}
use Rattle.bundle_report.specs.declared.report.Bundled.{Bundled}
use Rattle.bundle_report.specs.declared.report.Bundled.TheVariants as bundled
use Rattle.desk_report.specs.declared.reports.Certified.{Certified}
use Rattle.desk_report.specs.declared.reports.Certified.TheVariants as certified
use Rattle.desk_top.specs.declared.status.Status.{Status}
use Rattle.desk_top.specs.declared.outcome.Outcome.{Outcome as Made}
use Rattle.desk_top.specs.declared.outcome.Outcome.TheVariants as made
use Rattle.desk_top.specs.declared.status.Status.TheVariants.{Done, Close, Refused as Refused-status}
use Rattle.desk_top.specs.Status.{GoesWithText}
use Rattle.desk_top.specs.Answer.{About, OfRuns}
use Rattle.desk_top.specs.Outcome.{Outcome, Prints, Refuses}
use Rattle.desk_top.specs.Report.{marks_in, sources_of, subject_of, shown_as, IsDeskFor, IsShownAs, IsTabled}
use Rattle.desk_top.specs.declared.work.DeskTable.{DeskTable}
use Rattle.desk_top.specs.Loading.{Loading, MayCome, OpensFiles, loading_from, desk_loading, check_loading}
use Rattle.desk_top.specs.Meaning.{Meaning, desk_meaning, PrintsCertificate, PrintsAllPairs}
use Rattle.desk_top.specs.Works.{CountsFor, MakesText, MakesOutcome, StopsLoading, Works}
use Rattle.desk_top.proofs.Marking.{marks_known}

-- what holds of a stop holds of the answer that hands it on
pub handed_on : {X : Type 0} (fact : Result X KeptStop → Type 0) (result : Result X KeptStop) (stop : KeptStop) → IsErrAnd result (λ e. e ≡ stop) → fact (Err stop) → fact result
handed_on fact (Ok x) stop is holds = absurd is
handed_on fact (Err e) stop is holds = subst (λ s. fact (Err s)) (sym is) holds

-- ---- what files come to
module _ {X : Type 0} (comes : Files → Result X Stop → Type 0) where
  pub found_may_come : (known : Option Files) (found : X) → IfSome known (λ files. comes files (Ok found)) → MayCome known comes (Ok found)
  found_may_come None found read = tt
  found_may_come (Some files) found read = read

  pub refusal_may_come : (known : Option Files) (refusal : Refusal) → IfSome known (λ files. comes files (Err (Refused refusal))) → MayCome known comes (Err (Refused refusal))
  refusal_may_come None refusal read = tt
  refusal_may_come (Some files) refusal read = read

  pub missing_may_come : (known : Option Files) → IsSomeAnd known (λ files. comes files (Err Outside)) → MayCome known comes (Err Outside)
  missing_may_come None is = is
  missing_may_come (Some files) is = is

  -- files of which one at least may be opened
  abbrev loading_by : (Option Files → List (List ℕ) → Type 0) → Loading
  loading_by opens = record { Found = X; comes = λ known found. MayCome known comes found; opens = opens }

  pub stops_loading : (opens : Option Files → List (List ℕ) → Type 0) (shelf : Shelf) (stop : KeptStop) → OpensFiles (loading_by opens) shelf.files → StopsAt shelf.files shelf.before shelf.after stop (λ files why. comes files (Err why)) → StopsLoading (loading_by opens) shelf stop
  stops_loading opens shelf (kept.Refused refusal) one stops = refusal_may_come shelf.files (refusal_of refusal) stops
  stops_loading opens shelf kept.Outside one (inl rose) = inl (one, rose)
  stops_loading opens shelf kept.Outside one (inr missing) = inr (missing_may_come shelf.files missing)
  stops_loading opens shelf kept.Memory one stops = tt

-- why there is no desk
pub desk_stops : (from : Sources) (shelf : Shelf) (stop : KeptStop) → Stops shelf.files shelf.before shelf.after stop (λ held. loaded held from) → StopsLoading (loading_from from) shelf stop
desk_stops from shelf stop stops = stops_loading (λ files found. loaded files from ≡ found) (loading_from from).opens shelf stop (from.qrels, may_open_qrels shelf.files from) stops

-- why there is no desk or no certificate
pub check_stops : (check : Check) (shelf : Shelf) (stop : KeptStop) → StopsAt shelf.files shelf.before shelf.after stop (λ files why. CheckComes files check (Err why)) → StopsLoading (check_loading check) shelf stop
check_stops check shelf stop stops =
    stops_loading (λ files found. CheckComes files check found) (check_loading check).opens shelf stop (check.qrels, check_opens_qrels shelf.files check) stops

-- ---- a text on a desk
-- a text that was made is one text of an outcome
pub makes_one_text : (meaning : Meaning) (found : meaning.loading.Found) (about : About) (text : List ℕ) (status : Status) → GoesWithText status → ((input : _) → meaning.answers found input (record { status = status; said = record { about = about; text = text } ∷ []; told = [] })) → MakesText meaning found text status
makes_one_text meaning found about text status goes answers = record { said = record { about = about; text = text } ∷ []; is = sym (append-nil text); goes = goes; answers = answers }

module _ (job : Job) (least : ℕ) (ends : List Status) (makes : Subject → Outcome → Type 0) (rows : Loaded) (desk : Desk) (ranked : IsDeskOf rows.qrels rows.runs desk) where
  abbrev on_desk : Meaning
  on_desk = desk_meaning job least ends makes

  -- the cells of its table
  pub desk_counts : (before after : ℕ) → after ≡ before + cells_of desk → CountsFor on_desk before after rows
  desk_counts before after is = (cells_of desk, λ taken. record { desk = desk; ranked = ranked; holds = refl }, omega (arith, is))

  -- a text of it
  pub desk_makes : (about : About) (text : List ℕ) (status : Status) → GoesWithText status → makes (subject_of job desk) (Prints status (record { about = about; text = text } ∷ [])) → MakesText on_desk rows text status
  desk_makes about text status goes holds =
      makes_one_text on_desk rows about text status goes (λ input. (Prints status (record { about = about; text = text } ∷ []), record { desk = desk; ranked = ranked; holds = holds }, refl))

  -- it was made, or memory for it ran out
  module _ (shelf : Shelf) (read : Reads shelf.files (sources_of job) rows) (before after : ℕ) (counted : after ≡ before + cells_of desk) where
    desk_comes : (desk_loading job).comes shelf.files (Ok rows)
    desk_comes = found_may_come (λ files found. loaded files (sources_of job) ≡ found) shelf.files rows read

    pub desk_works : (made : _) → MakesOutcome on_desk before after rows made → Works on_desk shelf before after (Ok made)
    desk_works made is = (rows, desk_comes, is)

    pub desk_memory : (stop : KeptStop) → stop ≡ kept.Memory → Works on_desk shelf before after (Err stop)
    desk_memory stop is = (subst (StopsLoading (desk_loading job) shelf) (sym is) tt, inr (is, rows, desk_comes, desk_counts before after counted))

-- the certificate of two runs, or their close line
pub shown_makes : (job : Job) (rows : Loaded) (desk : Desk) → IsDeskOf rows.qrels rows.runs desk → (before after : ℕ) → after ≡ before + cells_of desk → (answer : Certified) → IsCertifiedAs (subject_of job desk) 0 1 answer →
    MakesOutcome (desk_meaning job 2 (Done ∷ Close ∷ []) PrintsCertificate) before after rows (shown_as answer)
shown_makes job rows desk ranked before after counted (certified.Certificate text) is =
    (desk_makes job 2 (Done ∷ Close ∷ []) PrintsCertificate rows desk ranked (OfRuns (subject_of job desk)) text.items Done tt (inl (text.items, is, refl)), desk_counts job 2 (Done ∷ Close ∷ []) PrintsCertificate rows desk ranked before after counted)
shown_makes job rows desk ranked before after counted (certified.Close text) is =
    (desk_makes job 2 (Done ∷ Close ∷ []) PrintsCertificate rows desk ranked (OfRuns (subject_of job desk)) text.items Close tt (inr (text.items, is, refl)), desk_counts job 2 (Done ∷ Close ∷ []) PrintsCertificate rows desk ranked before after counted)

-- the certificate of all pairs, or that its text would be too long
pub all_shown_makes : (job : Job) (rows : Loaded) (desk : Desk) → IsDeskOf rows.qrels rows.runs desk → (before after : ℕ) → after ≡ before + cells_of desk → (answer : Bundled) → IsBundledAs (subject_of job desk) answer →
    (outcome : Made) → IsShownAs answer outcome → MakesOutcome (desk_meaning job 2 (Done ∷ Refused-status ∷ []) PrintsAllPairs) before after rows outcome
all_shown_makes job rows desk ranked before after counted (bundled.Bundle text) is outcome shown =
    subst (MakesOutcome (desk_meaning job 2 (Done ∷ Refused-status ∷ []) PrintsAllPairs) before after rows) (sym shown)
    (desk_makes job 2 (Done ∷ Refused-status ∷ []) PrintsAllPairs rows desk ranked (OfRuns (subject_of job desk)) text.items Done tt (inl (text.items, is, refl)), desk_counts job 2 (Done ∷ Refused-status ∷ []) PrintsAllPairs rows desk ranked before after counted)
all_shown_makes job rows desk ranked before after counted (bundled.TooLong bytes) is (made.Refuses line) shown = (
  λ input. (Refuses line.items, record { desk = desk; ranked = ranked; holds = inr (bytes, is, ap Refuses shown) }, refl),
  desk_counts job 2 (Done ∷ Refused-status ∷ []) PrintsAllPairs rows desk ranked before after counted,
)
all_shown_makes job rows desk ranked before after counted (bundled.TooLong bytes) is (made.Prints text status) shown = absurd shown
all_shown_makes job rows desk ranked before after counted (bundled.TooLong bytes) is (made.Holds other measure grading) shown = absurd shown

-- what the sums of a desk speak of, and its marks
module _ (job : Job) (known : Option Files) (desk : Desk) (marks : List (List Mark)) (is : IsDeskFor job known desk marks) where
  pub desk_subject : {M : Type 0} (measured : MeasureName) (cell : List Mark → List ℕ → List ℕ → Cell) (bound : List Mark → List ℕ → Span) (sums : HeldSums M) → IsSumsOn measured cell bound (subject_of job desk) sums → IsSubjectOf measured cell bound desk sums (subject_of job desk)
  desk_subject measured cell bound sums on = record { over = refl; marked = marks_known job.level job.depth desk is.ranked.valid; on = on }

  pub desk_marks : AreMarksOf desk marks
  desk_marks = subst (AreMarksOf desk) (sym is.marked) (marks_known job.level job.depth desk is.ranked.valid)

-- what a desk with its table speaks of
module _ {M : Type 0} (measured : MeasureName) (cell : List Mark → List ℕ → List ℕ → Cell) (bound : List Mark → List ℕ → Span) (job : Job) (known : Option Files) (on : DeskTable M) (is : IsTabled measured cell bound job known on) where
  pub tabled_subject : IsSubjectOf measured cell bound on.desk (table_sums on.table) (subject_of job on.desk)
  tabled_subject = desk_subject job known on.desk on.marks.rows is.of_files measured cell bound (table_sums on.table) (sums_too measured cell bound job.measure on.desk (marks_in job on.desk) on.table is.table)

  pub tabled_marks : AreMarksOf on.desk on.marks.rows
  tabled_marks = desk_marks job known on.desk on.marks.rows is.of_files

  pub tabled_stands : StandsFor cell bound on.desk on.marks.rows on.table
  tabled_stands = subst (λ marks. StandsFor cell bound on.desk marks on.table) (sym is.of_files.marked) is.table.stands
