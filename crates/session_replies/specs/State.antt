-- What a session keeps between its lines.
pub use Rattle.desk_report.specs.Reports.{cells_of}
use Rattle.std.specs.Prelude.{◌≡◌, ℕ, ◌*◌, ◌+◌, ◌≤◌, List, length, map, codes, Option, None, Some, IfSome, IsSome}
use Rattle.desk_model.specs.Desk.{Desk, pair_count}
use Rattle.desk_model.specs.Graded.{pools_of}
use Rattle.desk_model.specs.MeasureText.{IsMeasure}
use Rattle.desk_model.specs.Pairs.{pairs_of}
use Rattle.desk_model.specs.Verdict.{verdict}
use Rattle.desk_model.specs.declared.types.Mark.{Mark}
use Rattle.desk_model.specs.declared.types.MeasureName.{MeasureName}
use Rattle.topic_counts.specs.declared.span.Span.{Span}
use Rattle.measure_core.specs.declared.cell.Cell.{Cell}
use Rattle.next_document.specs.Kept.{HeldTotals as Weights, AreKeptFor, WereKept}
use Rattle.judge_session.specs.InForce.{IsSessionOf}
use Rattle.desk_report.specs.Grading.{IsGrading}
use Rattle.desk_report.specs.Reports.{Subject, AreRuns, IsTableOn, IsTableText, IsPairText}
use Rattle.desk_report.specs.declared.reports.Certified.{Certified}
use Rattle.desk_report.specs.declared.reports.Certified.TheVariants as certified
use Rattle.pair_table.specs.Kept.{Kept, StandsFor}
use Rattle.judge_session.specs.Request.{Heard, Request, Asked, Judge, Quit}
use Rattle.session_replies.specs.Replies.{Setting, marks_after, subject_after, changes_after, accepted, IsCertified, IsReply}
use Rattle.session_replies.specs.declared.state.Judging.{Judging}
use Rattle.session_replies.specs.declared.state.Given.{Given}
use Rattle.session_replies.specs.declared.judgement.Judgement.{Judgement}
use Rattle.session_replies.specs.declared.comparing.TableRequest.{TableRequest}
use Rattle.session_replies.specs.declared.comparing.TableRequest.TheVariants as reports
use Rattle.session_replies.specs.declared.comparing.RunFault.{RunFault}
use Rattle.session_replies.specs.declared.comparing.RunFault.TheVariants.{UnknownRun, SameRun}
use Rattle.session_replies.specs.declared.replies.Reply.{Reply}
use Rattle.session_replies.specs.declared.replies.Reply.TheVariants as replies

-- what is given to a session
abbrev pub setting_of : Given → Setting
setting_of given = record { measure = given.measure.now; level = given.grading.level; depth = given.grading.depth; desk = given.desk.now }

-- what a line that judges asks
abbrev pub judgement_said : Judgement → Request
judgement_said judgement = Judge judgement.who.now judgement.topic.now judgement.doc.now judgement.grade

abbrev pub word_of : RunFault → List ℕ
word_of UnknownRun = codes "UnknownRun"
word_of SameRun = codes "SameRun"

-- the runs of a report are different runs of the desk
abbrev pub AreReportedRuns : Desk → TableRequest → Type 0
AreReportedRuns desk (reports.Pair runs) = AreRuns desk runs.0 runs.1
AreReportedRuns desk (reports.Certificate runs) = AreRuns desk runs.0 runs.1
AreReportedRuns desk report = Unit {0}

-- the text is that of a report
abbrev pub IsReported : Subject → TableRequest → List ℕ → Type 0
IsReported s reports.Table text = IsTableText s text
IsReported s (reports.Pair runs) text = IsPairText s runs.0 runs.1 text
IsReported s (reports.Certificate runs) text = IsCertified s runs.0 runs.1 text

-- the text of a certificate or of a close line
abbrev pub shown_text : Certified → List ℕ
shown_text (certified.Certificate text) = text.items
shown_text (certified.Close text) = text.items

-- a measure that can be made, and a level and a depth in range
pub record IsSetting (s : Setting) : Type 0 where
  pub measure : IsMeasure s.measure
  pub grading : IsGrading (record { level = s.level; depth = s.depth })

-- the numbers of a measure: its name, its cells and its bounds
pub record Numbers (M : Type 0) : Type 0 where
  pub name : M → MeasureName
  pub cell : M → List Mark → List ℕ → List ℕ → Cell
  pub bound : M → List Mark → List ℕ → Span

-- totals of documents that are there are those under these marks by the verdicts of a table, which is there as well
abbrev pub AreWeightsFor : {M : Type 0} → Numbers M → Desk → List (List Mark) → Option Weights → Option (Kept M) → Type 0
AreWeightsFor n desk marks None table = Unit {0}
AreWeightsFor n desk marks (Some weights) None = ⊥
AreWeightsFor n desk marks (Some weights) (Some table) = AreKeptFor (n.name table.measure) desk marks weights × (weights.verdicts ≡ map verdict table.totals)

-- totals of documents that are there are those under marks that differ from these in one topic at most, by a verdict of each pair
abbrev pub WereWeightsFor : {M : Type 0} → Numbers M → ℕ → Desk → List (List Mark) → Option Weights → Option (Kept M) → Type 0
WereWeightsFor n topic desk marks None table = Unit {0}
WereWeightsFor n topic desk marks (Some weights) None = ⊥
WereWeightsFor n topic desk marks (Some weights) (Some table) = WereKept topic (n.name table.measure) desk marks weights × (length weights.verdicts ≡ length (pairs_of desk.runs))

-- the changes are of the desk, the marks are those by the judgements in force, with the pools of the depth, and a table and totals that are there are those of these marks
pub record IsReadyForLine {M : Type 0} (n : Numbers M) (s : Setting) (kept : Judging M) : Type 0 where
  pub on_desk : IsSessionOf s.desk kept.session
  pub marked : kept.marks.rows ≡ marks_after s kept.session
  pub pools : kept.marks.pools ≡ pools_of s.desk s.depth
  pub table : IfSome kept.table (λ table. IsTableOn (n.name table.measure) (n.cell table.measure) (n.bound table.measure) (subject_after s kept.session) table)
  pub weights : AreWeightsFor n s.desk kept.marks.rows kept.weights kept.table

-- a table and totals that were there are still there
pub record Keeps {M : Type 0} (old new : Judging M) : Type 0 where
  pub table : IsSome old.table → IsSome new.table
  pub weights : IsSome old.weights → IsSome new.weights

-- the cells that a table costs, where none is there
abbrev pub owed : {T : Type 0} → Desk → Option T → ℕ
owed desk None = cells_of desk
owed desk (Some table) = 0

-- the pairs of runs: the cells of one topic
abbrev pub pairs_in : Desk → ℕ
pairs_in desk = pair_count (length desk.runs)

-- a table that is there was taken over to new marks, and where none is there none was made
abbrev pub TakesOver : {M : Type 0} → Numbers M → Desk → List (List Mark) → Option (Kept M) → Option (Kept M) → Type 0
TakesOver n desk marks None new = new ≡ None
TakesOver n desk marks (Some old) None = ⊥
TakesOver n desk marks (Some old) (Some new) = (new.measure ≡ old.measure) × StandsFor (n.cell new.measure) (n.bound new.measure) desk marks new

-- the cells that were evaluated, with those that are owed, are at most those that were owed before, and those of one topic where a change was accepted
abbrev pub CountsLine : {M : Type 0} → Setting → Heard → Judging M → Judging M → ℕ → ℕ → Type 0
CountsLine s heard old new before after = after + owed s.desk new.table ≤ before + owed s.desk old.table + accepted s.desk heard old.session * pairs_in s.desk

-- a line was answered: the session is ready for the next one, the changes are those after the line, and the text is its reply
pub record Answers {M : Type 0} (n : Numbers M) (s : Setting) (heard : Heard) (old new : Judging M) (text : List ℕ) : Type 0 where
  pub ready : IsReadyForLine n s new
  pub changes : new.session ≡ changes_after s.desk heard old.session
  pub is : IsReply s old.session heard text

-- the same, with the end of the session
abbrev pub IsReplied : {M : Type 0} → Numbers M → Setting → Heard → Judging M → Judging M → Reply → Type 0
IsReplied n s heard old new (replies.Text text) = Answers n s heard old new text.items × (heard ≡ Asked Quit → ⊥)
IsReplied n s heard old new replies.Quit = (heard ≡ Asked Quit) × IsReadyForLine n s new × (new.session ≡ old.session)
