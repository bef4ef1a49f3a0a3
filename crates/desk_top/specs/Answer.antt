-- What a call answers, and what its texts speak of.
use Rattle.std.specs.Prelude.{◌≡◌, ℕ, List, [], ◌∷◌, ◌++◌, flat_map, length, take, drop, map, codes, All}
use Rattle.desk_text.specs.Lines.{whole_lines}
use Rattle.desk_model.specs.Closing.{closed_under}
use Rattle.desk_model.specs.Desk.{Desk, file_marks}
use Rattle.desk_model.specs.declared.types.Mark.{Mark}
use Rattle.desk_model.specs.declared.types.MeasureName.{MeasureName}
use Rattle.order_bundle.specs.Either.{AnyClaimHolds, any_level, any_measure}
use Rattle.order_bundle.specs.declared.scoped.Scoped.{Scoped}
use Rattle.graded_rbp.specs.Score.{GradedMeasure}
use Rattle.desk_report.specs.ByGrades.{IsTrueTextByGrades}
use Rattle.desk_report.specs.Claims.{IsTrueText, IsTrueProposal}
use Rattle.desk_report.specs.Reports.{Subject}
use Rattle.desk_report.specs.Tiers.{IsTrueCoverLine}
use Rattle.desk_files.specs.Files.{Stop, Outside, Memory, Refused}
use Rattle.desk_top.specs.declared.status.Status.{Status}
use Rattle.desk_top.specs.declared.status.Status.TheVariants as statuses
use Rattle.desk_top.specs.Status.{status_line}
use Rattle.desk_top.specs.Told.{refusal_line}

-- what a text speaks of
pub data About : Type 0 where
  -- the runs of a desk, under a measure and the marks that its documents have at that time
  OfRuns : (subject : Subject) → About
  -- the runs of a desk, under rank-biased precision by grades
  OfGrades : (measure : GradedMeasure) → (desk : Desk) → About
  -- the tiers of such runs
  OfTiers : (subject : Subject) → About
  -- the document to judge next on such a desk
  OfProposal : (subject : Subject) → About
  -- whether a certificate of either version is accepted over a desk
  OfCheck : (certificate : Scoped) → (desk : Desk) → About
  -- nothing that hangs on a desk
  OfNothing : About

-- a text, and what it speaks of
pub record Saying : Type 0 where
  pub about : About
  pub text : List ℕ

-- a status, what is said on the output, and the line that is told on the error output
pub record Answer : Type 0 where
  pub status : Status
  pub said : List Saying
  pub told : List ℕ

-- the texts, one after the other
abbrev pub text_of : List Saying → List ℕ
text_of said = flat_map (λ (one : Saying). one.text) said

-- texts are said, and no line is told
abbrev pub said_with : Status → List Saying → Answer
said_with status said = record { status = status; said = said; told = [] }

-- nothing is said, and a line is told
abbrev pub told_with : Status → List ℕ → Answer
told_with status line = record { status = status; said = []; told = line }

-- the words are of no command
abbrev pub usage : Answer
usage = told_with statuses.Usage (status_line statuses.Usage)

-- the status and the line of a file that is missing or refused, or of memory that ran out
abbrev pub stop_status : Stop → Status
stop_status Outside = statuses.Outside
stop_status Memory = statuses.Memory
stop_status (Refused refusal) = statuses.Refused

abbrev pub stop_line : Stop → List ℕ
stop_line Outside = status_line statuses.Outside
stop_line Memory = status_line statuses.Memory
stop_line (Refused refusal) = refusal_line refusal

abbrev pub stop_answer : Stop → Answer
stop_answer why = told_with (stop_status why) (stop_line why)

-- the marks that the judgements file gives at the level of a certificate, under its depth
abbrev pub marks_for : Scoped → Desk → List (List Mark)
marks_for c desk = closed_under desk c.depth (map (file_marks (any_level c.body)) desk.topics)

-- what was received of a text claims nothing false of the runs of a desk
abbrev pub IsTrueOfRuns : Subject → List ℕ → Type 0
IsTrueOfRuns s received = IsTrueText s.measure s.desk s.marks received

-- each whole line received that is one of a covering pair is true
abbrev pub AreTrueCovers : Subject → List ℕ → Type 0
AreTrueCovers s received = All (IsTrueCoverLine s.measure s.desk s.marks) (whole_lines received)

-- where what was received begins with the line `accepted`, all that the certificate claims holds
abbrev pub AcceptsTruly : Scoped → Desk → List ℕ → Type 0
AcceptsTruly c desk received = (more : List ℕ) → received ≡ codes "accepted\n" ++ more → AnyClaimHolds c.body desk (marks_for c desk)

-- what was received of a text is true of what it speaks of: it claims nothing false of the runs, or of them by grades; what it says of covering pairs is so; it is
-- the line of the proposal; it accepts only a certificate of which all that it claims holds; and where it speaks of nothing, it claims nothing false of any desk
abbrev pub IsTrueOf : About → List ℕ → Type 0
IsTrueOf (OfRuns s) received = IsTrueOfRuns s received
IsTrueOf (OfGrades m desk) received = IsTrueTextByGrades m desk received
IsTrueOf (OfTiers s) received = IsTrueOfRuns s received × AreTrueCovers s received
IsTrueOf (OfProposal s) received = IsTrueOfRuns s received × IsTrueProposal s.measure s.desk s.marks received
IsTrueOf (OfCheck c desk) received = IsTrueText (any_measure c.body) desk (marks_for c desk) received × AcceptsTruly c desk received
IsTrueOf OfNothing received = (measure : MeasureName) (desk : Desk) (marks : List (List Mark)) → IsTrueText measure desk marks received

-- what was received of each text is true
abbrev pub AreTrue : List Saying → List ℕ → Type 0
AreTrue [] received = Unit {0}
AreTrue (one ∷ more) received = IsTrueOf one.about (take (length one.text) received) × AreTrue more (drop (length one.text) received)

-- every prefix of each text is true of what the text speaks of
abbrev pub AreAlwaysTrue : List Saying → Type 0
AreAlwaysTrue [] = Unit {0}
AreAlwaysTrue (one ∷ more) = ((n : ℕ) → IsTrueOf one.about (take n one.text)) × AreAlwaysTrue more
