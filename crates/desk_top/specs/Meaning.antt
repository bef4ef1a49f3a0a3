-- What commands mean. A new command is one more case of `meaning_of`.
use Rattle.std.specs.Prelude.{◌≡◌, ◌⊎◌, ℕ, ◌*◌, List, [], ◌∷◌, Option, Result, Ok, Err}
use Rattle.desk_outside.specs.Outside.{Files}
use Rattle.desk_outside.specs.Inputs.{Input}
use Rattle.desk_words.specs.Words.{IsCommandOf}
use Rattle.desk_words.specs.declared.command.Check.{Check}
use Rattle.desk_words.specs.declared.command.Job.{Job}
use Rattle.desk_words.specs.declared.command.Placing.{Placing}
use Rattle.desk_words.specs.declared.command.Command.{Command}
use Rattle.desk_words.specs.declared.command.Command.TheVariants.{Table, Certify, CertifyAll, Verify, Session, Demo, Graded, Tiers, Merge, Apply}
use Rattle.desk_model.specs.Desk.{Desk}
use Rattle.graded_rbp.specs.Score.{GradedMeasure}
use Rattle.desk_files.specs.Files.{Stop}
use Rattle.bundle_report.specs.Bundled.{HasTooManyBytes, IsAllPairsText}
use Rattle.desk_report.specs.Reports.{Subject, IsTableText, IsCertificateText, IsCloseText, cells_of}
use Rattle.desk_report.specs.Tiers.{IsTiersText}
use Rattle.desk_top.specs.declared.status.Status.{Status}
use Rattle.desk_top.specs.declared.status.Status.TheVariants as statuses
use Rattle.desk_top.specs.Told.{too_long_line}
use Rattle.desk_top.specs.Answer.{OfRuns, OfGrades, OfTiers, Answer, usage, stop_answer}
use Rattle.desk_top.specs.Outcome.{Outcome, Refuses, IsOutcome, PrintsText}
use Rattle.desk_top.specs.Report.{IsAsked, IsAskedByGrades, IsMeasureByGrades, IsGradedText, HasDeskOf, subject_of}
use Rattle.desk_top.specs.Verification.{PrintsCheck}
use Rattle.desk_top.specs.Conversation.{setting_on, IsSession, session_cells}
use Rattle.desk_top.specs.Showing.{PrintsDemo, HasDemoDesk}
use Rattle.desk_top.specs.Loading.{Loading, desk_loading, graded_loading, check_loading, sheets_loading, placing_loading, no_loading}
use Rattle.desk_top.specs.Sheets.{PrintsMerge, PrintsApplied}

-- what a command means
pub record Meaning : Type 1 where
  -- what is known of it by its words
  pub asked : Type 0
  -- what it reads of its files
  pub loading : Loading
  -- it reads the input
  pub reads : Type 0
  -- its answer on what its files come to, where this is the input
  pub answers : loading.Found → Input → Answer → Type 0
  -- the statuses of these answers, but that of an input that failed
  pub ends : List Status
  -- the most cells that it evaluates on that, where this was taken of the input
  pub cells : loading.Found → Input → ℕ → Type 0

-- on the desk of a job with so many runs at least an outcome is made, which has one of these statuses: pairs times topics are evaluated
abbrev pub desk_meaning : Job → ℕ → List Status → (Subject → Outcome → Type 0) → Meaning
desk_meaning job least ends makes = record {
  asked = IsAsked least job;
  loading = desk_loading job;
  reads = ⊥;
  answers = λ rows input answer. IsOutcome (λ outcome. HasDeskOf rows (λ desk. makes (subject_of job desk) outcome)) answer;
  ends = ends;
  cells = λ rows taken most. HasDeskOf rows (λ desk. most ≡ cells_of desk);
}

-- the check of a certificate: nothing is evaluated
abbrev pub check_meaning : Check → Meaning
check_meaning check = record {
  asked = Unit {0};
  loading = check_loading check;
  reads = ⊥;
  answers = λ found input answer. IsOutcome (PrintsCheck found) answer;
  ends = statuses.Done ∷ statuses.Rejected ∷ [];
  cells = λ found taken most. most ≡ 0;
}

-- a session on the desk of a job: the input is read
abbrev pub session_meaning : Job → Meaning
session_meaning job = record {
  asked = IsAsked 1 job;
  loading = desk_loading job;
  reads = Unit {0};
  answers = λ rows input answer. HasDeskOf rows (λ desk. IsSession (setting_on job desk) input answer);
  ends = statuses.Done ∷ statuses.Refused ∷ [];
  cells = λ rows taken most. HasDeskOf rows (λ desk. most ≡ session_cells desk taken);
}

-- a demo: no file is opened, and pairs times topics are evaluated
abbrev pub demo_meaning : ℕ → Meaning
demo_meaning seed = record {
  asked = Unit {0};
  loading = no_loading;
  reads = ⊥;
  answers = λ found input answer. IsOutcome (PrintsDemo seed) answer;
  ends = statuses.Done ∷ [];
  cells = λ found taken most. HasDemoDesk seed (λ desk. most ≡ cells_of desk);
}

-- the table of a desk by grades
abbrev pub PrintsGraded : Job → ℕ → Desk → Outcome → Type 0
PrintsGraded job greatest desk outcome = (m : GradedMeasure) × IsMeasureByGrades job.measure greatest m × PrintsText statuses.Done (OfGrades m desk) (IsGradedText m desk) outcome

-- a table by grades on the desk of a job: pairs times topics times levels are evaluated
abbrev pub graded_meaning : Job → ℕ → Meaning
graded_meaning job greatest = record {
  asked = IsAskedByGrades job greatest;
  loading = graded_loading job greatest;
  reads = ⊥;
  answers = λ rows input answer. IsOutcome (λ outcome. HasDeskOf rows (λ desk. PrintsGraded job greatest desk outcome)) answer;
  ends = statuses.Done ∷ [];
  cells = λ rows taken most. HasDeskOf rows (λ desk. most ≡ cells_of desk * greatest);
}

-- the merge of sheets: nothing is evaluated
abbrev pub merge_meaning : List (List ℕ) → Meaning
merge_meaning paths = record {
  asked = Unit {0};
  loading = sheets_loading paths;
  reads = ⊥;
  answers = λ rows input answer. IsOutcome (PrintsMerge rows) answer;
  ends = statuses.Done ∷ [];
  cells = λ rows taken most. most ≡ 0;
}

-- a sheet applied to the judgements of a desk: nothing is evaluated
abbrev pub apply_meaning : Placing → Meaning
apply_meaning placing = record {
  asked = Unit {0};
  loading = placing_loading placing;
  reads = ⊥;
  answers = λ found input answer. IsOutcome (PrintsApplied found) answer;
  ends = statuses.Done ∷ [];
  cells = λ found taken most. most ≡ 0;
}

-- usage: no file is opened, and nothing is read or evaluated
abbrev pub usage_meaning : Meaning
usage_meaning = record {
  asked = Unit {0};
  loading = no_loading;
  reads = ⊥;
  answers = λ found input answer. answer ≡ usage;
  ends = statuses.Usage ∷ [];
  cells = λ found taken most. most ≡ 0;
}

-- the table of all pairs
abbrev pub PrintsTable : Subject → Outcome → Type 0
PrintsTable s outcome = PrintsText statuses.Done (OfRuns s) (IsTableText s) outcome

-- the tiers of the runs
abbrev pub PrintsTiers : Subject → Outcome → Type 0
PrintsTiers s outcome = PrintsText statuses.Done (OfTiers s) (IsTiersText s) outcome

-- the certificate of the first two runs, or their close line with its own status
abbrev pub PrintsCertificate : Subject → Outcome → Type 0
PrintsCertificate s outcome = PrintsText statuses.Done (OfRuns s) (IsCertificateText s 0 1) outcome ⊎ PrintsText statuses.Close (OfRuns s) (IsCloseText s 0 1) outcome

-- its text would have too many bytes, and the line tells how many
abbrev pub RefusesLength : Subject → Outcome → Type 0
RefusesLength s outcome = (bytes : ℕ) × HasTooManyBytes s bytes × (outcome ≡ Refuses (too_long_line bytes))

-- the certificate of all pairs, or that its text would be too long
abbrev pub PrintsAllPairs : Subject → Outcome → Type 0
PrintsAllPairs s outcome = PrintsText statuses.Done (OfRuns s) (IsAllPairsText s) outcome ⊎ RefusesLength s outcome

-- what a command means
abbrev pub meaning_of : Command → Meaning
meaning_of (Table job) = desk_meaning job 1 (statuses.Done ∷ []) PrintsTable
meaning_of (Certify job) = desk_meaning job 2 (statuses.Done ∷ statuses.Close ∷ []) PrintsCertificate
meaning_of (CertifyAll job) = desk_meaning job 2 (statuses.Done ∷ statuses.Refused ∷ []) PrintsAllPairs
meaning_of (Verify check) = check_meaning check
meaning_of (Session job) = session_meaning job
meaning_of (Demo seed) = demo_meaning seed
meaning_of (Graded job greatest) = graded_meaning job greatest
meaning_of (Tiers job) = desk_meaning job 1 (statuses.Done ∷ []) PrintsTiers
meaning_of (Merge sheets) = merge_meaning sheets
meaning_of (Apply placing) = apply_meaning placing

-- something holds of what words mean: of the meaning of each command that they are of, and of usage, where they are of none
pub record Means (words : List (List ℕ)) (fact : Meaning → Type 0) : Type 0 where
  pub command : (command : Command) → IsCommandOf words command → fact (meaning_of command)
  pub usage : ((command : Command) → IsCommandOf words command → ⊥) → fact usage_meaning

-- the answer to what files came to: that of their stop, or one on what they say
abbrev pub AnswersOn : (meaning : Meaning) → Input → Result meaning.loading.Found Stop → Answer → Type 0
AnswersOn meaning input (Ok found) answer = meaning.answers found input answer
AnswersOn meaning input (Err why) answer = answer ≡ stop_answer why

-- an answer, where these are the files, if they are known, and this is the input
pub record IsAnswer (meaning : Meaning) (known : Option Files) (input : Input) (answer : Answer) : Type 0 where
  pub found : Result meaning.loading.Found Stop
  pub comes : meaning.loading.comes known found
  pub is : AnswersOn meaning input found answer
