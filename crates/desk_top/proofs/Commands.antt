-- What holds of each command, a row each.
use Rattle.std.proofs.Common.{ℕ, ◌≤◌, List, [], ◌∷◌, length, sym, subst, arith, inl, inr}
use Rattle.std.specs.Prelude.{codes, Option, Some, None}
use Rattle.command_line.specs.Given.{Values}
use Rattle.desk_words.specs.Words.{IsCommandOf, IsDepthOf, IsLevelOf, SaysJob}
use Rattle.desk_words.specs.declared.command.Command.{Command}
use Rattle.desk_words.specs.declared.command.Command.TheVariants.{Table, Certify, CertifyAll, Session, Verify, Demo, Graded, Tiers, Merge, Apply}
use Rattle.desk_words.specs.declared.command.Job.{Job}
use Rattle.desk_words.proofs.Values.{run_count}
use Rattle.desk_model.specs.MeasureText.{IsMeasure}
use Rattle.order_certificate.specs.Certificate.{IsLevel}
use Rattle.order_bundle.specs.Scoped.{IsScope}
use Rattle.session_stream.specs.Hearing.{hearing_of}
use Rattle.desk_top.specs.declared.status.Status.TheVariants as statuses
use Rattle.desk_top.specs.Answer.{Answer, AreAlwaysTrue}
use Rattle.desk_top.specs.Conversation.{setting_on}
use Rattle.desk_top.specs.Report.{IsAsked}
use Rattle.desk_top.specs.Meaning.{session_meaning, usage_meaning, meaning_of, PrintsTable, PrintsTiers, PrintsCertificate, PrintsAllPairs}
use Rattle.desk_top.specs.Meets.{IsTruthful}
use Rattle.desk_top.specs.Truths.{PrintsTruth}
use Rattle.desk_top.proofs.Truth.{on_desk_true, printed_table_true, printed_tiers_true, printed_certificate_true, printed_all_pairs_true, check_is_truthful}
use Rattle.desk_top.proofs.Showing.{demo_is_truthful}
use Rattle.desk_top.proofs.ByGrades.{graded_is_truthful}
use Rattle.desk_top.proofs.OnSheets.{merge_is_truthful, apply_is_truthful}
use Rattle.desk_top.proofs.Replying.{replies_are_true}

level_said : (values : List (List ℕ)) (level : ℕ) → IsLevelOf values level → IsLevel level
level_said values level (inl none) = (omega (arith, none.1), omega (arith, none.1))
level_said values level (inr one) = (one.1, one.2)

depth_said : (values : List (List ℕ)) (depth : Option ℕ) → IsDepthOf values depth → IsScope depth
depth_said values None is = tt
depth_said values (Some depth) is = (is.1, is.2)

-- words with so many runs at least say a job that can be done on them
job_asked : (values : Values) (least : ℕ) (job : Job) → SaysJob values job → least ≤ length (values (codes "RUN")) → IsAsked least job
job_asked values least job says enough = record { measure = says.measure.2; grading = record { level = level_said _ job.level says.level; depth = depth_said _ job.depth says.depth }; runs = subst (λ n. least ≤ n) (run_count _ job.runs says.runs.each) enough }

-- what words say of a command
pub asked : (words : List (List ℕ)) (command : Command) → IsCommandOf words command → (meaning_of command).asked
asked [] command h = absurd h
asked (word ∷ rest) (Table job) h = job_asked h.1.values 1 job h.1.said.says h.1.given.allowed.enough
asked (word ∷ rest) (Certify job) h = job_asked h.1.values 2 job h.1.said.says.0 h.1.given.allowed.enough
asked (word ∷ rest) (CertifyAll job) h = job_asked h.1.values 2 job h.1.said.says.0 h.1.given.allowed.enough
asked (word ∷ rest) (Session job) h = job_asked h.1.values 1 job h.1.said.says h.1.given.allowed.enough
asked (word ∷ rest) (Verify check) h = tt
asked (word ∷ rest) (Demo seed) h = tt
asked (word ∷ rest) (Graded job greatest) h =
    let says = h.1.said.says in record { on_desk = job_asked h.1.values 1 job says.0 h.1.given.allowed.enough; biased = says.1; some = says.2.1; few = says.2.2 }
asked (word ∷ rest) (Tiers job) h = job_asked h.1.values 1 job h.1.said.says h.1.given.allowed.enough
asked (word ∷ rest) (Merge sheets) h = tt
asked (word ∷ rest) (Apply placing) h = tt

session_is_truthful : PrintsTruth → (job : Job) → IsMeasure job.measure → IsTruthful (session_meaning job)
session_is_truthful laws job m rows input answer is =
    subst (λ (a : Answer). AreAlwaysTrue a.said) (sym is.holds.is) (replies_are_true laws (setting_on job is.desk) m is.ranked.valid [] (hearing_of input).lines is.holds.texts is.holds.replies)

pub usage_is_truthful : IsTruthful usage_meaning
usage_is_truthful found input answer is = subst (λ (a : Answer). AreAlwaysTrue a.said) (sym is) tt

-- each command says only what is true
pub command_is_truthful : PrintsTruth → (command : Command) → (meaning_of command).asked → IsTruthful (meaning_of command)
command_is_truthful laws (Table job) asked = on_desk_true laws job 1 (statuses.Done ∷ []) PrintsTable (printed_table_true laws) asked.measure
command_is_truthful laws (Certify job) asked = on_desk_true laws job 2 (statuses.Done ∷ statuses.Close ∷ []) PrintsCertificate (printed_certificate_true laws) asked.measure
command_is_truthful laws (CertifyAll job) asked = on_desk_true laws job 2 (statuses.Done ∷ statuses.Refused ∷ []) PrintsAllPairs (printed_all_pairs_true laws) asked.measure
command_is_truthful laws (Session job) asked = session_is_truthful laws job asked.measure
command_is_truthful laws (Verify check) asked = check_is_truthful laws check
command_is_truthful laws (Demo seed) asked = demo_is_truthful laws seed
command_is_truthful laws (Graded job greatest) asked = graded_is_truthful laws job greatest asked
command_is_truthful laws (Tiers job) asked = on_desk_true laws job 1 (statuses.Done ∷ []) PrintsTiers (printed_tiers_true laws) asked.measure
command_is_truthful laws (Merge sheets) asked = merge_is_truthful laws sheets
command_is_truthful laws (Apply placing) asked = apply_is_truthful laws placing
