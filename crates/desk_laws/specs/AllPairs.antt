-- The certificate of all pairs, checked with the same files.
use Rattle.std.specs.Prelude.{◌≡◌, ◌⊎◌, ℕ, List, Some, Result, Ok, codes}
use Rattle.desk_outside.specs.Outside.{Files, Rose}
use Rattle.desk_outside.specs.Seen.{ReceivedAll}
use Rattle.desk_words.specs.declared.command.Check.{Check}
use Rattle.desk_words.specs.declared.command.Job.{Job}
use Rattle.desk_words.specs.declared.command.Command.TheVariants.{Verify}
use Rattle.desk_model.specs.Desk.{Desk}
use Rattle.order_bundle.specs.Scoped.{IsScopedText}
use Rattle.order_bundle.specs.declared.scoped.Scoped.{Scoped}
use Rattle.bundle_report.specs.Bundled.{IsAllPairsText}
use Rattle.topics_pool.specs.Rows.{IsDeskOf}
use Rattle.bundle_verifier.specs.Either.{IsAnyVerified}
use Rattle.bundle_verifier.specs.declared.rejected.BundleRejected.{BundleRejected}
use Rattle.desk_files.specs.Load.{sources, Loaded, loaded}
use Rattle.desk_top.specs.declared.status.Status.{Status}
use Rattle.desk_top.specs.declared.status.Status.TheVariants.{Done, Memory}
use Rattle.desk_top.specs.Answer.{marks_for}
use Rattle.desk_top.specs.Meets.{Call}
use Rattle.desk_top.specs.Report.{subject_of}
use Rattle.desk_laws.specs.Laws.{IsCallOver}

-- the certificate of all pairs of runs on the desk of a job is accepted over that desk, with the same judgements
abbrev pub AllPairsAreAccepted : Type 0
AllPairsAreAccepted =
    (job : Job) (desk : Desk) (text : List ℕ) (c : Scoped) (answer : Result (Unit {0}) BundleRejected) →
    IsAllPairsText (subject_of job desk) text → IsScopedText text c → IsAnyVerified c.body desk (marks_for c desk) answer → answer ≡ Ok tt

-- a call of `verify` over the judgements file and the runs of a job, where the certificate's file is what `certify --all` prints of them; nothing failed
pub record IsCheckOfAllPairs (job : Job) (files : Files) (check : Check) (words : List (List ℕ)) (call : Call) (status : Status) : Type 0 where
  pub same_judgements : check.qrels ≡ job.qrels
  pub same_runs : check.runs ≡ job.runs
  pub rows : Loaded
  pub loads : loaded files (sources job.qrels job.runs) ≡ Ok rows
  pub desk : Desk
  pub of_rows : IsDeskOf rows.qrels rows.runs desk
  pub certificate : List ℕ
  pub shown : IsAllPairsText (subject_of job desk) certificate
  pub held : files check.cert ≡ Some certificate
  pub over : IsCallOver words (Verify check) files call status
  pub calm : Rose call.files.before call.files.after → ⊥
  pub still : Rose call.out.before call.out.after → ⊥

-- it says `accepted`, or memory ran out
abbrev pub AllPairsPass : Type 0
AllPairsPass =
    (job : Job) (files : Files) (check : Check) (words : List (List ℕ)) (call : Call) (status : Status) → IsCheckOfAllPairs job files check words call status →
    ((status ≡ Done) × ReceivedAll call.out (codes "accepted\n")) ⊎ (status ≡ Memory)
