-- A certificate of a session, checked with the judgements in force of the same moment.
use Rattle.std.specs.Prelude.{◌≡◌, ◌⊎◌, ℕ, ◌≤◌, List, [], length, map, Some, Result, Ok, codes}
use Rattle.desk_outside.specs.Outside.{Files, Rose}
use Rattle.desk_outside.specs.Seen.{ReceivedAll}
use Rattle.desk_words.specs.declared.command.Check.{Check}
use Rattle.desk_words.specs.declared.command.Command.TheVariants.{Verify}
use Rattle.desk_model.specs.Desk.{Desk}
use Rattle.order_bundle.specs.Scoped.{IsScopedText}
use Rattle.order_bundle.specs.declared.scoped.Scoped.{Scoped}
use Rattle.desk_report.specs.Reports.{IsCertificateText}
use Rattle.topics_pool.specs.Rows.{IsDeskOf}
use Rattle.judge_session.specs.Request.{Qrels, Asked}
use Rattle.session_replies.specs.Replies.{Setting, subject_after, IsReply}
use Rattle.session_replies.specs.State.{IsSetting}
use Rattle.session_stream.specs.Text.{changes_over}
use Rattle.bundle_verifier.specs.Either.{IsAnyVerified}
use Rattle.bundle_verifier.specs.declared.rejected.BundleRejected.{BundleRejected}
use Rattle.desk_files.specs.Load.{Sources, Loaded, loaded}
use Rattle.desk_files.specs.Checks.{sources_of}
use Rattle.desk_files.specs.declared.limits.TheConstants.{LONGEST_FILE}
use Rattle.desk_top.specs.declared.status.Status.{Status}
use Rattle.desk_top.specs.declared.status.Status.TheVariants.{Done, Memory}
use Rattle.desk_top.specs.Answer.{marks_for}
use Rattle.desk_top.specs.Meets.{Call}
use Rattle.desk_laws.specs.Laws.{IsCallOver}
use Rattle.desk_laws.specs.Replaced.{AreFilesWith}

-- a session over the desk of files, after its first lines: its reply to `qrels`, the files again with that text as their judgements file, and their desk
pub record IsTakenUp (s : Setting) (lines : List (List ℕ)) (files again : Files) (from : Sources) (path : List ℕ) (desk : Desk) : Type 0 where
  pub rows : Loaded
  pub loads : loaded files from ≡ Ok rows
  pub of_rows : IsDeskOf rows.qrels rows.runs s.desk
  pub text : List ℕ
  pub replied : IsReply s (changes_over s.desk lines []) (Asked Qrels) text
  pub with_text : AreFilesWith files again path text from.runs
  pub later : Loaded
  pub loads_again : loaded again (record from { qrels = path }) ≡ Ok later
  pub of_later : IsDeskOf later.qrels later.runs desk

-- the certificate of two runs that the session replies at the same moment is accepted over that desk
abbrev pub CertificatesAreAccepted : Type 0
CertificatesAreAccepted =
    (s : Setting) (lines : List (List ℕ)) (files again : Files) (from : Sources) (path : List ℕ) (desk : Desk) (a b : ℕ) (text : List ℕ) (c : Scoped) (answer : Result (Unit {0}) BundleRejected) →
    IsSetting s → IsTakenUp s lines files again from path desk → IsCertificateText (subject_after s (changes_over s.desk lines [])) a b text → IsScopedText text c →
    IsAnyVerified c.body desk (marks_for c desk) answer → answer ≡ Ok tt

-- a call of `verify` over such files: the judgements file is the session's reply to `qrels`, the desk is read from the same beside it, and the certificate's file is a
-- certificate of the session of the same moment; all are within the limits, and nothing failed
pub record IsCheckOfSession (s : Setting) (lines : List (List ℕ)) (files again : Files) (from : Sources) (check : Check) (words : List (List ℕ)) (call : Call) (status : Status) : Type 0 where
  pub rows : Loaded
  pub loads : loaded files from ≡ Ok rows
  pub of_rows : IsDeskOf rows.qrels rows.runs s.desk
  pub judgements : List ℕ
  pub replied : IsReply s (changes_over s.desk lines []) (Asked Qrels) judgements
  pub with_judgements : AreFilesWith files again check.qrels judgements from.runs
  pub same_beside : sources_of check ≡ record from { qrels = check.qrels }
  pub a : ℕ
  pub b : ℕ
  pub certificate : List ℕ
  pub shown : IsCertificateText (subject_after s (changes_over s.desk lines [])) a b certificate
  pub held : again check.cert ≡ Some certificate
  pub short : length certificate ≤ LONGEST_FILE
  pub later : Loaded
  pub loads_again : loaded again (sources_of check) ≡ Ok later
  pub over : IsCallOver words (Verify check) again call status
  pub calm : Rose call.files.before call.files.after → ⊥
  pub still : Rose call.out.before call.out.after → ⊥

-- it says `accepted`, or memory ran out
abbrev pub ChecksAccept : Type 0
ChecksAccept =
    (s : Setting) (lines : List (List ℕ)) (files again : Files) (from : Sources) (check : Check) (words : List (List ℕ)) (call : Call) (status : Status) →
    IsSetting s → IsCheckOfSession s lines files again from check words call status →
    ((status ≡ Done) × ReceivedAll call.out (codes "accepted\n")) ⊎ (status ≡ Memory)
