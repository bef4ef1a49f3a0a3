-- A certificate of a session, and one of all pairs, pass the check of the command.
use Rattle.std.proofs.Common.{◌≡◌, ℕ, List, ap, ap₂, sym, subst, ◌∙◌, inl, inr}
use Rattle.std.specs.Prelude.{◌⊎◌, Some, Option, Result, Ok, Err, codes, length, ◌≤◌, Bool, if◌then◌else◌}
use Rattle.std.proofs.lemmas.Bool.{le-leb}
use Rattle.desk_outside.specs.Outside.{Files, Rose}
use Rattle.desk_outside.specs.Seen.{ReceivedAll}
use Rattle.desk_words.specs.declared.command.Check.{Check}
use Rattle.desk_words.specs.declared.command.Job.{Job}
use Rattle.desk_words.specs.declared.command.Command.TheVariants.{Verify}
use Rattle.desk_model.specs.Desk.{Desk}
use Rattle.order_bundle.specs.Scoped.{IsScoped, IsScopedText, scoped_text}
use Rattle.order_bundle.specs.declared.scoped.Scoped.{Scoped}
use Rattle.order_bundle.specs.declared.any_certificate.AnyCertificate.TheVariants.{One, Many}
use Rattle.bundle_verifier.specs.Either.{IsAnyVerified}
use Rattle.bundle_verifier.specs.declared.rejected.BundleRejected.{BundleRejected}
use Rattle.topics_pool.specs.Rows.{IsDeskOf}
use Rattle.session_replies.specs.Replies.{Setting}
use Rattle.session_replies.specs.State.{IsSetting}
use Rattle.desk_files.specs.Files.{Refused, FileTooLong, whole_file}
use Rattle.desk_files.specs.Load.{Sources, Loaded, sources, loaded}
use Rattle.desk_files.specs.Checks.{CheckComes}
use Rattle.desk_files.specs.declared.limits.TheConstants.{LONGEST_FILE}
use Rattle.desk_top.specs.declared.status.Status.{Status}
use Rattle.desk_top.specs.declared.status.Status.TheVariants.{Done, Memory}
use Rattle.desk_top.specs.Answer.{Answer, text_of, marks_for}
use Rattle.desk_top.specs.Outcome.{Outcome, IsOutcome, answer_of}
use Rattle.desk_top.specs.Verification.{PrintsCheck, verification}
use Rattle.desk_top.specs.Meaning.{IsAnswer, check_meaning}
use Rattle.desk_top.specs.Meets.{Call, IsGiven, Meets}
use Rattle.desk_laws.specs.Accepted.{CertificatesAreAccepted, IsCheckOfSession, ChecksAccept}
use Rattle.desk_laws.specs.AllPairs.{AllPairsAreAccepted, AllPairsPass, IsCheckOfAllPairs}
use Rattle.desk_laws.specs.Laws.{IsCallOver}
use Rattle.desk_laws.specs.Fixed.{CheckIsOne, DeskIsOne}
use Rattle.desk_laws.proofs.Commands.{check_lawful}
use Rattle.desk_laws.proofs.Statuses.{Ways, ways, on_found}

-- a file that is short enough is read whole
short_file : (path : List ℕ) (held : Option (List ℕ)) (bytes : List ℕ) → held ≡ Some bytes → length bytes ≤ LONGEST_FILE → whole_file path held ≡ Ok bytes
short_file path held bytes is short = ap (whole_file path) is ∙ ap (λ (b : Bool). if b then Ok bytes else Err (Refused (FileTooLong path))) (le-leb (length bytes) LONGEST_FILE short)

-- ---- a check whose certificate the verifier accepts
-- files come to these rows and this certificate, which is accepted over the desk of the rows
record ComesToAccepted (files : Files) (check : Check) : Type 0 where
  rows : Loaded
  claimed : Scoped
  comes : CheckComes files check (Ok (rows, claimed))
  passes : (desk : Desk) (answer : Result (Unit {0}) BundleRejected) → IsDeskOf rows.qrels rows.runs desk → IsAnyVerified claimed.body desk (marks_for claimed desk) answer → answer ≡ Ok tt

module _ (one : CheckIsOne) (files : Files) (check : Check) (words : List (List ℕ)) (call : Call) (status : Status) (found : ComesToAccepted files check) (over : IsCallOver words (Verify check) files call status) where
  -- so the command says that
  printed : (outcome : Outcome) → PrintsCheck (found.rows, found.claimed) outcome → (status ≡ (answer_of outcome).status) → ReceivedAll call.out (text_of (answer_of outcome).said) → (status ≡ Done) × ReceivedAll call.out (codes "accepted\n")
  printed outcome is ended received =
      let is_ok = found.passes is.desk is.answer is.ranked is.verified in
      let same : outcome ≡ verification found.claimed is.desk (Ok tt) = is.is ∙ ap (verification found.claimed is.desk) is_ok in
      (ended ∙ ap (λ o. (answer_of o).status) same, subst (λ o. ReceivedAll call.out (text_of (answer_of o).said)) same received)

  meets : Meets (check_meaning check) call status
  meets = over.ends.meets.command (Verify check) over.asks

  on : (answer : Answer) → IsGiven call status answer → IsOutcome (PrintsCheck (found.rows, found.claimed)) answer → (status ≡ Done) × ReceivedAll call.out (codes "accepted\n")
  on answer given (outcome, is, same) =
      printed outcome is (given.ended ∙ ap (λ (a : Answer). a.status) same) (subst (λ (a : Answer). ReceivedAll call.out (text_of a.said)) same given.text)

  accepts : (Rose call.files.before call.files.after → ⊥) → (Rose call.out.before call.out.after → ⊥) → ((status ≡ Done) × ReceivedAll call.out (codes "accepted\n")) ⊎ (status ≡ Memory)
  accepts calm still = at (ways (check_meaning check) call status meets)
    where
      at : Ways (check_meaning check) call status meets → ((status ≡ Done) × ReceivedAll call.out (codes "accepted\n")) ⊎ (status ≡ Memory)
      at (inl gives) =
          inl (on gives.answer gives.holds
          (on_found (check_meaning check) (check_lawful one check) files gives.input gives.answer (found.rows, found.claimed) found.comes (subst (λ k. IsAnswer (check_meaning check) k gives.input gives.answer) over.known gives.is)))
      at (inr (inl failed)) = absurd (still failed.0)
      at (inr (inr (inl failed))) = absurd (calm failed.1)
      at (inr (inr (inr memory))) = inr memory

module _ (one : CheckIsOne) (texts : (c : Scoped) → IsScoped c → IsScopedText (scoped_text c) c) where
  -- ---- of a session
  module _ (accepted : CertificatesAreAccepted) (s : Setting) (lines : List (List ℕ)) (files again : Files) (from : Sources) (check : Check) (words : List (List ℕ)) (call : Call) (status : Status) (setting : IsSetting s) (h : IsCheckOfSession s lines files again from check words call status) where
    abbrev claimed : Scoped
    claimed = record { depth = s.depth; body = One h.shown.certificate }

    is_text : IsScopedText h.certificate claimed
    is_text = subst (λ t. IsScopedText t claimed) (sym h.shown.is) (texts claimed h.shown.within)

    of_session : ComesToAccepted again check
    of_session = record {
      rows = h.later;
      claimed = claimed;
      comes = (h.loads_again, (h.certificate, short_file check.cert (again check.cert) h.certificate h.held h.short, is_text));
      passes = λ desk answer ranked verified.
          accepted s lines files again from check.qrels desk h.a h.b h.certificate claimed answer setting (record {
            rows = h.rows;
            loads = h.loads;
            of_rows = h.of_rows;
            text = h.judgements;
            replied = h.replied;
            with_text = h.with_judgements;
            later = h.later;
            loads_again = subst (λ beside. loaded again beside ≡ Ok h.later) h.same_beside h.loads_again;
            of_later = ranked;
          }) h.shown is_text verified;
    }

  pub all_pass : CertificatesAreAccepted → ChecksAccept
  all_pass accepted s lines files again from check words call status setting h =
      accepts one again check words call status (of_session accepted s lines files again from check words call status setting h) h.over h.calm h.still

  -- ---- of all pairs
  module _ (accepted : AllPairsAreAccepted) (desk_one : DeskIsOne) (job : Job) (files : Files) (check : Check) (words : List (List ℕ)) (call : Call) (status : Status) (h : IsCheckOfAllPairs job files check words call status) where
    abbrev all_claimed : Scoped
    all_claimed = record { depth = job.depth; body = Many h.shown.bundle }

    is_text_of_all : IsScopedText h.certificate all_claimed
    is_text_of_all = subst (λ t. IsScopedText t all_claimed) (sym h.shown.is) (texts all_claimed h.shown.within)

    of_all_pairs : ComesToAccepted files check
    of_all_pairs = record {
      rows = h.rows;
      claimed = all_claimed;
      comes = (
        ap₂ (λ qrels runs. loaded files (sources qrels runs)) h.same_judgements h.same_runs ∙ h.loads,
        (h.certificate, short_file check.cert (files check.cert) h.certificate h.held h.shown.short, is_text_of_all),
      );
      passes = λ desk answer ranked verified.
          let same : desk ≡ h.desk = desk_one h.rows.qrels h.rows.runs desk h.desk ranked h.of_rows in
          accepted job h.desk h.certificate all_claimed answer h.shown is_text_of_all (subst (λ d. IsAnyVerified all_claimed.body d (marks_for all_claimed d) answer) same verified);
    }

  pub all_pairs_pass : AllPairsAreAccepted → DeskIsOne → AllPairsPass
  all_pairs_pass accepted desk_one job files check words call status h =
      accepts one files check words call status (of_all_pairs accepted desk_one job files check words call status h) h.over h.calm h.still
