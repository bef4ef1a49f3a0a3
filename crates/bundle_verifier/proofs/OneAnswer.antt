-- A bundle has one answer on a desk under its marks, and so has a certificate of either version.
use Rattle.std.proofs.Common.{◌≡◌, ◌≢◌, ℕ, List, Some, refl, ap, ap₂, sym, subst, ◌∙◌}
use Rattle.std.specs.Prelude.{All, None, Result, Ok, Err}
use Rattle.std.specs.List.{zip}
use Rattle.std.proofs.lemmas.List.Elements.{recursion_from_All}
use Rattle.desk_model.specs.Desk.{Desk}
use Rattle.desk_model.specs.declared.types.Mark.{Mark}
use Rattle.order_certificate.specs.Evidence.{IsEvidence}
use Rattle.order_bundle.specs.Bundle.{Bundle}
use Rattle.order_bundle.specs.Evidence.{written_out}
use Rattle.order_bundle.specs.declared.any_certificate.AnyCertificate.{AnyCertificate}
use Rattle.order_bundle.specs.declared.any_certificate.AnyCertificate.TheVariants.{One, Many}
use Rattle.order_bundle.specs.declared.bundle.PairClaim.{PairClaim}
use Rattle.order_verifier.specs.Refusal.{topic_names}
use Rattle.order_verifier.specs.declared.failure.Failure.{Failure}
use Rattle.order_verifier.specs.declared.rejected.Rejected.{Rejected}
use Rattle.order_verifier.proofs.Answers.{one_answer, one_failure, rejected_no_evidence}
use Rattle.order_verifier.proofs.FirstFailing.{none_fails, not_held, one_first}
use Rattle.bundle_verifier.specs.Either.{IsAnyVerified}
use Rattle.bundle_verifier.specs.Lines.{IsAnswer, told}
use Rattle.bundle_verifier.specs.Refusal.{FailsOn, IsNoRunOf, IsRunOf, IsWrongName, names_of_topics}
use Rattle.bundle_verifier.specs.Verified.{IsReason}
use Rattle.bundle_verifier.specs.declared.reason.BundleName.{BundleName}
use Rattle.bundle_verifier.specs.declared.reason.BundleName.TheVariants.{Run, TopicCount, Topic}
use Rattle.bundle_verifier.specs.declared.reason.BundleReason.{BundleReason}
use Rattle.bundle_verifier.specs.declared.reason.BundleReason.TheVariants.{WrongName, ClaimFails}
use Rattle.bundle_verifier.specs.declared.rejected.BundleRejected.{BundleRejected}
use Rattle.bundle_verifier.proofs.Refused.{claim_refused, name_refused, reason_refused}

-- ---- names
module _ (b : Bundle) (desk : Desk) where
  run_apart : (name : List ℕ) → IsRunOf desk name → IsNoRunOf desk name → ⊥
  run_apart name known none = let no : None ≡ Some known.0 = sym none ∙ known.1 in cc

  no_run_fails : (run : ℕ) → All (IsRunOf desk) b.runs → IsWrongName b desk (Run run) → ⊥
  no_run_fails run all h = none_fails (IsRunOf desk) (IsNoRunOf desk) run_apart b.runs run (recursion_from_All (IsRunOf desk) b.runs all) h

  one_wrong_name : (x y : BundleName) → IsWrongName b desk x → IsWrongName b desk y → x ≡ y
  one_wrong_name (Run run) (Run other) h k = ap Run (one_first (IsRunOf desk) (IsNoRunOf desk) run_apart b.runs run other h k)
  one_wrong_name (Run run) TopicCount h k = absurd (no_run_fails run k.0 h)
  one_wrong_name (Run run) (Topic topic) h k = absurd (no_run_fails run k.0 h)
  one_wrong_name TopicCount (Run run) h k = absurd (no_run_fails run h.0 k)
  one_wrong_name TopicCount TopicCount h k = refl
  one_wrong_name TopicCount (Topic topic) h k = absurd (h.1 k.1.0)
  one_wrong_name (Topic topic) (Run run) h k = absurd (no_run_fails run h.0 k)
  one_wrong_name (Topic topic) TopicCount h k = absurd (k.1 h.1.0)
  one_wrong_name (Topic topic) (Topic other) h k =
      ap Topic (one_first (λ (p : List ℕ × List ℕ). p.0 ≡ p.1) (λ p. p.0 ≢ p.1) (λ p same differs. differs same) (zip (names_of_topics b.topics) (topic_names desk)) topic other h.1.1 k.1.1)

-- ---- claims
module _ (b : Bundle) (desk : Desk) (marks : List (List Mark)) where
  abbrev Holds : PairClaim → Type 0
  Holds c = IsEvidence (written_out b c) desk marks

  abbrev Fails : Failure → PairClaim → Type 0
  Fails failure c = FailsOn b desk marks c failure

  fails_apart : (failure : Failure) (c : PairClaim) → Holds c → Fails failure c → ⊥
  fails_apart failure c holds fails = claim_refused b desk marks c failure fails holds

  one_reason : (r s : BundleReason) → IsReason b desk marks r → IsReason b desk marks s → r ≡ s
  one_reason (WrongName x) (WrongName y) h k = ap WrongName (one_wrong_name b desk x y h k)
  one_reason (WrongName x) (ClaimFails n g) h k = absurd (name_refused b desk x k.0 h)
  one_reason (ClaimFails m f) (WrongName y) h k = absurd (name_refused b desk y h.0 k)
  one_reason (ClaimFails m f) (ClaimFails n g) (_, h) (_, k) =
      let same : m ≡ n = one_first Holds (λ c. Holds c → ⊥) (λ c holds fails. fails holds) b.claims m n (not_held Holds (Fails f) (fails_apart f) b.claims m h) (not_held Holds (Fails g) (fails_apart g) b.claims n k) in
      let at = h.there in
      let at' = k.there in
      let item : h.item ≡ k.item = cc in
      ap₂ ClaimFails same (one_failure (written_out b k.item) desk marks f g (subst (Fails f) item h.fails) k.fails)

  pub one_answer_of_bundle : (r s : Result (Unit {0}) BundleRejected) → IsAnswer b desk marks r → IsAnswer b desk marks s → r ≡ s
  one_answer_of_bundle (Ok x) (Ok y) h k = refl
  one_answer_of_bundle (Ok x) (Err s) h (reason, is, _) = absurd (reason_refused b desk marks reason is h)
  one_answer_of_bundle (Err r) (Ok y) (reason, is, _) k = absurd (reason_refused b desk marks reason is k)
  one_answer_of_bundle (Err r) (Err s) (reason, is, told_r) (other, also, told_s) = ap Err (told_r ∙ ap (told b) (one_reason reason other is also) ∙ sym told_s)

-- ---- either version
same_why : (x y : Rejected) → ◌≡◌ {A = Result (Unit {0}) Rejected} (Err x) (Err y) → x ≡ y
same_why x y e = cc

pub one_answer_of_any : (c : AnyCertificate) (desk : Desk) (marks : List (List Mark)) (r s : Result (Unit {0}) BundleRejected) → IsAnyVerified c desk marks r → IsAnyVerified c desk marks s → r ≡ s
one_answer_of_any c desk marks (Ok x) (Ok y) h k = refl
one_answer_of_any (One c) desk marks (Ok x) (Err s) h k = absurd (rejected_no_evidence c desk marks s.why k.1 h)
one_answer_of_any (One c) desk marks (Err r) (Ok y) h k = absurd (rejected_no_evidence c desk marks r.why h.1 k)
one_answer_of_any (One c) desk marks (Err r) (Err s) h k =
    ap Err (ap₂ (λ n why. record { claim = n; why = why }) (h.0 ∙ sym k.0) (same_why r.why s.why (one_answer c desk marks (Err r.why) (Err s.why) h.1 k.1)))
one_answer_of_any (Many b) desk marks (Ok x) (Err s) h k = one_answer_of_bundle b desk marks (Ok x) (Err s) h k
one_answer_of_any (Many b) desk marks (Err r) (Ok y) h k = one_answer_of_bundle b desk marks (Err r) (Ok y) h k
one_answer_of_any (Many b) desk marks (Err r) (Err s) h k = one_answer_of_bundle b desk marks (Err r) (Err s) h k
