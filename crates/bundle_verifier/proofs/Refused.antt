-- A bundle that is rejected is no evidence.
use Rattle.std.proofs.Common.{◌≡◌, ℕ, List, Some, length, refl, ap, sym, ◌∙◌}
use Rattle.std.specs.List.{zip}
use Rattle.std.specs.Prelude.{None}
use Rattle.std.proofs.lemmas.List.Elements.{recursion_from_All}
use Rattle.small_lemmas.proofs.Lists.{all_there}
use Rattle.desk_model.specs.Desk.{Desk}
use Rattle.desk_model.specs.declared.types.Mark.{Mark}
use Rattle.order_certificate.specs.Evidence.{IsEvidence}
use Rattle.order_certificate.specs.PlaceLines.{line_of_place}
use Rattle.order_bundle.specs.Bundle.{Bundle}
use Rattle.order_bundle.specs.Evidence.{IsBundleEvidence, written_out}
use Rattle.order_bundle.specs.declared.bundle.PairClaim.{PairClaim}
use Rattle.order_verifier.specs.declared.failure.Failure.{Failure}
use Rattle.order_verifier.specs.declared.failure.Failure.TheVariants as failed
use Rattle.order_verifier.specs.declared.rejected.Rejected.TheVariants.{BoundTooGreat, NoSum, NotCompletion, NoDifference}
use Rattle.order_verifier.specs.Refusal.{topic_names}
use Rattle.order_verifier.proofs.Answers.{rejected_no_evidence}
use Rattle.order_verifier.proofs.SameNames.{same_zip}
use Rattle.bundle_verifier.specs.Refusal.{FailsOn, IsRunOf, IsWrongName, NamesDesk, names_of_topics}
use Rattle.bundle_verifier.specs.Verified.{IsReason}
use Rattle.bundle_verifier.specs.declared.reason.BundleName.{BundleName}
use Rattle.bundle_verifier.specs.declared.reason.BundleName.TheVariants.{Run, TopicCount, Topic}
use Rattle.bundle_verifier.specs.declared.reason.BundleReason.{BundleReason}
use Rattle.bundle_verifier.specs.declared.reason.BundleReason.TheVariants.{WrongName, ClaimFails}

pub claim_refused : (b : Bundle) (desk : Desk) (marks : List (List Mark)) (c : PairClaim) (failure : Failure) → FailsOn b desk marks c failure → IsEvidence (written_out b c) desk marks → ⊥
claim_refused b desk marks c (failed.BoundTooGreat topic) h e = rejected_no_evidence (written_out b c) desk marks (BoundTooGreat topic) h e
claim_refused b desk marks c failed.NoSum h e = rejected_no_evidence (written_out b c) desk marks NoSum h e
claim_refused b desk marks c (failed.NotCompletion at) h e = rejected_no_evidence (written_out b c) desk marks (NotCompletion (line_of_place (written_out b c).evidence at)) (at, h, refl) e
claim_refused b desk marks c failed.NoDifference h e = rejected_no_evidence (written_out b c) desk marks NoDifference h e

-- no name of a bundle is wrong whose names are the desk's
pub name_refused : (b : Bundle) (desk : Desk) (name : BundleName) → NamesDesk b desk → IsWrongName b desk name → ⊥
name_refused b desk (Run run) (runs, topics) h =
    let known = all_there (IsRunOf desk) b.runs run h.item (recursion_from_All (IsRunOf desk) b.runs runs) h.there in
    let no : None ≡ Some known.0 = sym h.fails ∙ known.1 in cc
name_refused b desk TopicCount (runs, topics) h = h.1 (ap length topics)
name_refused b desk (Topic topic) (runs, topics) h =
    let first = h.1.1 in
    let names = names_of_topics b.topics in
    let own = topic_names desk in
    first.fails (all_there (λ (p : List ℕ × List ℕ). p.0 ≡ p.1) (zip names own) topic first.item (same_zip names own topics) first.there)

pub reason_refused : (b : Bundle) (desk : Desk) (marks : List (List Mark)) (reason : BundleReason) → IsReason b desk marks reason → IsBundleEvidence b desk marks → ⊥
reason_refused b desk marks (WrongName name) h e = name_refused b desk name (e.runs, e.topics) h
reason_refused b desk marks (ClaimFails claim failure) h e =
    let first = h.1 in
    claim_refused b desk marks first.item failure first.fails (all_there (λ c. IsEvidence (written_out b c) desk marks) b.claims claim first.item (recursion_from_All (λ c. IsEvidence (written_out b c) desk marks) b.claims e.claims) first.there)
