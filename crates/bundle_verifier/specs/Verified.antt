-- What checking a bundle answers.
use Rattle.std.specs.Prelude.{List, Result, Ok, Err}
use Rattle.desk_model.specs.Desk.{Desk}
use Rattle.desk_model.specs.declared.types.Mark.{Mark}
use Rattle.order_certificate.specs.Evidence.{IsEvidence}
use Rattle.order_bundle.specs.Bundle.{Bundle}
use Rattle.order_bundle.specs.Evidence.{IsBundleEvidence, written_out}
use Rattle.order_verifier.specs.Refusal.{IsFirstFailing}
use Rattle.bundle_verifier.specs.Refusal.{FailsOn, IsWrongName, NamesDesk}
use Rattle.bundle_verifier.specs.declared.reason.BundleReason.{BundleReason}
use Rattle.bundle_verifier.specs.declared.reason.BundleReason.TheVariants.{WrongName, ClaimFails}

-- why a bundle is no evidence: the first name that is not the desk's, or, where all are, the first claim that is no evidence
abbrev pub IsReason : Bundle → Desk → List (List Mark) → BundleReason → Type 0
IsReason b desk marks (WrongName name) = IsWrongName b desk name
IsReason b desk marks (ClaimFails claim failure) =
    NamesDesk b desk × IsFirstFailing (λ c. IsEvidence (written_out b c) desk marks) (λ c. FailsOn b desk marks c failure) b.claims claim

-- what checking answers: that the bundle is evidence, or why it is none
abbrev pub IsVerified : Bundle → Desk → List (List Mark) → Result (Unit {0}) BundleReason → Type 0
IsVerified b desk marks (Ok _) = IsBundleEvidence b desk marks
IsVerified b desk marks (Err reason) = IsReason b desk marks reason
