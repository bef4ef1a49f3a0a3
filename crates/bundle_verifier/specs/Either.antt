-- What checking a certificate of either version answers.
use Rattle.std.specs.Prelude.{◌≡◌, List, Result, Ok, Err}
use Rattle.desk_model.specs.Desk.{Desk}
use Rattle.desk_model.specs.declared.types.Mark.{Mark}
use Rattle.order_bundle.specs.Either.{IsAnyEvidence}
use Rattle.order_bundle.specs.declared.any_certificate.AnyCertificate.{AnyCertificate}
use Rattle.order_bundle.specs.declared.any_certificate.AnyCertificate.TheVariants.{One, Many}
use Rattle.order_verifier.specs.Verified.{IsRejected}
use Rattle.bundle_verifier.specs.Lines.{IsAnswer}
use Rattle.bundle_verifier.specs.declared.rejected.BundleRejected.{BundleRejected}

-- why it is no evidence: a certificate of one pair by what is told of it, with the number of no claim; a bundle by what is told of the first reason
abbrev pub IsAnyRejected : AnyCertificate → Desk → List (List Mark) → BundleRejected → Type 0
IsAnyRejected (One c) desk marks r = (r.claim ≡ 0) × IsRejected c desk marks r.why
IsAnyRejected (Many b) desk marks r = IsAnswer b desk marks (Err r)

-- what checking answers: that it is evidence, or why it is none
abbrev pub IsAnyVerified : AnyCertificate → Desk → List (List Mark) → Result (Unit {0}) BundleRejected → Type 0
IsAnyVerified c desk marks (Ok _) = IsAnyEvidence c desk marks
IsAnyVerified c desk marks (Err r) = IsAnyRejected c desk marks r
