-- What checking a certificate answers.
use Rattle.std.specs.Prelude.{◌≡◌, ℕ, List, Result, Ok, Err}
use Rattle.desk_model.specs.Desk.{Desk}
use Rattle.desk_model.specs.declared.types.Mark.{Mark}
use Rattle.order_certificate.specs.Claim.{NamesTopics}
use Rattle.order_certificate.specs.Evidence.{IsEvidence}
use Rattle.order_certificate.specs.PlaceLines.{HasPlace, line_of_place}
use Rattle.order_certificate.specs.declared.certificate.Certificate.{Certificate}
use Rattle.order_certificate.specs.declared.certificate.Evidence.{Evidence}
use Rattle.order_certificate.specs.declared.place.CertificatePlace.{CertificatePlace}
use Rattle.order_verifier.specs.declared.failure.Failure.{Failure}
use Rattle.order_verifier.specs.declared.failure.Failure.TheVariants as failed
use Rattle.order_verifier.specs.declared.rejected.Rejected.{Rejected}
use Rattle.order_verifier.specs.declared.rejected.Rejected.TheVariants.{WrongNames, BoundTooGreat, NoSum, NotCompletion, NoDifference}
use Rattle.order_verifier.specs.Refusal.{Compared, NamesRuns, IsWrongName, HasBoundTooGreat, BoundsHold, HasWrongSum, HasWrongDocument, HasCompletions, HasSameOrder}

-- why evidence does not show what is claimed of two runs, where all its names are the desk's
abbrev pub FailsBy : Compared → Evidence → Failure → Type 0
FailsBy c evidence (failed.BoundTooGreat topic) = HasBoundTooGreat c evidence topic
FailsBy c evidence failed.NoSum = BoundsHold c evidence × HasWrongSum evidence
FailsBy c evidence (failed.NotCompletion place) = HasWrongDocument c evidence place
FailsBy c evidence failed.NoDifference = HasCompletions c evidence × HasSameOrder c evidence

-- a failure that speaks of a place speaks of one that is there
abbrev pub IsPlaced : Evidence → Failure → Type 0
IsPlaced evidence (failed.BoundTooGreat topic) = Unit {0}
IsPlaced evidence failed.NoSum = Unit {0}
IsPlaced evidence (failed.NotCompletion place) = HasPlace evidence place
IsPlaced evidence failed.NoDifference = Unit {0}

-- what is told of a failure: the line of its place
abbrev pub rejection : Evidence → Failure → Rejected
rejection evidence (failed.BoundTooGreat topic) = BoundTooGreat topic
rejection evidence failed.NoSum = NoSum
rejection evidence (failed.NotCompletion place) = NotCompletion (line_of_place evidence place)
rejection evidence failed.NoDifference = NoDifference

-- a fact of the place of a certificate that has a line
abbrev pub OfPlace : Evidence → ℕ → (CertificatePlace → Type 0) → Type 0
OfPlace evidence line fact = (place : CertificatePlace) × fact place × (line ≡ line_of_place evidence place)

-- the runs and topics of a certificate are the desk's, and a fact of both runs
abbrev pub OnDesk : Certificate → Desk → List (List Mark) → (Compared → Type 0) → Type 0
OnDesk c desk marks fact =
    (first : ℕ) × (second : ℕ) × NamesRuns c desk first second × NamesTopics c.evidence desk
    × fact (record { measure = c.measure; desk = desk; marks = marks; first = first; second = second })

-- why a certificate is no evidence: the first reason that applies
abbrev pub IsRejected : Certificate → Desk → List (List Mark) → Rejected → Type 0
IsRejected c desk marks (WrongNames line) = OfPlace c.evidence line (IsWrongName c desk)
IsRejected c desk marks (BoundTooGreat topic) = OnDesk c desk marks (λ k. FailsBy k c.evidence (failed.BoundTooGreat topic))
IsRejected c desk marks NoSum = OnDesk c desk marks (λ k. FailsBy k c.evidence failed.NoSum)
IsRejected c desk marks (NotCompletion line) = OfPlace c.evidence line (λ place. OnDesk c desk marks (λ k. FailsBy k c.evidence (failed.NotCompletion place)))
IsRejected c desk marks NoDifference = OnDesk c desk marks (λ k. FailsBy k c.evidence failed.NoDifference)

-- what checking a certificate answers: that it is evidence, or why it is none
abbrev pub IsVerified : Certificate → Desk → List (List Mark) → Result (Unit {0}) Rejected → Type 0
IsVerified c desk marks (Ok _) = IsEvidence c desk marks
IsVerified c desk marks (Err why) = IsRejected c desk marks why
