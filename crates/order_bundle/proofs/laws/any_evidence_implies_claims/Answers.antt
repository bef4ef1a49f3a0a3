use Rattle.std.proofs.Common.{List}
use Rattle.desk_model.specs.Desk.{AreMarksOf, Desk, IsDesk}
use Rattle.desk_model.specs.MeasureText.{IsMeasure}
use Rattle.desk_model.specs.declared.types.Mark.{Mark}
use Rattle.order_certificate.proofs.Holds.{evidence_claims}
use Rattle.order_bundle.specs.Either.{AnyClaimHolds, IsAnyEvidence, any_measure}
use Rattle.order_bundle.specs.declared.any_certificate.AnyCertificate.{AnyCertificate}
use Rattle.order_bundle.specs.declared.any_certificate.AnyCertificate.TheVariants.{One, Many}
use Rattle.order_bundle.proofs.WrittenOut.{evidence_holds}
use Rattle.order_bundle.proofs.laws.any_evidence_implies_claims.Goals as goal

any_evidence_holds : (c : AnyCertificate) (desk : Desk) (marks : List (List Mark)) → IsMeasure (any_measure c) → IsDesk desk → AreMarksOf desk marks → IsAnyEvidence c desk marks → AnyClaimHolds c desk marks
any_evidence_holds (One c) desk marks = evidence_claims c desk marks
any_evidence_holds (Many b) desk marks = evidence_holds b desk marks

pub returns : goal.returns
returns c = any_evidence_holds
