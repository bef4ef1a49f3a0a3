-- What a certificate of either version speaks of, when it is evidence, and what it claims of a desk under marks.
use Rattle.std.specs.Prelude.{ℕ, List}
use Rattle.desk_model.specs.Desk.{AreMarksOf, Desk, IsDesk}
use Rattle.desk_model.specs.MeasureText.{IsMeasure}
use Rattle.desk_model.specs.declared.types.Mark.{Mark}
use Rattle.desk_model.specs.declared.types.MeasureName.{MeasureName}
use Rattle.order_certificate.specs.Claim.{ClaimHolds}
use Rattle.order_certificate.specs.Evidence.{IsEvidence}
use Rattle.order_bundle.specs.Evidence.{ClaimsHold, IsBundleEvidence}
use Rattle.order_bundle.specs.declared.any_certificate.AnyCertificate.{AnyCertificate}
use Rattle.order_bundle.specs.declared.any_certificate.AnyCertificate.TheVariants.{One, Many}

-- the measure under which runs are compared
abbrev pub any_measure : AnyCertificate → MeasureName
any_measure (One c) = c.measure
any_measure (Many b) = b.measure

-- the least grade of a relevant document
abbrev pub any_level : AnyCertificate → ℕ
any_level (One c) = c.level
any_level (Many b) = b.level

abbrev pub IsAnyEvidence : AnyCertificate → Desk → List (List Mark) → Type 0
IsAnyEvidence (One c) desk marks = IsEvidence c desk marks
IsAnyEvidence (Many b) desk marks = IsBundleEvidence b desk marks

-- its claim holds, or all its claims do
abbrev pub AnyClaimHolds : AnyCertificate → Desk → List (List Mark) → Type 0
AnyClaimHolds (One c) desk marks = ClaimHolds c desk marks
AnyClaimHolds (Many b) desk marks = ClaimsHold b desk marks

-- where it is evidence, what it claims holds
abbrev pub AnyEvidenceImpliesClaims : Type 0
AnyEvidenceImpliesClaims =
    (c : AnyCertificate) (desk : Desk) (marks : List (List Mark)) → IsMeasure (any_measure c) → IsDesk desk → AreMarksOf desk marks → IsAnyEvidence c desk marks → AnyClaimHolds c desk marks
