-- What reading a certificate of either version answers.
use Rattle.std.specs.Prelude.{ℕ, Bool, List, Result, Ok, Err}
use Rattle.line_forms.specs.Form.{IsFirstBad, IsTextIn}
use Rattle.order_certificate.specs.declared.reading.CertFault.{CertFault}
use Rattle.order_certificate.specs.declared.reading.CertFault.TheVariants as fault
use Rattle.order_bundle.specs.Places.{IsAnyText, any_places, places_with}
use Rattle.order_bundle.specs.declared.any_certificate.AnyCertificate.{AnyCertificate}
use Rattle.order_bundle.specs.declared.scoped.Scoped.{Scoped}

-- the certificate whose text bytes are, or their first bad line
abbrev pub IsAnyAnswer : List ℕ → Result AnyCertificate CertFault → Type 0
IsAnyAnswer bytes (Ok c) = IsAnyText bytes c
IsAnyAnswer bytes (Err (fault.BadLine line)) = IsFirstBad any_places bytes line
IsAnyAnswer bytes (Err fault.Memory) = Unit {0}

-- the same with the depth, where depths are allowed
abbrev pub IsAnswerWith : Bool → List ℕ → Result Scoped CertFault → Type 0
IsAnswerWith depths bytes (Ok s) = IsTextIn (places_with depths) bytes s
IsAnswerWith depths bytes (Err (fault.BadLine line)) = IsFirstBad (places_with depths) bytes line
IsAnswerWith depths bytes (Err fault.Memory) = Unit {0}
