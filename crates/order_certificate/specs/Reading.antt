-- What reading a certificate answers.
use Rattle.std.specs.Prelude.{ℕ, List, Result, Ok, Err}
use Rattle.line_forms.specs.Form.{IsFirstBad}
use Rattle.order_certificate.specs.Places.{certificate_places, IsText}
use Rattle.order_certificate.specs.declared.certificate.Certificate.{Certificate}
use Rattle.order_certificate.specs.declared.reading.CertFault.{CertFault}
use Rattle.order_certificate.specs.declared.reading.CertFault.TheVariants as fault

-- the certificate whose text bytes are, or their first bad line
abbrev pub IsAnswer : List ℕ → Result Certificate CertFault → Type 0
IsAnswer bytes (Ok c) = IsText bytes c
IsAnswer bytes (Err (fault.BadLine line)) = IsFirstBad certificate_places bytes line
IsAnswer bytes (Err fault.Memory) = Unit {0}
