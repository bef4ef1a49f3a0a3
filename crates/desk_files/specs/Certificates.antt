-- What the file of a certificate of either version says, and the depth under which it was made.
use Rattle.std.specs.Prelude.{◌≡◌, ◌⊎◌, ℕ, List, Option, Result, Ok, Err, IfSome}
use Rattle.desk_outside.specs.Outside.{Files}
use Rattle.line_forms.specs.Form.{IsFirstBad}
use Rattle.order_bundle.specs.Scoped.{IsScopedText, scoped_places}
use Rattle.order_bundle.specs.declared.scoped.Scoped.{Scoped}
use Rattle.desk_files.specs.declared.stop.Stop.{Stop as KeptStop}
use Rattle.desk_files.specs.Files.{Stop, Refused, BadLine, whole_file}
use Rattle.desk_files.specs.Outcome.{StopsAt}

-- bytes of a file have a first line that is none of a certificate at its place
abbrev pub HasBadLine : List ℕ → List ℕ → Stop → Type 0
HasBadLine path bytes why = (line : ℕ) × IsFirstBad scoped_places bytes line × (why ≡ Refused (BadLine path line))

-- the file of a certificate comes to it: its bytes are the text; or the file is missing, or too long, or has a bad line
abbrev pub CertificateComes : Files → List ℕ → Result Scoped Stop → Type 0
CertificateComes files path (Ok c) = (bytes : List ℕ) × (whole_file path (files path) ≡ Ok bytes) × IsScopedText bytes c
CertificateComes files path (Err why) = (whole_file path (files path) ≡ Err why) ⊎ ((bytes : List ℕ) × (whole_file path (files path) ≡ Ok bytes) × HasBadLine path bytes why)

-- a certificate is that of its file, where the files are known; a stop is one that the file comes to
abbrev pub ReadsCertificate : Option Files → ℕ → ℕ → List ℕ → Result Scoped KeptStop → Type 0
ReadsCertificate known before now path (Ok c) = IfSome known (λ files. CertificateComes files path (Ok c))
ReadsCertificate known before now path (Err stop) = StopsAt known before now stop (λ files why. CertificateComes files path (Err why))
