-- Certificates of either version that were made under a depth or under none, and their texts.
pub use Rattle.order_bundle.specs.Depths.{IsDepth, IsScope, depth_line, depth_lines}
use Rattle.std.specs.Prelude.{◌≡◌, ℕ, ◌<◌, ◌≤◌, true, List, ◌++◌, length, Option, Result}
use Rattle.line_forms.specs.Form.{Form, IsTextIn, text_of}
use Rattle.order_certificate.specs.Certificate.{from_first_lines, opening_lines as opening_of_one}
use Rattle.order_certificate.specs.declared.reading.CertFault.{CertFault}
use Rattle.order_bundle.specs.Bundle.{opening_lines, runs_lines}
use Rattle.order_bundle.specs.Places.{IsAnyCertificate, places_with}
use Rattle.order_bundle.specs.Reading.{IsAnswerWith}
use Rattle.order_bundle.specs.Writing.{TEXT_LIMIT}
use Rattle.order_bundle.specs.declared.any_certificate.AnyCertificate.{AnyCertificate}
use Rattle.order_bundle.specs.declared.any_certificate.AnyCertificate.TheVariants.{One, Many}
use Rattle.order_bundle.specs.declared.scoped.Scoped.{Scoped}
use Rattle.order_bundle.specs.declared.writing.BundleFault.{BundleFault}
use Rattle.order_bundle.specs.declared.writing.BundleFault.TheVariants.{TooLong, Memory}

-- a certificate of either version, in which the line of a depth may come after that of the level
abbrev pub scoped_places : Form Scoped
scoped_places = places_with true

-- bytes are the text of a certificate, and say the depth under which it was made
abbrev pub IsScopedText : List ℕ → Scoped → Type 0
IsScopedText = IsTextIn scoped_places

-- what has a text
pub record IsScoped (s : Scoped) : Type 0 where
  pub scope : IsScope s.depth
  pub body : IsAnyCertificate s.body

-- ---- the text that is written
-- the first three lines, up to the level
abbrev pub lines_to_level : AnyCertificate → List (List ℕ)
lines_to_level (One c) = opening_of_one c.measure c.level
lines_to_level (Many b) = opening_lines b.measure b.level

-- the lines that follow the level, or the depth
abbrev pub lines_after_level : AnyCertificate → List (List ℕ)
lines_after_level (One c) = from_first_lines c
lines_after_level (Many b) = runs_lines b.runs b.topics b.claims

abbrev pub scoped_lines : Scoped → List (List ℕ)
scoped_lines s = lines_to_level s.body ++ (depth_lines s.depth ++ lines_after_level s.body)

-- the text of a certificate, with the line of its depth
unfoldable pub scoped_text : Scoped → List ℕ
scoped_text s = text_of (scoped_lines s)

-- ---- what reading and writing answer
-- the certificate and the depth whose text bytes are, or their first bad line
abbrev pub IsScopedAnswer : List ℕ → Result Scoped CertFault → Type 0
IsScopedAnswer = IsAnswerWith true

-- so many bytes are not too many for the text of a certificate: that of one pair of runs may have any number
abbrev pub IsShortFor : AnyCertificate → ℕ → Type 0
IsShortFor (One c) bytes = Unit {0}
IsShortFor (Many b) bytes = bytes ≤ TEXT_LIMIT

-- so many bytes are too many
abbrev pub IsLongFor : AnyCertificate → ℕ → Type 0
IsLongFor (One c) bytes = ⊥
IsLongFor (Many b) bytes = TEXT_LIMIT < bytes

-- why a certificate was not written: its text is too long, with so many bytes; out of memory comes only where it is not
abbrev pub IsScopedFault : Scoped → BundleFault → Type 0
IsScopedFault s (TooLong bytes) = (bytes ≡ length (scoped_text s)) × IsLongFor s.body bytes
IsScopedFault s Memory = IsShortFor s.body (length (scoped_text s))
