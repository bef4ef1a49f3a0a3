-- What writing a bundle answers.
use Rattle.std.specs.Prelude.{◌≡◌, ℕ, ◌<◌, ◌≤◌, length}
use Rattle.order_bundle.specs.Bundle.{Bundle, bundle_text}
use Rattle.order_bundle.specs.declared.writing.BundleFault.{BundleFault}
use Rattle.order_bundle.specs.declared.writing.BundleFault.TheVariants.{TooLong, Memory}

-- the most bytes of a text
abbrev pub TEXT_LIMIT : ℕ
TEXT_LIMIT = 1073741824

-- why a bundle was not written: its text is too long, with so many bytes; out of memory comes only where it is not
abbrev pub IsWritingFault : Bundle → BundleFault → Type 0
IsWritingFault b (TooLong bytes) = (bytes ≡ length (bundle_text b)) × (TEXT_LIMIT < bytes)
IsWritingFault b Memory = length (bundle_text b) ≤ TEXT_LIMIT
