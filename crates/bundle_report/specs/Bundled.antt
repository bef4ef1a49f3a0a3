-- What is printed of all pairs of runs: the text of their bundle, or that it would be too long.
use Rattle.std.specs.Prelude.{◌≡◌, ℕ, ◌<◌, ◌≤◌, List, length}
use Rattle.desk_model.specs.Desk.{IsDesk}
use Rattle.measure_core.specs.Made.{HasEnds}
use Rattle.order_bundle.specs.Bundle.{Bundle}
use Rattle.order_bundle.specs.Scoped.{IsScoped, scoped_text}
use Rattle.order_bundle.specs.declared.scoped.Scoped.{Scoped}
use Rattle.order_bundle.specs.Writing.{TEXT_LIMIT}
use Rattle.order_bundle.specs.declared.any_certificate.AnyCertificate.TheVariants.{Many}
use Rattle.table_bundle.specs.Bundles.{IsBundleOf}
use Rattle.desk_report.specs.Reports.{Subject}
use Rattle.bundle_report.specs.declared.report.Bundled.{Bundled}
use Rattle.bundle_report.specs.declared.report.Bundled.TheVariants as answers

-- the bundle of all pairs of runs of a desk, by the name of the measure: all runs, a claim on each pair that is not close, and the documents that some list names
pub record IsBundleOn (s : Subject) (b : Bundle) : Type 0 where
  pub valid : IsDesk s.desk
  pub of_pairs : IsBundleOf (HasEnds s.measure) s.measure s.desk s.marks s.level b

-- the bundle as a certificate under the depth of what is spoken of, and its text
abbrev pub certificate_on : Subject → Bundle → Scoped
certificate_on s b = record { depth = s.depth; body = Many b }

abbrev pub text_on : Subject → Bundle → List ℕ
text_on s b = scoped_text (certificate_on s b)

-- the text is that of the bundle, which is not too long
pub record IsAllPairsText (s : Subject) (text : List ℕ) : Type 0 where
  pub bundle : Bundle
  pub on : IsBundleOn s bundle
  pub within : IsScoped (certificate_on s bundle)
  pub is : text ≡ text_on s bundle
  pub short : length text ≤ TEXT_LIMIT

-- the text of the bundle has so many bytes, which are too many
pub record HasTooManyBytes (s : Subject) (bytes : ℕ) : Type 0 where
  pub bundle : Bundle
  pub on : IsBundleOn s bundle
  pub counted : bytes ≡ length (text_on s bundle)
  pub long : TEXT_LIMIT < bytes

-- what all pairs of runs are answered
abbrev pub IsBundledAs : Subject → Bundled → Type 0
IsBundledAs s (answers.Bundle text) = IsAllPairsText s text.items
IsBundledAs s (answers.TooLong bytes) = HasTooManyBytes s bytes
