-- Bytes are the text of a certificate or have a first bad line.
use Rattle.std.proofs.Common.{◌⊎◌, ℕ, List}
use Rattle.std.specs.Prelude.{codes}
use Rattle.line_forms.specs.Form.{IsFirstBad}
use Rattle.line_forms.proofs.Decided.{AreTested, text_or_bad}
use Rattle.line_forms.proofs.Tested.{fixed_found, name_found, later_name_found, name_and_count_found}
use Rattle.order_certificate.specs.Places.{certificate_places, IsText}
use Rattle.order_certificate.specs.declared.certificate.Certificate.{Certificate}
use Rattle.order_certificate.proofs.CertificatePlaces.{AtPlaces, in_certificate}
use Rattle.order_certificate.proofs.Measures.{measure_found}
use Rattle.order_certificate.proofs.Tested.{low_found, low_high_found, high_count_found, level_found, topics_found, claim_found}
use Rattle.order_certificate.proofs.Whole.{OneMeasure, places_plain}

pub places_tested : AtPlaces AreTested
places_tested = record {
  fixed_header = fixed_found (codes "desk-certificate 1");
  fixed_end = fixed_found (codes "end");
  measure = measure_found;
  level = level_found;
  first = name_found (codes "first ");
  second = name_found (codes "second ");
  claim = claim_found;
  topics = topics_found;
  low = low_found;
  low_high = low_high_found;
  low_count = name_and_count_found (codes "low ") 25000000;
  high_count = λ topic named. high_count_found topic;
  document = later_name_found (codes "doc ");
}

-- bytes are a text or have a first bad line
pub certificate_or_bad : OneMeasure → (bytes : List ℕ) → ((c : Certificate) × IsText bytes c) ⊎ ((n : ℕ) × IsFirstBad certificate_places bytes n)
certificate_or_bad unique bytes = text_or_bad certificate_places (places_plain unique) (in_certificate AreTested places_tested) bytes
