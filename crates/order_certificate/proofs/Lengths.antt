-- How long the lines of a certificate can be.
use Rattle.std.proofs.Common.{◌≡◌, ℕ, List, ◌∷◌, ◌++◌, true, arith, length-append}
use Rattle.std.specs.Prelude.{codes}
use Rattle.std.specs.List.{All}
use Rattle.std.specs.Fmt.{signed_decimal}
use Rattle.std.proofs.lemmas.List.Elements.{All-from_recursion}
use Rattle.desk_model.specs.MeasureText.{measure_text}
use Rattle.desk_model.specs.Name.{is_name}
use Rattle.line_forms.specs.Form.{CanStand}
use Rattle.line_forms.specs.Places.{IsShortNumber}
use Rattle.line_forms.proofs.Lengths.{AreShort, IsShortLine, count_short, name_and_text_short, name_short, number_short, signed_most, stand_short, word_short}
use Rattle.order_certificate.specs.Certificate.{low_line, low_high_line}
use Rattle.order_certificate.specs.Places.{claim_line, certificate_places}
use Rattle.order_certificate.specs.declared.certificate.TopicBound.{TopicBound}
use Rattle.order_certificate.specs.declared.places.Claim.{Claim}
use Rattle.order_certificate.specs.declared.places.Claim.TheVariants as claimed
use Rattle.order_certificate.proofs.CertificatePlaces.{AtPlaces, in_certificate}
use Rattle.order_certificate.proofs.Measures.{measure_most}

low_line_short : (b : TopicBound) → is_name b.topic ≡ true → IsShortNumber b.low → IsShortLine (low_line b)
low_line_short b named low = let line = name_and_text_short b.topic (signed_decimal b.low) named (signed_most b.low low) in word_short (codes "topic ") (b.topic ++ 32 ∷ signed_decimal b.low) (omega arith) (omega arith)

low_high_line_short : (b : TopicBound) → is_name b.topic ≡ true → IsShortNumber b.low → IsShortNumber b.high → IsShortLine (low_high_line b)
low_high_line_short b named low high =
    let line = name_and_text_short b.topic (signed_decimal b.low) named (signed_most b.low low) in
    let most = signed_most b.high high in
    omega (arith, length-append (low_line b) (32 ∷ signed_decimal b.high), length-append (codes "topic ") (b.topic ++ 32 ∷ signed_decimal b.low))

claim_line_short : (claim : Claim) → IsShortLine (claim_line claim)
claim_line_short claimed.Above = omega arith
claim_line_short claimed.Equal = omega arith
claim_line_short claimed.Open = omega arith

pub places_short : AtPlaces AreShort
places_short = record {
  fixed_header = λ p fits. omega arith;
  fixed_end = λ p fits. omega arith;
  measure = λ m fits. let most = measure_most m fits in word_short (codes "measure ") (measure_text m) (omega arith) (omega arith);
  level = λ n fits. number_short (codes "level ") n (omega arith) (omega (arith, fits));
  first = λ name named. name_short (codes "first ") name (omega arith) named;
  second = λ name named. name_short (codes "second ") name (omega arith) named;
  claim = λ claim fits. claim_line_short claim;
  topics = λ n fits. number_short (codes "topics ") n (omega arith) (omega (arith, fits));
  low = λ before b fits. low_line_short b fits.0.0 fits.1.0;
  low_high = λ before b fits. low_high_line_short b fits.0.0 fits.1.0 fits.1.1;
  low_count = λ before p fits. count_short (codes "low ") p.0 p.1 (omega arith) fits.0.0 fits.1;
  high_count = λ topic named n le. count_short (codes "high ") topic n (omega arith) named le;
  document = λ before name fits. name_short (codes "doc ") name (omega arith) fits.0;
}

-- lines that can stand are short
pub lines_short : (lines : List (List ℕ)) → CanStand certificate_places lines → All IsShortLine lines
lines_short lines stand = All-from_recursion IsShortLine lines (stand_short certificate_places lines (in_certificate AreShort places_short) stand)
