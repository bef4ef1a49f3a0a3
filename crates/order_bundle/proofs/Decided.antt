-- Bytes are the text of a certificate of either version or have a first bad line, and no line is long; with the line of a depth or without.
use Rattle.std.proofs.Common.{◌⊎◌, inl, inr, ℕ, zero, suc, ◌+◌, ◌/◌, ◌%◌, ◌≤◌, Bool, true, false, List, [], ◌∷◌, ◌++◌, length, cond, arith, length-append}
use Rattle.std.specs.Prelude.{codes, decimal, ◌==◌}
use Rattle.std.specs.List.{All}
use Rattle.std.specs.Fmt.{digit_glyph, digits, digits_onto, signed_decimal}
use Rattle.std.proofs.lemmas.List.Elements.{All-from_recursion}
use Rattle.line_forms.specs.Form.{CanStand, IsFirstBad, IsTextIn}
use Rattle.line_forms.proofs.Decided.{AreTested, text_or_bad}
use Rattle.line_forms.proofs.Lengths.{AreShort, IsShortLine, count_short, name_short, number_short, signed_most, stand_short, word_short}
use Rattle.line_forms.proofs.OrLine.{short_either, tested_either}
use Rattle.line_forms.proofs.Tested.{later_name_found, name_and_count_found}
use Rattle.order_certificate.specs.Places.{claim_line}
use Rattle.order_certificate.specs.declared.places.Claim.{Claim}
use Rattle.order_certificate.specs.declared.places.Claim.TheVariants as claimed
use Rattle.order_certificate.proofs.Decided.{places_tested}
use Rattle.order_certificate.proofs.Lengths.{places_short}
use Rattle.order_certificate.proofs.Whole.{OneMeasure}
use Rattle.order_bundle.specs.Bundle.{runs_text}
use Rattle.order_bundle.specs.Places.{IsAnyText, any_places, places_with, version_line}
use Rattle.order_bundle.specs.declared.any_certificate.AnyCertificate.{AnyCertificate}
use Rattle.order_bundle.specs.declared.any_certificate.Version.{Version}
use Rattle.order_bundle.specs.declared.any_certificate.Version.TheVariants as version
use Rattle.order_bundle.specs.declared.scoped.Scoped.{Scoped}
use Rattle.order_bundle.proofs.Either.{places_plain, text_of_body}
use Rattle.order_bundle.proofs.EveryLine.{AtAnyPlaces, in_places}
use Rattle.order_bundle.proofs.Known.{both_bounds_found, bound_found, claim_count_found, depth_found, head_found, list_count_found, pick_found, run_count_found, version_found}

-- ---- each line can be tested
any_tested : AtAnyPlaces AreTested
any_tested = record {
  one = places_tested;
  version = version_found;
  depth = depth_found;
  runs = run_count_found;
  run = later_name_found (codes "run ");
  topic = name_and_count_found (codes "topic ") 25000000;
  claims = claim_count_found;
  head = head_found;
  bound = bound_found;
  both_bounds = both_bounds_found;
  low = list_count_found (codes "low ");
  high = list_count_found (codes "high ");
  pick = pick_found;
}

pub text_or_bad_with : OneMeasure → (depths : Bool) (bytes : List ℕ) → ((s : Scoped) × IsTextIn (places_with depths) bytes s) ⊎ ((n : ℕ) × IsFirstBad (places_with depths) bytes n)
text_or_bad_with unique depths bytes = text_or_bad (places_with depths) (places_plain unique depths) (in_places AreTested tested_either any_tested depths) bytes

pub any_or_bad : OneMeasure → (bytes : List ℕ) → ((a : AnyCertificate) × IsAnyText bytes a) ⊎ ((n : ℕ) × IsFirstBad any_places bytes n)
any_or_bad unique bytes = elim (text_or_bad_with unique false bytes) [
  | inl h ↦ inl (h.0.body, text_of_body bytes h.0 h.1)
  | inr bad ↦ inr bad
]

-- ---- each line is short
-- a number has 64 digits at most, as it is written
digits_most : (k n : ℕ) (acc : List ℕ) → length (digits_onto k 10 false n acc) ≤ k + length acc
digits_most zero n acc = omega arith
digits_most (suc k) n acc = either (n / 10 == 0) (digit_glyph false (n % 10) ∷ acc) (digits_onto k 10 false (n / 10) (digit_glyph false (n % 10) ∷ acc)) (suc k + length acc) (omega arith) (let more = digits_most k (n / 10) (digit_glyph false (n % 10) ∷ acc) in omega arith)
  where
    either : (t : Bool) (v w : List ℕ) (most : ℕ) → length v ≤ most → length w ≤ most → length (cond t v w) ≤ most
    either true v w most p q = p
    either false v w most p q = q

number_most : (n : ℕ) → length (decimal n) ≤ 64
unfolding digits
number_most n = let most = digits_most 64 n [] in omega arith

claim_line_most : (claim : Claim) → length (claim_line claim) ≤ 20
claim_line_most claimed.Above = omega arith
claim_line_most claimed.Equal = omega arith
claim_line_most claimed.Open = omega arith

version_short : (v : Version) → IsShortLine (version_line v)
version_short version.One = omega arith
version_short version.Many = omega arith

any_short : AtAnyPlaces AreShort
any_short = record {
  one = places_short;
  version = λ v fits. version_short v;
  depth = λ d fits. number_short (codes "depth ") d (omega arith) (omega (arith, fits));
  runs = λ n fits. number_short (codes "runs ") n (omega arith) (omega (arith, fits));
  run = λ before name fits. name_short (codes "run ") name (omega arith) fits.0;
  topic = λ before p fits. count_short (codes "topic ") p.0 p.1 (omega arith) fits.0.0 fits.1;
  claims = λ n le. number_short (codes "claims ") n (omega arith) (omega arith);
  head = λ runs last h fits.
      let claim = claim_line_most h.claim in
      let first = number_most h.first in
      let second = number_most h.second in
      omega (arith, length-append (claim_line h.claim) (32 ∷ runs_text h.first h.second), length-append (decimal h.first) (32 ∷ decimal h.second));
  bound = λ b fits. let most = signed_most b.low fits.0 in word_short (codes "bound ") (signed_decimal b.low) (omega arith) (omega arith);
  both_bounds = λ b fits.
      let low = signed_most b.low fits.0 in
      let high = signed_most b.high fits.1 in
      word_short (codes "bound ") (signed_decimal b.low ++ 32 ∷ signed_decimal b.high) (omega arith) (omega (arith, length-append (signed_decimal b.low) (32 ∷ signed_decimal b.high)));
  low = λ n le. number_short (codes "low ") n (omega arith) (omega arith);
  high = λ n le. number_short (codes "high ") n (omega arith) (omega arith);
  pick = λ docs least k fits. let most = number_most k in word_short (codes "pick ") (decimal k) (omega arith) (omega arith);
}

pub lines_short : (depths : Bool) (lines : List (List ℕ)) → CanStand (places_with depths) lines → All IsShortLine lines
lines_short depths lines stand = All-from_recursion IsShortLine lines (stand_short (places_with depths) lines (in_places AreShort short_either any_short depths) stand)
