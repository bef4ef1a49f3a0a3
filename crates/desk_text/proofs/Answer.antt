-- The computed answer is the one that a text is read as.
use Rattle.std.proofs.Common.{◌≡◌, ℕ, zero, suc, ◌*◌, ◌/◌, ◌%◌, ◌^◌, ◌<◌, ◌≤◌, ℤ, pos, ◌+ℤ◌, ◌-ℤ◌, neg_ℤ, int_le, Bool, true, false, ◌||◌, ◌==◌, nat_lt, nat_le, if◌then◌else◌, List, [], ◌∷◌, length, Result, Ok, Err, inl, inr, refl, sym, ap, ◌∙◌, arith}
use Rattle.std.specs.Str.{all_ascii_digits}
use Rattle.std.specs.Str.Parse.{AllDigits, without_leading_sign}
use Rattle.std.proofs.lemmas.Bool.{cases_eq, cases_lt, and_parts, and_from, or_cases, ltb-true, leb-true, leb-false, eqb-true, eqb-false, eq-eqb, ne_eqb, lt-ltb, le-ltb, le-leb, false≢true}
use Rattle.std.proofs.Math.Nat.{mul_assoc, div-div-eq-div-mul, pow-suc, pow-succ', div-one}
use Rattle.std.proofs.lemmas.Int.{ints}
use Rattle.std.proofs.lemmas.Str.{digit_value_digit}
use Rattle.std.proofs.lemmas.Str.Parse.{digit_from_value}
use Rattle.desk_text.specs.declared.score.ScoreFault.{ScoreFault}
use Rattle.desk_text.specs.declared.score.ScoreFault.TheVariants.{BadScore, ScoreTooLong, ScoreExponent}
use Rattle.desk_text.specs.Text.{ScoreParts, HasParts}
use Rattle.desk_text.specs.Value.{number_of, IsPlace, ReadsAs, StandsForDigits, scaled}
use Rattle.desk_text.specs.Reading.{cut_parts, mantissa_of, power_of, is_score_text, zeros_of, is_place, limited, number_in, score_of}
use Rattle.desk_text.specs.Significand.{HasLastZeros}
use Rattle.desk_text.proofs.Spellings.{IsDigitText, spelled_from_digits, cut_from_spelled}
use Rattle.desk_text.proofs.Readings.{one_reading, stands_text}

-- the tests of digits
digits_tested : (ds : List ℕ) → all_ascii_digits ds ≡ true → AllDigits 10 ds
digits_tested [] e = tt
digits_tested (c ∷ ds) e =
    let p = and_parts _ _ e in
    let range = and_parts _ _ p.0 in
    let d = digit_value_digit c (leb-true _ _ range.0, leb-true _ _ range.1) in
    let high = leb-true _ _ range.1 in
    (omega (arith, d, high), digits_tested ds p.1)

digits_pass : (ds : List ℕ) → AllDigits 10 ds → all_ascii_digits ds ≡ true
digits_pass [] h = refl
digits_pass (c ∷ ds) h = let d = digit_from_value c h.0 in and_from _ _ (and_from _ _ (le-leb _ _ d.0) (le-leb _ _ d.1)) (digits_pass ds h.1)

-- the test of a text
text_tested : (text : List ℕ) → is_score_text text ≡ true → IsDigitText text
text_tested text e =
    let whole = and_parts _ _ e in
    let fraction = and_parts _ _ whole.1 in
    let some = and_parts _ _ fraction.1 in
    let power = and_parts _ _ some.1 in
    record {
      whole_digits = digits_tested _ whole.0;
      fraction_digits = digits_tested _ fraction.0;
      some_digit = ltb-true _ _ some.0;
      power_digits = digits_tested _ power.0;
      power_digit = λ below. elim (or_cases _ _ power.1) [ inl has ↦ ltb-true _ _ has | inr none ↦ absurd (let n = leb-true _ _ none in omega arith) ];
    }

power_passes : (unsigned mantissa exponent : List ℕ) → (length mantissa < length unsigned → 0 < length exponent) → (nat_lt 0 (length exponent) || nat_le (length unsigned) (length mantissa)) ≡ true
power_passes unsigned mantissa exponent h =
    elim (cases_lt 0 (length exponent)) [
      | inl has ↦ rw (lt-ltb _ _ has) refl
      | inr none ↦
          let whole : length unsigned ≤ length mantissa = elim (cases_lt (length mantissa) (length unsigned)) [
            | inl below ↦ absurd (let has = h below in omega arith)
            | inr not_below ↦ not_below
          ] in
          rw (le-ltb _ _ none) (le-leb _ _ whole)
    ]

text_passes : (text : List ℕ) → IsDigitText text → is_score_text text ≡ true
text_passes text h =
    and_from _ _ (digits_pass _ h.whole_digits) (and_from _ _ (digits_pass _ h.fraction_digits) (and_from _ _ (lt-ltb _ _ h.some_digit) (and_from _ _ (digits_pass _ h.power_digits) (power_passes (without_leading_sign text) (mantissa_of text) (without_leading_sign (power_of text)) h.power_digit))))

-- the zeros at the end of a number other than 0
pub last_zeros : (fuel number : ℕ) → 0 < number → number ≤ fuel → HasLastZeros number (number / 10 ^ zeros_of fuel number) (zeros_of fuel number)
unfolding zeros_of
last_zeros zero number some enough = absurd (omega arith)
last_zeros (suc fuel) number some enough =
    elim (cases_eq (number % 10) 0) [
      | inl more ↦
          let rest = last_zeros fuel (number / 10) (omega arith) (omega arith) in
          let z = zeros_of fuel (number / 10) in
          let split = div-div-eq-div-mul number 10 (10 ^ z) in
          let power = pow-succ' 10 z in
          let digits : number / 10 ^ suc z ≡ number / 10 / 10 ^ z = rw power (sym split) in
          rw (eq-eqb _ _ more) (record {
            value = let whole : number ≡ number / 10 * 10 = omega arith in
                whole ∙ ap (λ x. x * 10) rest.value ∙ mul_assoc (number / 10 / 10 ^ z) (10 ^ z) 10
                ∙ ap (λ p. number / 10 / 10 ^ z * p) (sym (pow-suc 10 z)) ∙ ap (λ d. d * 10 ^ suc z) (sym digits);
            last = rw digits rest.last;
          })
      | inr digit ↦ rw (ne_eqb _ _ digit) (record { value = let whole = div-one number in omega (arith, whole); last = λ e. digit (ap (λ x. x % 10) (sym (div-one number)) ∙ e) })
    ]

place_tested : (place : ℤ) → is_place place ≡ true → IsPlace place
place_tested place e =
    let p = and_parts (int_le (neg_ℤ (pos 999)) place) (int_le place (pos 999)) e in
    (record { le = rw p.0 tt }, record { le = rw p.1 tt })

place_passes : (place : ℤ) → IsPlace place → is_place place ≡ true
place_passes place h = and_from (int_le (neg_ℤ (pos 999)) place) (int_le place (pos 999)) (grind (arith, ints)) (grind (arith, ints))

limited_reads : (text : List ℕ) (is_negative : Bool) (digits : ℕ) (place : ℤ) → StandsForDigits text is_negative digits place → (long near : Bool) → nat_le (10 ^ 30) digits ≡ long → is_place place ≡ near →
    ReadsAs text (if long then Err ScoreTooLong else (if near then Ok (scaled is_negative digits place) else Err ScoreExponent))
limited_reads text is_negative digits place stands true near l n = (is_negative, (digits, (place, (stands, leb-true _ _ l))))
limited_reads text is_negative digits place stands false true l n =
    inr record { is_negative = is_negative; digits = digits; place = place; stands = stands; short = leb-false _ _ l; near = place_tested place n; is_value = refl }
limited_reads text is_negative digits place stands false false l n = (is_negative, (digits, (place, (stands, leb-false _ _ l, λ near. false≢true (sym n ∙ place_passes place near)))))

number_reads : (text : List ℕ) (p : ScoreParts) → HasParts text p → (nothing : Bool) → (number_of p == 0) ≡ nothing →
    let number = number_of p in
    let zeros = zeros_of number number in
    ReadsAs text (if nothing then Ok (pos 0) else limited p.is_negative (number / 10 ^ zeros) (p.exponent +ℤ (pos zeros -ℤ pos (length p.fraction))))
number_reads text p written true e = inl ((p, written, eqb-true _ _ e), refl)
number_reads text p written false e =
    let number = number_of p in
    let zeros = zeros_of number number in
    let digits = number / 10 ^ zeros in
    let place = pos zeros -ℤ pos (length p.fraction) in
    let some : 0 < number = let f = eqb-false _ _ e in omega (arith, f) in
    limited_reads text p.is_negative digits (p.exponent +ℤ place) (stands_text text p digits zeros place written (last_zeros number number some (omega arith)) (omega (arith, ints))) _ _ refl refl

text_reads : (text : List ℕ) (is_text : Bool) → is_score_text text ≡ is_text → ReadsAs text (if is_text then number_in (cut_parts text) else Err BadScore)
text_reads text true e = number_reads text (cut_parts text) (spelled_from_digits text (text_tested text e)) _ refl
text_reads text false e = λ spelled. false≢true (sym e ∙ text_passes text (cut_from_spelled text spelled.0 spelled.1).digits)

-- the computed answer is the one that the text is read as
pub reads_as-score_of : (text : List ℕ) → ReadsAs text (score_of text)
unfolding score_of
reads_as-score_of text = text_reads text (is_score_text text) refl

-- what a text is read as is the computed answer
pub answer_is : (text : List ℕ) (answer : Result ℤ ScoreFault) → ReadsAs text answer → answer ≡ score_of text
answer_is text answer h = one_reading text answer (score_of text) h (reads_as-score_of text)
