-- Numbers in plain digits are what their texts are read as.
use Rattle.std.proofs.Common.{◌≡◌, ◌≢◌, ℕ, zero, suc, ◌+◌, ◌-◌, ◌*◌, ◌/◌, ◌%◌, ◌^◌, ◌<◌, ◌≤◌, ℤ, pos, ◌+ℤ◌, ◌-ℤ◌, neg_ℤ, Bool, true, false, Ok, List, [], ◌∷◌, ◌++◌, take, drop, length, get_or, inl, inr, refl, sym, ap, subst, ◌∙◌, arith, add-one, append-nil, length-append, length-drop, length-take, take-append-drop}
use Rattle.std.specs.List.{slice_range}
use Rattle.std.specs.Char.{IsAsciiDigit, is_ascii_digit}
use Rattle.std.specs.Int.RustNames.{unsigned_abs}
use Rattle.std.specs.Str.Parse.{AllDigits, digits_value, digits_value_after, starts_with_minus, without_leading_sign}
use Rattle.std.proofs.lemmas.Int.{ints}
use Rattle.std.proofs.lemmas.Int.Digits.{digits_push}
use Rattle.std.proofs.lemmas.Str.{digit_value_digit}
use Rattle.std.proofs.lemmas.Str.Parse.{digit_at, digit_from_value}
use Rattle.std.proofs.lemmas.Bool.{cases_lt, cases_eq, and_from, le-leb, false≢true}
use Rattle.std.proofs.lemmas.List.{take_rest}
use Rattle.std.proofs.Math.Nat.{mul_assoc, zero-mul, pow-suc, pow-le-pow_right, mul-le-mul_right}
use Rattle.std.proofs.Math.Pow.{pow-add}
use Rattle.std.proofs.Math.Seq.{take-length}
use Rattle.desk_text.specs.Text.{signed, IsSign, ScoreParts, HasParts}
use Rattle.desk_text.specs.Plain.{AreDigitsBehind, IsPlainMantissa, IsPlain}
use Rattle.desk_text.specs.Reading.{zeros_of}
use Rattle.desk_text.specs.Significand.{HasLastZeros}
use Rattle.desk_text.specs.Value.{scaled, IsNumber, IsZeroText, ReadsAs}
use Rattle.desk_text.proofs.Answer.{last_zeros}
use Rattle.desk_text.proofs.Pieces.{slice_more, lines_at}
use Rattle.desk_text.proofs.Readings.{stands_text}
use Rattle.desk_text.proofs.Spellings.{sign_cut, signed_text, mantissa_unsigned}
use Rattle.desk_text.proofs.ScoreDigits.{digits_value_after-append}

no_slice : (text : List ℕ) (i : ℕ) → slice_range text i i ≡ []
no_slice text i = (let k : i - i ≡ 0 = omega arith in ap (λ n. take n (drop i text)) k)

-- no digit stands from a place up to itself
pub no_digits : (text : List ℕ) (from start : ℕ) → from ≤ length text → AreDigitsBehind text from start from start
no_digits text from start within =
    let none = no_slice text from in
    record { order = omega arith; within = within; digits = rw none tt; value = rw none refl }

-- one more digit
pub digit_behind : (text : List ℕ) (from start end number : ℕ) → AreDigitsBehind text from start end number → end < length text → IsAsciiDigit (get_or text end 0) →
    AreDigitsBehind text from start (end + 1) (number * 10 + (get_or text end 0 - 48))
digit_behind text from start end number h lt is =
    let digit = digit_value_digit (get_or text end 0) is in
    let more = slice_more text from end h.order lt in
    let joined = digits_value_after-append start (slice_range text from end) (get_or text end 0 ∷ []) in
    let value = h.value in
    record {
      order = omega (arith, h.order);
      within = omega arith;
      digits = rw more (digits_push 10 (slice_range text from end) (get_or text end 0) h.digits (omega (arith, digit)));
      value = rw (more, joined, ← value) (omega (arith, digit));
    }

-- one more digit behind digits of at most 18 bytes
pub more_room : (number end most digit : ℕ) → number < 10 ^ end → end < most → most ≤ 19 → digit ≤ 9 → (number * 10 + digit < 10 ^ (end + 1)) × (number * 10 + digit < 10 ^ 19)
more_room number end most digit small lt few is =
    let power = pow-suc 10 end in
    let next : 10 ^ (end + 1) ≡ 10 ^ end * 10 = ap (λ k. 10 ^ k) (add-one end) ∙ power in
    let few_digits : end + 1 ≤ 19 = omega arith in
    let high : 10 ^ (end + 1) ≤ 10 ^ 19 = pow-le-pow_right {n = 10} (omega arith) few_digits in
    let fits : number * 10 + digit < 10 ^ (end + 1) = omega (arith, next) in
    (fits, omega (arith, fits, high))

-- digits alone
pub bare : (text : List ℕ) (end number : ℕ) → AreDigitsBehind text 0 0 end number → end ≡ length text → 0 < length text → IsPlainMantissa text number 0
bare text end number h all some =
    let most : end - 0 ≡ length text = omega arith in
    let whole : slice_range text 0 end ≡ text = ap (λ n. take n text) most ∙ take-length text in
    let nil = append-nil text in
    record {
      whole = text;
      fraction = [];
      is_mantissa = inr (refl, refl);
      whole_digits = subst (AllDigits 10) whole h.digits;
      fraction_digits = tt;
      some_digit = omega arith;
      number = rw nil (h.value ∙ ap (digits_value 10) whole);
      point = refl;
    }

-- digits, a point and digits
pub pointed : (text : List ℕ) (point before end number : ℕ) → AreDigitsBehind text 0 0 point before → point < length text → get_or text point 0 ≡ 46 →
    AreDigitsBehind text (point + 1) before end number → end ≡ length text → 1 < length text → IsPlainMantissa text number (end - point - 1)
pointed text point before end number h within is k all some =
    let whole = slice_range text 0 point in
    let first : point - 0 ≡ point = omega arith in
    let prefix : whole ≡ take point text = ap (λ n. take n text) first in
    let fraction = slice_range text (point + 1) end in
    let rest : fraction ≡ drop (point + 1) text = ap (λ n. take (n - (point + 1)) (drop (point + 1) text)) all ∙ take_rest text (point + 1) in
    let long : length fraction ≡ end - point - 1 = ap length rest ∙ omega (arith, length-drop (point + 1) text) in
    record {
      whole = whole;
      fraction = fraction;
      is_mantissa = inl (sym (take-append-drop point text) ∙ ap (λ t. t ++ drop point text) (sym prefix) ∙ ap (λ t. whole ++ t) (lines_at text point within ∙ ap (λ c. c ∷ drop (point + 1) text) is ∙ ap (λ t. 46 ∷ t) (sym rest)));
      whole_digits = h.digits;
      fraction_digits = k.digits;
      some_digit = omega (arith, long, ap length prefix, length-take point text);
      number = k.value ∙ ap (λ n. digits_value_after 10 n fraction) h.value ∙ sym (digits_value_after-append 0 whole fraction);
      point = sym long;
    }

-- each byte beside the point is a digit
beside_point : (whole fraction : List ℕ) (i : ℕ) → AllDigits 10 whole → AllDigits 10 fraction → i < length (whole ++ 46 ∷ fraction) → i ≢ length whole → IsAsciiDigit (get_or (whole ++ 46 ∷ fraction) i 0)
beside_point [] fraction zero w f lt apart = absurd (apart refl)
beside_point [] fraction (suc i) w f lt apart = digit_at fraction i f (omega arith)
beside_point (c ∷ whole) fraction zero w f lt apart = digit_from_value c w.0
beside_point (c ∷ whole) fraction (suc i) w f lt apart = beside_point whole fraction i w.1 f (omega arith) (λ e. apart (ap suc e))

at_point : (whole fraction : List ℕ) → get_or (whole ++ 46 ∷ fraction) (length whole) 0 ≡ 46
at_point [] fraction = refl
at_point (c ∷ whole) fraction = at_point whole fraction

no_digit : (c : ℕ) → is_ascii_digit c ≡ false → IsAsciiDigit c → ⊥
no_digit c other is = false≢true (sym other ∙ and_from _ _ (le-leb 48 c (omega arith)) (le-leb c 57 (omega arith)))

-- the only byte that is no digit is the point, and another byte stands beside it
pub record IsThePoint (text whole : List ℕ) (i : ℕ) : Type 0 where
  pub place : i ≡ length whole
  pub byte : get_or text i 0 ≡ 46
  pub beside : 1 < length text

pub the_point : (text : List ℕ) (digits places i : ℕ) → (m : IsPlainMantissa text digits places) → i < length text → is_ascii_digit (get_or text i 0) ≡ false → IsThePoint text m.whole i
the_point text digits places i m lt other =
    elim m.is_mantissa [
      | inl with_point ↦
          let long = ap length with_point ∙ length-append m.whole (46 ∷ m.fraction) in
          elim (cases_eq i (length m.whole)) [
            | inl here ↦ record {
              place = here;
              byte = ap (λ t. get_or t i 0) with_point ∙ ap (λ k. get_or (m.whole ++ 46 ∷ m.fraction) k 0) here ∙ at_point m.whole m.fraction;
              beside = omega (arith, long, m.some_digit);
            }
            | inr apart ↦ absurd (no_digit _ other (subst (λ t. IsAsciiDigit (get_or t i 0)) (sym with_point) (beside_point m.whole m.fraction i m.whole_digits m.fraction_digits (omega (arith, ap length with_point)) apart)))
          ]
      | inr whole ↦ absurd (no_digit _ other (subst (λ t. IsAsciiDigit (get_or t i 0)) (sym whole.0) (digit_at m.whole i m.whole_digits (omega (arith, ap length whole.0)))))
    ]

-- behind its sign a number is unsigned
pub unsigned_rest : (text : List ℕ) (is_negative : Bool) (digits places : ℕ) → IsPlain text is_negative digits places → IsPlainMantissa (without_leading_sign text) digits places
unsigned_rest text is_negative digits places h =
    let m = h.is_plain in
    let nil = append-nil h.unsigned in
    let first = rw nil at (mantissa_unsigned m.whole m.fraction h.unsigned [] m.is_mantissa m.whole_digits m.some_digit) in
    let cut = signed_text is_negative h.sign h.unsigned h.is_sign first.0 first.1 in
    subst (λ t. IsPlainMantissa t digits places) (sym (ap without_leading_sign h.joined ∙ cut.1)) m

-- a number behind its sign
pub behind_sign : (text unsigned : List ℕ) (is_negative : Bool) (digits places : ℕ) → is_negative ≡ starts_with_minus text → unsigned ≡ without_leading_sign text → IsPlainMantissa unsigned digits places → IsPlain text is_negative digits places
behind_sign text unsigned is_negative digits places negative rest m =
    let cut = sign_cut text in
    record {
      sign = cut.0;
      unsigned = unsigned;
      joined = cut.1.1 ∙ ap (λ t. cut.0 ++ t) (sym rest);
      is_sign = subst (λ b. IsSign b cut.0) (sym negative) cut.1.0;
      is_plain = m;
    }

-- such a number has parts without an exponent
abbrev parts : (is_negative : Bool) (whole fraction : List ℕ) → ScoreParts
parts is_negative whole fraction = record { is_negative = is_negative; whole = whole; fraction = fraction; exponent = pos 0 }

plain_parts : (text : List ℕ) (is_negative : Bool) (digits places : ℕ) → (h : IsPlain text is_negative digits places) → HasParts text (parts is_negative h.is_plain.whole h.is_plain.fraction)
plain_parts text is_negative digits places h =
    let m = h.is_plain in
    record {
      sign = h.sign;
      mantissa = h.unsigned;
      power = [];
      joined = h.joined ∙ ap (λ t. h.sign ++ t) (sym (append-nil h.unsigned));
      is_sign = h.is_sign;
      is_mantissa = m.is_mantissa;
      is_exponent = inr (refl, refl);
      whole_digits = m.whole_digits;
      fraction_digits = m.fraction_digits;
      some_digit = m.some_digit;
    }

pub plain_zero : (text : List ℕ) (is_negative : Bool) (digits places : ℕ) → IsPlain text is_negative digits places → digits ≡ 0 → IsZeroText text
plain_zero text is_negative digits places h none = (_, plain_parts text is_negative digits places h, sym h.is_plain.number ∙ none)

-- a number of so few digits has few zeros at its end
few_zeros : (number digits zeros : ℕ) → HasLastZeros number digits zeros → 0 < number → number < 10 ^ 19 → zeros < 19
few_zeros number digits zeros h some few =
    elim (cases_lt zeros 19) [
      | inl fewer ↦ fewer
      | inr many ↦
          let power : 10 ^ 19 ≤ 10 ^ zeros = pow-le-pow_right {n = 10} (omega arith) many in
          elim (cases_lt 0 digits) [
            | inl filled ↦ absurd (omega (arith, h.value, power, mul-le-mul_right (10 ^ zeros) filled))
            | inr empty ↦ absurd (let none : digits ≡ 0 = omega arith in h.last (ap (λ d. d % 10) none))
          ]
    ]

-- a number other than 0 is its digits at the place of the last of them
pub plain_number : (text : List ℕ) (is_negative : Bool) (digits places : ℕ) → IsPlain text is_negative digits places → 0 < digits → digits < 10 ^ 19 → places ≤ 19 →
    IsNumber text (scaled is_negative digits (neg_ℤ (pos places)))
plain_number text is_negative digits places h some few near =
    let zeros = zeros_of digits digits in
    let kept = digits / 10 ^ zeros in
    let last = last_zeros digits digits some (omega arith) in
    let small = few_zeros digits kept zeros last some few in
    let place = pos zeros -ℤ pos places in
    let written = plain_parts text is_negative digits places h in
    let point = h.is_plain.point in
    let stands = stands_text text _ kept zeros place written (subst (λ n. HasLastZeros n kept zeros) h.is_plain.number last) (omega (arith, ints, point)) in
    let value : digits * 10 ^ (999 - places) ≡ kept * 10 ^ (zeros + (999 - places)) =
    ap (λ n. n * 10 ^ (999 - places)) last.value ∙ mul_assoc kept (10 ^ zeros) (10 ^ (999 - places)) ∙ ap (λ p. kept * p) (sym (pow-add 10 zeros (999 - places))) in
    let here : unsigned_abs (neg_ℤ (pos places) +ℤ pos 999) ≡ 999 - places = omega (arith, ints) in
    let there : unsigned_abs (pos 0 +ℤ place +ℤ pos 999) ≡ zeros + (999 - places) = omega (arith, ints, small) in
    record {
      is_negative = is_negative;
      digits = kept;
      place = pos 0 +ℤ place;
      stands = stands;
      short = omega (arith, last.value, few);
      near = (omega (arith, ints, small), omega (arith, ints, small));
      is_value = ap (signed is_negative) (ap (λ p. digits * 10 ^ p) here ∙ value ∙ ap (λ p. kept * 10 ^ p) (sym there));
    }

nothing : (is_negative : Bool) (k : ℕ) → signed is_negative (0 * k) ≡ pos 0
nothing true k = rw (zero-mul k) refl
nothing false k = rw (zero-mul k) refl

-- such a text is read as its digits at the place of the last of them
pub plain_reads : (text : List ℕ) (is_negative : Bool) (digits places : ℕ) (value : ℤ) → IsPlain text is_negative digits places → digits < 10 ^ 19 → places ≤ 19 → value ≡ scaled is_negative digits (neg_ℤ (pos places)) →
    ReadsAs text (Ok value)
plain_reads text is_negative digits places value h few near is =
    elim (cases_lt 0 digits) [
      | inl some ↦ inr (subst (IsNumber text) (sym is) (plain_number text is_negative digits places h some few near))
      | inr none ↦
          let nil : digits ≡ 0 = omega arith in
          let power = 10 ^ unsigned_abs (neg_ℤ (pos places) +ℤ pos 999) in
          inl (plain_zero text is_negative digits places h nil, is ∙ ap (λ d. signed is_negative (d * power)) nil ∙ nothing is_negative power)
    ]
