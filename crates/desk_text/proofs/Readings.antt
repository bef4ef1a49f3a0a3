-- A text has one reading.
use Rattle.std.proofs.Common.{◌≡◌, ℕ, suc, ◌+◌, ◌-◌, ◌*◌, ◌/◌, ◌%◌, ◌^◌, ◌<◌, ◌≤◌, min, ℤ, pos, negsuc, ◌+ℤ◌, ◌-ℤ◌, Bool, true, false, List, length, Result, Ok, Err, ◌⊎◌, inl, inr, refl, sym, ap, subst, ◌∙◌, arith, rules, FitsSigned}
use Rattle.std.specs.Int.RustNames.{unsigned_abs}
use Rattle.std.specs.Int.{w128}
use Rattle.std.proofs.lemmas.Int.{ints, to_z-of_z}
use mir.Val.{to_z, of_z}
use Rattle.std.proofs.lemmas.Bool.{cases_lt}
use Rattle.std.proofs.Math.Nat.{mul_assoc, mul-mod_left, mul-div_cancel, zero-mul, one-le-pow, pow-suc}
use Rattle.std.proofs.Math.Pow.{pow-add}
use Rattle.desk_text.specs.declared.score.ScoreFault.{ScoreFault}
use Rattle.desk_text.specs.declared.score.ScoreFault.TheVariants.{BadScore, ScoreTooLong, ScoreExponent}
use Rattle.desk_text.specs.declared.significand.TheConstants.{FAR}
use Rattle.desk_text.specs.Text.{signed, ScoreParts, HasParts, IsScoreText}
use Rattle.desk_text.specs.Value.{number_of, StandsForDigits, IsZeroText, IsPlace, HasTooManyDigits, IsTooFar, IsNumber, scaled, ReadsAs}
use Rattle.desk_text.specs.Significand.{HasLastZeros, IsLongNumber, IsSignificand}
use Rattle.desk_text.proofs.Spellings.{one_spelling}

-- equal products by a power of ten
power_cancel : (a b k : ℕ) → a * 10 ^ k ≡ b * 10 ^ k → a ≡ b
power_cancel a b k e =
    let some = one-le-pow k 10 (omega arith) in
    sym (mul-div_cancel a some) ∙ ap (λ x. x / 10 ^ k) e ∙ mul-div_cancel b some

-- fewer zeros would leave one behind the digits
zeros_once_le : (number a b y z : ℕ) → HasLastZeros number a y → HasLastZeros number b z → z ≤ y
zeros_once_le number a b y z ha hb =
    elim (cases_lt y z) [
      | inl fewer ↦
          let k = z - suc y in
          let split : suc k + y ≡ z = omega arith in
          let parts : b * 10 ^ z ≡ b * 10 ^ k * 10 * 10 ^ y =
          ap (λ x. b * 10 ^ x) (sym split) ∙ ap (λ x. b * x) (pow-add 10 (suc k) y ∙ ap (λ x. x * 10 ^ y) (pow-suc 10 k))
          ∙ sym (mul_assoc b (10 ^ k * 10) (10 ^ y)) ∙ ap (λ x. x * 10 ^ y) (sym (mul_assoc b (10 ^ k) 10)) in
          let digits : a ≡ b * 10 ^ k * 10 = power_cancel a (b * 10 ^ k * 10) y (sym ha.value ∙ hb.value ∙ parts) in
          absurd (ha.last (ap (λ x. x % 10) digits ∙ mul-mod_left (b * 10 ^ k) 10))
      | inr enough ↦ enough
    ]

zeros_once : (number a b y z : ℕ) → HasLastZeros number a y → HasLastZeros number b z → (a ≡ b) × (y ≡ z)
zeros_once number a b y z ha hb =
    let same : y ≡ z = omega (arith, zeros_once_le number a b y z ha hb, zeros_once_le number b a z y hb ha) in
    (power_cancel a b y (sym ha.value ∙ hb.value ∙ ap (λ x. b * 10 ^ x) (sym same)), same)

-- a number with a digit other than 0 is not 0
pub not_nothing : (number digits zeros : ℕ) → HasLastZeros number digits zeros → number ≡ 0 → ⊥
not_nothing number digits zeros h nothing =
    let digits_nothing : digits ≡ 0 = power_cancel digits 0 zeros (sym h.value ∙ nothing ∙ sym (zero-mul (10 ^ zeros))) in
    h.last (ap (λ x. x % 10) digits_nothing)

last_zeros : (text : List ℕ) (n : Bool) (d : ℕ) (w : ℤ) → (s : StandsForDigits text n d w) → HasLastZeros (number_of s.parts) d s.zeros
last_zeros text n d w s = record { value = s.number; last = s.last }

-- a text stands for one number
pub stands_once : (text : List ℕ) (n n' : Bool) (d d' : ℕ) (w w' : ℤ) → StandsForDigits text n d w → StandsForDigits text n' d' w' → (n ≡ n') × (d ≡ d') × (w ≡ w')
stands_once text n n' d d' w w' s t =
    let same = one_spelling text s.parts t.parts s.written t.written in
    let here = subst (λ p. HasLastZeros (number_of p) d s.zeros) same (last_zeros text n d w s) in
    let once = zeros_once (number_of t.parts) d d' s.zeros t.zeros here (last_zeros text n' d' w' t) in
    let fraction : length s.parts.fraction ≡ length t.parts.fraction = ap (λ p. length p.fraction) same in
    let exponent : s.parts.exponent ≡ t.parts.exponent = ap (λ p. p.exponent) same in
    let zeros = once.1 in
    (s.sign ∙ ap (λ p. p.is_negative) same ∙ sym t.sign, once.0, omega (arith, ints, s.point, t.point))

pub zero_or_stands : (text : List ℕ) (n : Bool) (d : ℕ) (w : ℤ) → IsZeroText text → StandsForDigits text n d w → ⊥
zero_or_stands text n d w nothing s =
    let same = one_spelling text s.parts nothing.0 s.written nothing.1 in
    not_nothing (number_of s.parts) d s.zeros (last_zeros text n d w s) (ap number_of same ∙ nothing.2)

zero_or_number : (text : List ℕ) (v u : ℤ) → (IsZeroText text × (v ≡ pos 0)) ⊎ IsNumber text v → (IsZeroText text × (u ≡ pos 0)) ⊎ IsNumber text u → v ≡ u
zero_or_number text v u h k =
    elim h [
      | inl nothing ↦ elim k [
        | inl nothing' ↦ nothing.1 ∙ sym nothing'.1
        | inr number' ↦ absurd (zero_or_stands text _ _ _ nothing.0 number'.stands)
      ]
      | inr number ↦ elim k [
        | inl nothing' ↦ absurd (zero_or_stands text _ _ _ nothing'.0 number.stands)
        | inr number' ↦
            let once = stands_once text _ _ _ _ _ _ number.stands number'.stands in
            number.is_value ∙ rw (once.0, once.1, once.2) (sym number'.is_value)
      ]
    ]

-- a value leaves no room for a number of another size or place
value_or_stands : (text : List ℕ) (v : ℤ) (n : Bool) (d : ℕ) (w : ℤ) → (IsZeroText text × (v ≡ pos 0)) ⊎ IsNumber text v → StandsForDigits text n d w → (d < 10 ^ 30) × IsPlace w
value_or_stands text v n d w h s =
    elim h [
      | inl nothing ↦ absurd (zero_or_stands text n d w nothing.0 s)
      | inr number ↦
          let once = stands_once text _ _ _ _ _ _ number.stands s in
          (subst (λ x. x < 10 ^ 30) once.1 number.short, subst IsPlace once.2 number.near)
    ]

-- a text that is read has parts
value_text : (text : List ℕ) (v : ℤ) → (IsZeroText text × (v ≡ pos 0)) ⊎ IsNumber text v → IsScoreText text
value_text text v h = elim h [ inl nothing ↦ (nothing.0.0, nothing.0.1) | inr number ↦ (number.stands.parts, number.stands.written) ]

-- a number is not both too long and short
long_or_short : (text : List ℕ) → HasTooManyDigits text → IsTooFar text → ⊥
long_or_short text long far =
    let once = stands_once text _ _ _ _ _ _ long.1.1.1.0 far.1.1.1.0 in
    omega (arith, once.1, long.1.1.1.1, far.1.1.1.1)

-- a text has one reading
pub one_reading : (text : List ℕ) (a b : Result ℤ ScoreFault) → ReadsAs text a → ReadsAs text b → a ≡ b
one_reading text (Ok v) (Ok u) h k = ap Ok (zero_or_number text v u h k)
one_reading text (Ok v) (Err BadScore) h k = absurd (k (value_text text v h))
one_reading text (Ok v) (Err ScoreTooLong) h k = absurd (omega (arith, (value_or_stands text v _ _ _ h k.1.1.1.0).0, k.1.1.1.1))
one_reading text (Ok v) (Err ScoreExponent) h k = absurd (k.1.1.1.2 (value_or_stands text v _ _ _ h k.1.1.1.0).1)
one_reading text (Err BadScore) (Ok u) h k = absurd (h (value_text text u k))
one_reading text (Err BadScore) (Err BadScore) h k = refl
one_reading text (Err BadScore) (Err ScoreTooLong) h k = absurd (h (k.1.1.1.0.parts, k.1.1.1.0.written))
one_reading text (Err BadScore) (Err ScoreExponent) h k = absurd (h (k.1.1.1.0.parts, k.1.1.1.0.written))
one_reading text (Err ScoreTooLong) (Ok u) h k = absurd (omega (arith, (value_or_stands text u _ _ _ k h.1.1.1.0).0, h.1.1.1.1))
one_reading text (Err ScoreTooLong) (Err BadScore) h k = absurd (k (h.1.1.1.0.parts, h.1.1.1.0.written))
one_reading text (Err ScoreTooLong) (Err ScoreTooLong) h k = refl
one_reading text (Err ScoreTooLong) (Err ScoreExponent) h k = absurd (long_or_short text h k)
one_reading text (Err ScoreExponent) (Ok u) h k = absurd (h.1.1.1.2 (value_or_stands text u _ _ _ k h.1.1.1.0).1)
one_reading text (Err ScoreExponent) (Err BadScore) h k = absurd (k (h.1.1.1.0.parts, h.1.1.1.0.written))
one_reading text (Err ScoreExponent) (Err ScoreTooLong) h k = absurd (long_or_short text k h)
one_reading text (Err ScoreExponent) (Err ScoreExponent) h k = refl

-- a text with the digits of a significand stands for its number
pub stands_text : (text : List ℕ) (p : ScoreParts) (digits zeros : ℕ) (place : ℤ) → HasParts text p → HasLastZeros (number_of p) digits zeros → place +ℤ pos (length p.fraction) ≡ pos zeros → StandsForDigits text p.is_negative digits (p.exponent +ℤ place)
stands_text text p digits zeros place written h e = record {
  parts = p;
  zeros = zeros;
  written = written;
  sign = refl;
  number = h.value;
  last = h.last;
  point = omega (arith, ints, e);
}

-- a long number is too long at any place
pub too_long_text : (text : List ℕ) (p : ScoreParts) → HasParts text p → IsLongNumber (number_of p) → HasTooManyDigits text
too_long_text text p written long =
    let place = pos long.1.0 -ℤ pos (length p.fraction) in
    (p.is_negative, (long.0, (p.exponent +ℤ place, (stands_text text p long.0 long.1.0 place written long.1.1.0 (omega (arith, ints)), long.1.1.1))))

-- an exponent that is cut far off leaves the number out of range
pub cut_place : (is_negative : Bool) (size : ℕ) (place : ℤ) → unsigned_abs place < 2 ^ 66 → IsPlace (signed is_negative (min size FAR) +ℤ place) ⊎ IsPlace (signed is_negative size +ℤ place) → min size FAR ≡ size
cut_place true size (pos k) near is = elim is [ inl h ↦ omega (arith, ints) | inr h ↦ omega (arith, ints) ]
cut_place true size (negsuc k) near is = elim is [ inl h ↦ omega (arith, ints) | inr h ↦ omega (arith, ints) ]
cut_place false size (pos k) near is = elim is [ inl h ↦ omega (arith, ints) | inr h ↦ omega (arith, ints) ]
cut_place false size (negsuc k) near is = elim is [ inl h ↦ omega (arith, ints) | inr h ↦ omega (arith, ints) ]

pub far_place : (is_negative : Bool) (size : ℕ) (place : ℤ) → unsigned_abs place < 2 ^ 66 → ¬ (IsPlace (signed is_negative (min size FAR) +ℤ place)) → ¬ (IsPlace (signed is_negative size +ℤ place))
far_place is_negative size place near far is = far (rw (cut_place is_negative size place near (inr is)) is)

-- what is read of a significand whose digits are not 0
pub significant : (text : List ℕ) (p : ScoreParts) (digits : ℕ) (place : ℤ) → HasParts text p → IsSignificand p.whole p.fraction digits place → (digits ≡ 0 → ⊥) → StandsForDigits text p.is_negative digits (p.exponent +ℤ place)
significant text p digits place written h some =
    elim h [
      | inl nothing ↦ absurd (some nothing.0)
      | inr number ↦ stands_text text p digits number.0 place written number.1.0 number.1.1
    ]

-- a significand without digits is read of zeros
pub insignificant : (text : List ℕ) (p : ScoreParts) (digits : ℕ) (place : ℤ) → HasParts text p → IsSignificand p.whole p.fraction digits place → digits ≡ 0 → IsZeroText text
insignificant text p digits place written h none =
    elim h [
      | inl nothing ↦ (p, written, nothing.1)
      | inr number ↦ absurd (number.1.0.last (ap (λ d. d % 10) none))
    ]

-- the sum of small numbers, as the code has it
pub added : (a b : ℤ) → unsigned_abs a ≤ FAR → unsigned_abs b < 2 ^ 66 → to_z w128 (of_z w128 (to_z w128 (of_z w128 a) +ℤ to_z w128 (of_z w128 b))) ≡ a +ℤ b
added a b small near =
    let fits_a : FitsSigned w128 a = search rules in
    let fits_b : FitsSigned w128 b = search rules in
    let fits : FitsSigned w128 (a +ℤ b) = search rules in
    rw (to_z-of_z w128 a fits_a, to_z-of_z w128 b fits_b, to_z-of_z w128 (a +ℤ b) fits) refl

-- a number out of range, by the place that was computed
pub far_text : (text : List ℕ) (p : ScoreParts) (digits size : ℕ) (negative_exponent : Bool) (place computed : ℤ) → StandsForDigits text p.is_negative digits (signed negative_exponent size +ℤ place) → digits < 10 ^ 30 → unsigned_abs place < 2 ^ 66 →
    computed ≡ signed negative_exponent (min size FAR) → ¬ (IsPlace (computed +ℤ place)) → IsTooFar text
far_text text p digits size negative_exponent place computed stands short near is far =
    (p.is_negative, (digits, (signed negative_exponent size +ℤ place, (stands, short, far_place negative_exponent size place near (rw (← is) far)))))

-- a number in range, by the place that was computed
pub near_text : (text : List ℕ) (p : ScoreParts) (digits size : ℕ) (negative_exponent : Bool) (place computed value : ℤ) → StandsForDigits text p.is_negative digits (signed negative_exponent size +ℤ place) → digits < 10 ^ 30 → unsigned_abs place < 2 ^ 66 →
    computed ≡ signed negative_exponent (min size FAR) → IsPlace (computed +ℤ place) → value ≡ scaled p.is_negative digits (computed +ℤ place) → IsNumber text value
near_text text p digits size negative_exponent place computed value stands short near is here same =
    let same_place : computed +ℤ place ≡ signed negative_exponent size +ℤ place =
    ap (λ e. e +ℤ place) (is ∙ ap (signed negative_exponent) (cut_place negative_exponent size place near (inl (rw (← is) here)))) in
    record {
      is_negative = p.is_negative;
      digits = digits;
      place = signed negative_exponent size +ℤ place;
      stands = stands;
      short = short;
      near = subst IsPlace same_place here;
      is_value = same ∙ ap (scaled p.is_negative digits) same_place;
    }
