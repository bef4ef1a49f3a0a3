-- The scores of the demo's runs are scores.
use Rattle.std.proofs.Common.{◌≡◌, ℕ, ◌+◌, ◌*◌, ◌/◌, ◌%◌, ◌^◌, ◌<◌, ◌≤◌, List, [], ◌∷◌, ◌++◌, length, drop, true, false, refl, ap, sym, ◌∙◌, arith, ℤ, pos, inl, inr, length-append, append-nil}
use Rattle.std.specs.Prelude.{Bool, ◌+ℤ◌, decimal, codes, Result, Ok, Err}
use Rattle.std.specs.List.{list_all}
use Rattle.std.specs.Char.{is_ascii_digit}
use Rattle.std.specs.Str.{all_ascii_digits}
use Rattle.std.proofs.Math.Nat.{one-le-pow, pow-le-pow_right, mul-le-mul_left, mul-le-mul_right}
use Rattle.std.proofs.lemmas.Bool.{and_from, and_parts, cases_lt}
use Rattle.std.proofs.lemmas.Int.{ints}
use Rattle.std.proofs.lemmas.Int.Digits.{digits_value-lt}
use Rattle.std.proofs.lemmas.Fmt.{digits_decimal, length-decimal-le}
use Rattle.desk_text.proofs.Digits.{own}
use Rattle.desk_model.specs.Name.{is_field_byte}
use Rattle.desk_text.specs.declared.score.ScoreFault.{ScoreFault}
use Rattle.desk_text.specs.declared.score.ScoreFault.TheVariants.{BadScore, ScoreTooLong, ScoreExponent}
use Rattle.desk_text.specs.Text.{ScoreParts, HasParts}
use Rattle.desk_text.specs.Value.{number_of, ReadsAs, StandsForDigits}
use Rattle.desk_text.specs.Reading.{score_of}
use Rattle.desk_text.proofs.Spellings.{one_spelling}
use Rattle.desk_text.proofs.Answer.{reads_as-score_of}
use Rattle.qrels_round_trip.proofs.Words.{digits_bytes}
use Rattle.demo_desk.proofs.NameWords.{IsFieldWord}
use Rattle.demo_desk.specs.Texts.{score_text}
use Rattle.demo_desk.proofs.Names.{digit_is, four}

abbrev thousandths : ℕ → List ℕ
thousandths s = (48 + s / 100 % 10) ∷ (48 + s / 10 % 10) ∷ (48 + s % 10) ∷ []

-- the digits after the point
after_point : (s : ℕ) → drop 1 (decimal (1000 + s % 1000)) ≡ thousandths s
after_point s =
    let parts : 1000 + s % 1000 ≡ 1000 + 100 * (s / 100 % 10) + 10 * (s / 10 % 10) + s % 10 = omega arith in
    ap (λ m. drop 1 (decimal m)) parts ∙ ap (drop 1) (four (s / 100 % 10) (s / 10 % 10) (s % 10) (omega arith) (omega arith) (omega arith))

digits_after : (s : ℕ) → all_ascii_digits (thousandths s) ≡ true
digits_after s = and_from _ _ (digit_is (s / 100 % 10) (omega arith)) (and_from _ _ (digit_is (s / 10 % 10) (omega arith)) (and_from _ _ (digit_is (s % 10) (omega arith)) refl))

score_is : (s : ℕ) → score_text s ≡ decimal (s / 1000) ++ 46 ∷ thousandths s
score_is s = ap (λ ds. decimal (s / 1000) ++ 46 ∷ ds) (after_point s)

digits-append : (xs ys : List ℕ) → all_ascii_digits xs ≡ true → all_ascii_digits ys ≡ true → all_ascii_digits (xs ++ ys) ≡ true
digits-append [] ys h k = k
digits-append (x ∷ xs) ys h k = let parts = and_parts (is_ascii_digit x) (all_ascii_digits xs) h in and_from _ _ parts.0 (digits-append xs ys parts.1 k)

bytes-append : (xs ys : List ℕ) → list_all is_field_byte xs ≡ true → list_all is_field_byte ys ≡ true → list_all is_field_byte (xs ++ ys) ≡ true
bytes-append [] ys h k = k
bytes-append (x ∷ xs) ys h k = let parts = and_parts (is_field_byte x) (list_all is_field_byte xs) h in and_from _ _ parts.0 (bytes-append xs ys parts.1 k)

module _ (s : ℕ) (h : s < 100000) where
  abbrev whole : List ℕ
  whole = decimal (s / 1000)

  whole_digits : all_ascii_digits whole ≡ true
  whole_digits = digits_decimal own (s / 1000) (omega arith)

  whole_short : length whole ≤ 2
  whole_short = length-decimal-le 2 (s / 1000) (omega arith) (omega arith) (omega arith)

  pub score_word : IsFieldWord (score_text s)
  score_word = record {
    filled = omega (arith, ap length (score_is s), length-append whole (46 ∷ thousandths s));
    bytes = ap (list_all is_field_byte) (score_is s) ∙ bytes-append whole (46 ∷ thousandths s) (digits_bytes whole whole_digits) (and_from _ _ refl (digits_bytes (thousandths s) (digits_after s)));
  }

  pub score_short : length (score_text s) ≤ 6
  score_short = let w = whole_short in omega (arith, ap length (score_is s), length-append whole (46 ∷ thousandths s), w)

  abbrev parts : ScoreParts
  parts = record { is_negative = false; whole = whole; fraction = thousandths s; exponent = pos 0 }

  spelled : HasParts (score_text s) parts
  spelled = record {
    sign = [];
    mantissa = whole ++ (codes "." ++ thousandths s);
    power = [];
    joined = score_is s ∙ sym (append-nil (whole ++ 46 ∷ thousandths s));
    is_sign = inl refl;
    is_mantissa = inl refl;
    is_exponent = inr (refl, refl);
    whole_digits = own.to whole whole_digits;
    fraction_digits = own.to (thousandths s) (digits_after s);
    some_digit = omega arith;
  }

  small : number_of parts < 10 ^ 5
  small =
      let lt = digits_value-lt 10 (whole ++ thousandths s) (own.to (whole ++ thousandths s) (digits-append whole (thousandths s) whole_digits (digits_after s))) in
      let w = whole_short in
      let le : length (whole ++ thousandths s) ≤ 5 = omega (arith, w, length-append whole (thousandths s)) in
      let most : 10 ^ length (whole ++ thousandths s) ≤ 10 ^ 5 = pow-le-pow_right (omega arith) le in
      omega (arith, lt, most)

  -- a number that it stands for
  stands : (n : Bool) (digits : ℕ) (place : ℤ) (is : StandsForDigits (score_text s) n digits place) → (digits * 10 ^ is.zeros < 10 ^ 5) × (place +ℤ pos 3 ≡ pos is.zeros)
  stands n digits place is =
      let same : is.parts ≡ parts = one_spelling (score_text s) is.parts parts is.written spelled in
      let number : digits * 10 ^ is.zeros ≡ number_of parts = sym is.number ∙ ap number_of same in
      let point : place +ℤ pos (length is.parts.fraction) ≡ is.parts.exponent +ℤ pos is.zeros = is.point in
      let fraction : length is.parts.fraction ≡ 3 = ap (λ (p : ScoreParts). length p.fraction) same in
      let exponent : is.parts.exponent ≡ pos 0 = ap (λ (p : ScoreParts). p.exponent) same in
      let moved : place +ℤ pos 3 ≡ pos 0 +ℤ pos is.zeros = ap (λ n. place +ℤ pos n) (sym fraction) ∙ point ∙ ap (λ e. e +ℤ pos is.zeros) exponent in
      (let lt = small in omega (arith, lt, number), omega (arith, ints, moved))

  answer : (r : Result ℤ ScoreFault) → ReadsAs (score_text s) r → (z : ℤ) × (r ≡ Ok z)
  answer (Ok z) reads = (z, refl)
  answer (Err BadScore) reads = absurd (reads (parts, spelled))
  answer (Err ScoreTooLong) reads =
      let is = reads.1.1.1.0 in
      let below = (stands reads.0 reads.1.0 reads.1.1.0 is).0 in
      let least : reads.1.0 * 1 ≤ reads.1.0 * 10 ^ is.zeros = mul-le-mul_left reads.1.0 (one-le-pow is.zeros 10 (omega arith)) in
      absurd (omega (arith, below, least, reads.1.1.1.1))
  answer (Err ScoreExponent) reads =
      let is = reads.1.1.1.0 in
      let it = stands reads.0 reads.1.0 reads.1.1.0 is in
      let some : 1 ≤ reads.1.0 = let last = is.last in omega arith in
      let least : 1 * 10 ^ is.zeros ≤ reads.1.0 * 10 ^ is.zeros = mul-le-mul_right (10 ^ is.zeros) some in
      elim (cases_lt is.zeros 5) [
        | inl few ↦ absurd (reads.1.1.1.2 (omega (arith, ints, it.1, few), omega (arith, ints, it.1, few)))
        | inr many ↦ let power : 10 ^ 5 ≤ 10 ^ is.zeros = pow-le-pow_right (omega arith) many in absurd (omega (arith, it.0, least, power))
      ]

  pub score_read : (z : ℤ) × (score_of (score_text s) ≡ Ok z)
  score_read = answer (score_of (score_text s)) (reads_as-score_of (score_text s))
