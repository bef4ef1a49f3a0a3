-- A text is a score's exactly where its parts, cut at the first marks, are digits.
use Rattle.std.proofs.Common.{◌≡◌, ◌↔◌, All, ℕ, ◌+◌, ◌<◌, Bool, true, false, not, cond, ltb, List, [], ◌∷◌, ◌++◌, length, get_or, drop, ◌⊎◌, inl, inr, refl, sym, ap, subst, ◌∙◌, arith, ℤ, append_assoc, append-nil, zero-add, length-append}
use Rattle.std.specs.List.{position_or_len, before_first, after_first, AllByRecursion}
use Rattle.std.specs.Char.{IsAsciiDigit}
use Rattle.std.specs.Str.Parse.{digits_value, AllDigits, starts_with_minus, without_leading_sign}
use Rattle.std.proofs.lemmas.Bool.{cases_eq, ne_eqb, cases_lt, eqb-true, or_cases, lt-ltb, ltb-true}
use Rattle.std.proofs.lemmas.Grind.{common_steps}
use Rattle.std.proofs.lemmas.List.Elements.{recursion_from_All, All-from_recursion}
use Rattle.std.proofs.lemmas.List.Sums.{split_at_first, passes_at_first}
use Rattle.std.proofs.lemmas.Str.{digit_value_digit}
use Rattle.std.proofs.lemmas.Str.Parse.{digit_from_value}
use Rattle.std.proofs.Math.Seq.{drop-append-add}
use Rattle.std.proofs.Math.ListN.{drop_of_length-le}
use Rattle.desk_text.specs.Text.{signed, IsSign, IsMantissa, IsExponent, ScoreParts, HasParts}
use Rattle.desk_text.specs.Spelling.{is_mark, AreDigitParts}
use Rattle.desk_text.specs.Reading.{mantissa_of, power_of, cut_parts}

digits_by_recursion : (ds : List ℕ) → AllDigits 10 ds → AllByRecursion IsAsciiDigit ds
digits_by_recursion [] h = h
digits_by_recursion (c ∷ ds) h = (digit_from_value c h.0, digits_by_recursion ds h.1)

-- bytes from 0 to 9 are decimal digits, in either word
pub digits_from_all : (ds : List ℕ) → AllByRecursion IsAsciiDigit ds → AllDigits 10 ds
digits_from_all [] h = h
digits_from_all (c ∷ ds) h = (omega (arith, digit_value_digit c h.0), digits_from_all ds h.1)

all_from_digits : (ds : List ℕ) → AllDigits 10 ds → All IsAsciiDigit ds
all_from_digits ds h = All-from_recursion IsAsciiDigit ds (digits_by_recursion ds h)

-- digits are no marks
pub position_past : (p : ℕ → Bool) (ds r : List ℕ) → ((c : ℕ) → IsAsciiDigit c → p c ≡ false) → AllDigits 10 ds → position_or_len p (ds ++ r) ≡ length ds + position_or_len p r
position_past p [] r none h = sym (zero-add (position_or_len p r))
position_past p (c ∷ ds) r none h =
    ap (λ b. cond (not b) (1 + position_or_len p (ds ++ r)) 0) (none c (digit_from_value c h.0))
    ∙ omega (arith, position_past p ds r none h.1)

-- a text begins with its sign
pub sign_cut : (text : List ℕ) → (sign : List ℕ) × (IsSign (starts_with_minus text) sign × (text ≡ sign ++ without_leading_sign text))
sign_cut [] = ([], (inl refl, refl))
sign_cut (c ∷ cs) =
    elim (cases_eq c 45) [
      | inl minus ↦ rw minus (45 ∷ [], (refl, refl))
      | inr no_minus ↦ rw (ne_eqb c 45 no_minus) (elim (cases_eq c 43) [
        | inl plus ↦ rw plus (43 ∷ [], (inr refl, refl))
        | inr no_plus ↦ rw (ne_eqb c 43 no_plus) ([], (inl refl, refl))
      ])
    ]

-- what stands behind no sign, or behind a plus, is not signed
unsigned_text : (r : List ℕ) → (get_or r 0 0 ≡ 45 → ⊥) → (get_or r 0 0 ≡ 43 → ⊥) → (starts_with_minus r ≡ false) × (without_leading_sign r ≡ r)
unsigned_text r no_minus no_plus =
    rw (ne_eqb (get_or r 0 0) 45 no_minus, ne_eqb (get_or r 0 0) 43 no_plus) (refl, refl)

-- a sign before digits or a point is cut off
pub signed_text : (n : Bool) (sign r : List ℕ) → IsSign n sign → (get_or r 0 0 ≡ 45 → ⊥) → (get_or r 0 0 ≡ 43 → ⊥) → (starts_with_minus (sign ++ r) ≡ n) × (without_leading_sign (sign ++ r) ≡ r)
signed_text true sign r is no_minus no_plus = rw is (refl, refl)
signed_text false sign r is no_minus no_plus =
    elim is [
      | inl none ↦ rw none (unsigned_text r no_minus no_plus)
      | inr plus ↦ rw plus (refl, refl)
    ]

-- a text is cut at its first mark, or has none
pub first_cut : (p : ℕ → Bool) (text : List ℕ) → ((c : ℕ) × ((p c ≡ true) × (text ≡ before_first p text ++ (c ∷ after_first p text)) × (length (before_first p text) < length text))) ⊎ ((text ≡ before_first p text) × (after_first p text ≡ []))
first_cut p text =
    elim (cases_lt (position_or_len p text) (length text)) [
      | inl found ↦ inl (get_or text (position_or_len p text) 0, (passes_at_first p text 0 found, split_at_first p text 0 found, grind (arith, common_steps)))
      | inr past ↦ inr (grind (arith, common_steps), drop_of_length-le text (omega arith))
    ]

-- where the first mark stands fixes both parts
pub cut_here : (p : ℕ → Bool) (prefix rest : List ℕ) → position_or_len p (prefix ++ rest) ≡ length prefix → (before_first p (prefix ++ rest) ≡ prefix) × (after_first p (prefix ++ rest) ≡ drop 1 rest)
cut_here p prefix rest e = rw e (grind (arith, common_steps), drop-append-add prefix rest 1)

-- no digit is a letter of an exponent or a point
no_letter : (c : ℕ) → IsAsciiDigit c → is_mark 101 69 c ≡ false
no_letter c h = rw (ne_eqb c 101 (λ e. omega arith), ne_eqb c 69 (λ e. omega arith)) refl

no_point : (c : ℕ) → IsAsciiDigit c → is_mark 46 46 c ≡ false
no_point c h = rw (ne_eqb c 46 (λ e. omega arith)) refl

-- the digits before and after the first point, and a text with no digit after it where there is none
mantissa_cut : (text : List ℕ) → IsMantissa (before_first (is_mark 46 46) text) (after_first (is_mark 46 46) text) text
mantissa_cut text =
    elim (first_cut (is_mark 46 46) text) [
      | inl cut ↦
          let point : cut.0 ≡ 46 = elim (or_cases _ _ cut.1.0) [ inl e ↦ eqb-true _ _ e | inr e ↦ eqb-true _ _ e ] in
          inl (cut.1.1 ∙ ap (λ c. before_first (is_mark 46 46) text ++ c ∷ after_first (is_mark 46 46) text) point)
      | inr whole ↦ inr whole
    ]

-- an exponent stands behind the first letter, and there is none where there is no letter
power_cut : (text : List ℕ) → let power = after_first (is_mark 101 69) text in
    AllDigits 10 (without_leading_sign power) → (length (before_first (is_mark 101 69) text) < length text → 0 < length (without_leading_sign power)) →
    (written : List ℕ) × (IsExponent (signed (starts_with_minus power) (digits_value 10 (without_leading_sign power))) written × (text ≡ before_first (is_mark 101 69) text ++ written))
power_cut text all some =
    let prefix = before_first (is_mark 101 69) text in
    let power = after_first (is_mark 101 69) text in
    elim (first_cut (is_mark 101 69) text) [
      | inl cut ↦
          let sign = sign_cut power in (
            cut.0 ∷ power,
            (
              inl record {
                is_negative = starts_with_minus power;
                letter = cut.0 ∷ [];
                sign = sign.0;
                digits = without_leading_sign power;
                joined = ap (λ t. cut.0 ∷ t) sign.1.1;
                is_letter = elim (or_cases _ _ cut.1.0) [ inl e ↦ inl (ap (λ c. c ∷ []) (eqb-true _ _ e)) | inr e ↦ inr (ap (λ c. c ∷ []) (eqb-true _ _ e)) ];
                is_sign = sign.1.0;
                all_digits = all;
                some_digit = some cut.1.2;
                value = refl;
              },
              cut.1.1,
            ),
          )
      | inr whole ↦ ([], (inr (refl, rw whole.1 refl), whole.0 ∙ sym (append-nil prefix)))
    ]

-- what a score's text has
pub record IsDigitText (text : List ℕ) : Type 0 where
  pub whole_digits : AllDigits 10 (cut_parts text).whole
  pub fraction_digits : AllDigits 10 (cut_parts text).fraction
  pub some_digit : 0 < length (cut_parts text).whole + length (cut_parts text).fraction
  pub power_digits : AllDigits 10 (without_leading_sign (power_of text))
  pub power_digit : length (mantissa_of text) < length (without_leading_sign text) → 0 < length (without_leading_sign (power_of text))

pub spelled_from_digits : (text : List ℕ) → IsDigitText text → HasParts text (cut_parts text)
spelled_from_digits text h =
    let sign = sign_cut text in
    let power = power_cut (without_leading_sign text) h.power_digits h.power_digit in
    record {
      sign = sign.0;
      mantissa = mantissa_of text;
      power = power.0;
      joined = sign.1.1 ∙ ap (λ t. sign.0 ++ t) power.1.1;
      is_sign = sign.1.0;
      is_mantissa = mantissa_cut (mantissa_of text);
      is_exponent = power.1.0;
      whole_digits = h.whole_digits;
      fraction_digits = h.fraction_digits;
      some_digit = h.some_digit;
    }

-- digits begin with no sign
digits_unsigned : (ds r : List ℕ) → AllDigits 10 ds → 0 < length ds → (get_or (ds ++ r) 0 0 ≡ 45 → ⊥) × (get_or (ds ++ r) 0 0 ≡ 43 → ⊥)
digits_unsigned [] r h some = absurd (omega arith)
digits_unsigned (c ∷ ds) r h some = let d = digit_from_value c h.0 in (λ e. omega arith, λ e. omega arith)

-- nor does a mantissa
pub mantissa_unsigned : (whole fraction mantissa r : List ℕ) → IsMantissa whole fraction mantissa → AllDigits 10 whole → 0 < length whole + length fraction → (get_or (mantissa ++ r) 0 0 ≡ 45 → ⊥) × (get_or (mantissa ++ r) 0 0 ≡ 43 → ⊥)
mantissa_unsigned [] fraction mantissa r is all some =
    elim is [
      | inl pointed ↦ rw pointed (λ e. omega arith, λ e. omega arith)
      | inr bare ↦ absurd (let e : length fraction ≡ 0 = ap length bare.1 in omega arith)
    ]
mantissa_unsigned (c ∷ ds) fraction mantissa r is all some =
    let d = digit_from_value c all.0 in
    elim is [
      | inl pointed ↦ rw pointed (λ e. omega arith, λ e. omega arith)
      | inr bare ↦ rw bare.0 (λ e. omega arith, λ e. omega arith)
    ]

-- the first point of a mantissa
point_here : (whole fraction mantissa : List ℕ) → IsMantissa whole fraction mantissa → AllDigits 10 whole → (before_first (is_mark 46 46) mantissa ≡ whole) × (after_first (is_mark 46 46) mantissa ≡ fraction)
point_here whole fraction mantissa is all =
    elim is [
      | inl pointed ↦ rw pointed (cut_here (is_mark 46 46) whole (46 ∷ fraction) (omega (arith, position_past (is_mark 46 46) whole (46 ∷ fraction) no_point all)))
      | inr bare ↦
          let e = cut_here (is_mark 46 46) whole [] (omega (arith, position_past (is_mark 46 46) whole [] no_point all)) in
          let nil = append-nil whole in
          rw (bare.0, bare.1) (rw nil at e)
    ]

-- the first letter behind a mantissa
letter_here : (whole fraction mantissa r : List ℕ) → IsMantissa whole fraction mantissa → AllDigits 10 whole → AllDigits 10 fraction → position_or_len (is_mark 101 69) r ≡ 0 → position_or_len (is_mark 101 69) (mantissa ++ r) ≡ length mantissa
letter_here whole fraction mantissa r is all digits e =
    elim is [
      | inl pointed ↦ rw (pointed, append_assoc) (
          position_past (is_mark 101 69) whole ((46 ∷ fraction) ++ r) no_letter all
          ∙ omega (arith, position_past (is_mark 101 69) fraction r no_letter digits, length-append whole (46 ∷ fraction)))
      | inr bare ↦ rw bare.0 (position_past (is_mark 101 69) whole r no_letter all ∙ omega arith)
    ]

-- a sign and digits are read back
power_read : (exponent : ℤ) (n : Bool) (sign digits rest : List ℕ) → IsSign n sign → AllDigits 10 digits → 0 < length digits → exponent ≡ signed n (digits_value 10 digits) → rest ≡ sign ++ digits →
    (signed (starts_with_minus rest) (digits_value 10 (without_leading_sign rest)) ≡ exponent) × AllDigits 10 (without_leading_sign rest) × (0 < length (without_leading_sign rest))
power_read exponent n sign digits rest is all some value joined =
    let first = digits_unsigned digits [] all some in
    let nil = append-nil digits in
    let first' = rw nil at first in
    let cut = signed_text n sign digits is first'.0 first'.1 in
    let is_rest = ap without_leading_sign joined ∙ cut.1 in (
      ap (λ t. signed (starts_with_minus t) (digits_value 10 (without_leading_sign t))) joined
          ∙ ap (λ b. signed b (digits_value 10 (without_leading_sign (sign ++ digits)))) cut.0
          ∙ ap (λ ds. signed n (digits_value 10 ds)) cut.1 ∙ sym value,
      subst (AllDigits 10) (sym is_rest) all,
      subst (λ ds. 0 < length ds) (sym is_rest) some,
    )

-- an exponent begins with its letter, and the sign and the digits follow
power_here : (exponent : ℤ) (text : List ℕ) → IsExponent exponent text → let rest = drop 1 text in
    (position_or_len (is_mark 101 69) text ≡ 0) × (signed (starts_with_minus rest) (digits_value 10 (without_leading_sign rest)) ≡ exponent) × AllDigits 10 (without_leading_sign rest) × (0 < length text → 0 < length (without_leading_sign rest))
power_here exponent text is =
    elim is [
      | inl power ↦
          let read = power_read exponent power.is_negative power.sign power.digits (power.sign ++ power.digits) power.is_sign power.all_digits power.some_digit power.value refl in
          elim power.is_letter [
            | inl low ↦ rw (power.joined, low) (refl, read.0, read.1, λ _. read.2)
            | inr high ↦ rw (power.joined, high) (refl, read.0, read.1, λ _. read.2)
          ]
      | inr none ↦ rw (none.0, none.1) (refl, refl, tt, λ h. absurd (omega arith))
    ]

-- parts are equal where their fields are
same_parts : (a b : ScoreParts) → a.is_negative ≡ b.is_negative → a.whole ≡ b.whole → a.fraction ≡ b.fraction → a.exponent ≡ b.exponent → a ≡ b
same_parts a b n w f e =
    let made : Bool → List ℕ → List ℕ → ℤ → ScoreParts = λ x y z t. record { is_negative = x; whole = y; fraction = z; exponent = t } in
    ap (λ x. made x a.whole a.fraction a.exponent) n ∙ ap (λ y. made b.is_negative y a.fraction a.exponent) w
    ∙ ap (λ z. made b.is_negative b.whole z a.exponent) f ∙ ap (λ t. made b.is_negative b.whole b.fraction t) e

-- a score's text has the parts that it is cut into
pub record IsCutInto (text : List ℕ) (parts : ScoreParts) : Type 0 where
  pub same : cut_parts text ≡ parts
  pub digits : IsDigitText text

pub cut_from_spelled : (text : List ℕ) (parts : ScoreParts) → HasParts text parts → IsCutInto text parts
cut_from_spelled text parts h =
    let rest = h.mantissa ++ h.power in
    let first = mantissa_unsigned parts.whole parts.fraction h.mantissa h.power h.is_mantissa h.whole_digits h.some_digit in
    let sign = signed_text parts.is_negative h.sign rest h.is_sign first.0 first.1 in
    let power = power_here parts.exponent h.power h.is_exponent in
    let letter = cut_here (is_mark 101 69) h.mantissa h.power (letter_here parts.whole parts.fraction h.mantissa h.power h.is_mantissa h.whole_digits h.fraction_digits power.0) in
    let point = point_here parts.whole parts.fraction h.mantissa h.is_mantissa h.whole_digits in
    let bare : without_leading_sign text ≡ rest = ap without_leading_sign h.joined ∙ sign.1 in
    let mantissa : mantissa_of text ≡ h.mantissa = ap (before_first (is_mark 101 69)) bare ∙ letter.0 in
    let tail : power_of text ≡ drop 1 h.power = ap (after_first (is_mark 101 69)) bare ∙ letter.1 in
    let negative : starts_with_minus text ≡ parts.is_negative = ap starts_with_minus h.joined ∙ sign.0 in
    let whole : before_first (is_mark 46 46) (mantissa_of text) ≡ parts.whole = ap (before_first (is_mark 46 46)) mantissa ∙ point.0 in
    let fraction : after_first (is_mark 46 46) (mantissa_of text) ≡ parts.fraction = ap (after_first (is_mark 46 46)) mantissa ∙ point.1 in
    let exponent : signed (starts_with_minus (power_of text)) (digits_value 10 (without_leading_sign (power_of text))) ≡ parts.exponent = ap (λ t. signed (starts_with_minus t) (digits_value 10 (without_leading_sign t))) tail ∙ power.1 in
    record {
      same = same_parts (cut_parts text) parts negative whole fraction exponent;
      digits = record {
        whole_digits = subst (AllDigits 10) (sym whole) h.whole_digits;
        fraction_digits = subst (AllDigits 10) (sym fraction) h.fraction_digits;
        some_digit = let w = ap length whole in let f = ap length fraction in omega (arith, w, f, h.some_digit);
        power_digits = subst (λ t. AllDigits 10 (without_leading_sign t)) (sym tail) power.2;
        power_digit = λ cut. subst (λ t. 0 < length (without_leading_sign t)) (sym tail) (power.3 (let m = ap length mantissa in let b = ap length bare in let l = length-append h.mantissa h.power in omega (arith, cut)));
      };
    }

-- a text has one spelling
pub one_spelling : (text : List ℕ) (a b : ScoreParts) → HasParts text a → HasParts text b → a ≡ b
one_spelling text a b h k = sym (cut_from_spelled text a h).same ∙ (cut_from_spelled text b k).same

are_parts : (text : List ℕ) → AreDigitParts (cut_parts text).whole (cut_parts text).fraction (without_leading_sign (power_of text)) (ltb (length (mantissa_of text)) (length (without_leading_sign text))) ↔ IsDigitText text
are_parts text = (
  λ h. record {
    whole_digits = digits_from_all _ (recursion_from_All IsAsciiDigit _ h.0);
    fraction_digits = digits_from_all _ (recursion_from_All IsAsciiDigit _ h.1);
    power_digits = digits_from_all _ (recursion_from_All IsAsciiDigit _ h.2);
    some_digit = h.3;
    power_digit = λ below. h.4 (lt-ltb _ _ below);
  },
  λ h. (all_from_digits _ h.whole_digits, all_from_digits _ h.fraction_digits, all_from_digits _ h.power_digits, h.some_digit, λ has. h.power_digit (ltb-true _ _ has)),
)

-- the parts that are cut off step by step are those of the text
pub record IsCutBySteps (text unsigned mantissa power whole fraction exponent : List ℕ) (negative negative_exponent : Bool) : Type 0 where
  pub is_negative : negative ≡ starts_with_minus text
  pub is_unsigned : unsigned ≡ without_leading_sign text
  pub is_mantissa : mantissa ≡ before_first (is_mark 101 69) unsigned
  pub is_power : power ≡ after_first (is_mark 101 69) unsigned
  pub is_whole : whole ≡ before_first (is_mark 46 46) mantissa
  pub is_fraction : fraction ≡ after_first (is_mark 46 46) mantissa
  pub is_negative_exponent : negative_exponent ≡ starts_with_minus power
  pub is_exponent : exponent ≡ without_leading_sign power

pub digit_text_by_steps : (text unsigned mantissa power whole fraction exponent : List ℕ) (negative negative_exponent : Bool) → IsCutBySteps text unsigned mantissa power whole fraction exponent negative negative_exponent →
    (AreDigitParts whole fraction exponent (ltb (length mantissa) (length unsigned)) ↔ IsDigitText text) × (record { is_negative = negative; whole = whole; fraction = fraction; exponent = signed negative_exponent (digits_value 10 exponent) } ≡ cut_parts text)
digit_text_by_steps text unsigned mantissa power whole fraction exponent negative negative_exponent h =
    let u = h.is_unsigned in
    let m : mantissa ≡ mantissa_of text = h.is_mantissa ∙ ap (before_first (is_mark 101 69)) u in
    let p : power ≡ power_of text = h.is_power ∙ ap (after_first (is_mark 101 69)) u in
    let w : whole ≡ (cut_parts text).whole = h.is_whole ∙ ap (before_first (is_mark 46 46)) m in
    let f : fraction ≡ (cut_parts text).fraction = h.is_fraction ∙ ap (after_first (is_mark 46 46)) m in
    let x : exponent ≡ without_leading_sign (power_of text) = h.is_exponent ∙ ap without_leading_sign p in
    let n : negative_exponent ≡ starts_with_minus (power_of text) = h.is_negative_exponent ∙ ap starts_with_minus p in
    let made = λ (parts : ScoreParts). same_parts parts (cut_parts text) in
    (rw (u, m, w, f, x) (are_parts text), made _ h.is_negative w f (ap (λ b. signed b (digits_value 10 exponent)) n ∙ ap (λ ds. signed (starts_with_minus (power_of text)) (digits_value 10 ds)) x))
