-- The line of a row says the row.
use Rattle.std.proofs.Common.{◌≡◌, ℕ, suc, ◌^◌, ◌<◌, ◌≤◌, List, [], ◌∷◌, ◌++◌, length, get_or, drop, true, false, cond, refl, ap, ap₂, ◌∙◌, arith, ℤ, pos, negsuc, length-append}
use Rattle.std.specs.Prelude.{Bool, not, ◌&&◌, ◌||◌, ◌==◌, nat_le, nat_eq, decimal, neg_ℤ, ◌≤ℤ◌, int_le, Some, None, Ok, Err, slice_index, is_none, unwrap_or, T}
use Rattle.std.specs.List.{list_any, list_all, AllByRecursion}
use Rattle.std.specs.Char.{is_ascii_digit}
use Rattle.std.specs.Str.{all_ascii_digits}
use Rattle.std.specs.Fmt.{signed_decimal}
use Rattle.std.proofs.lemmas.Bool.{and_parts, and_from, leb-true, le-leb, lt-ltb, le-ltb, ne_eqb, not-true}
use Rattle.std.proofs.lemmas.List.Folds.{list_any-append}
use Rattle.std.proofs.lemmas.Fmt.{decimal_nonempty, digits_decimal, digits_value-decimal, length-decimal-le}
use Rattle.std.proofs.lemmas.Int.{ints}
use Rattle.desk_text.specs.Lines.{is_separator, is_bad, is_blank, fields_of}
use Rattle.desk_text.specs.Numbers.{read_on, is_digits, is_signed, is_negative, after_sign, with_sign, signed_value, whole_of, plain_of}
use Rattle.desk_text.specs.declared.line.TheConstants.{LONGEST_LINE}
use Rattle.desk_text.proofs.Digits.{own, plain_of-decimal}
use Rattle.desk_model.specs.Name.{is_name, is_field_byte}
use Rattle.desk_model.proofs.Words.{IsWord, name_word, name_most, name_bytes, fields_word, fields_last, field_bytes_ink, ink_no_separator}
use Rattle.file_rows.specs.Reading.{field, is_long, unless}
use Rattle.sheet_merge.specs.declared.limits.TheConstants.{GREATEST_STAMP}
use Rattle.sheet_merge.specs.Sheet.{SheetRow, IsSheetRow}
use Rattle.sheet_merge.specs.Lines.{stamp_of, sheet_grade_of, entry_of, entry_faults}
use Rattle.sheet_merge.specs.Text.{entry_text}

-- ---- bytes of numbers
digit_byte : (b : ℕ) → is_ascii_digit b ≡ true → is_field_byte b ≡ true
digit_byte b h =
    let parts = and_parts (nat_le 48 b) (nat_le b 57) h in
    let low : 48 ≤ b = leb-true 48 b parts.0 in
    let high : b ≤ 57 = leb-true b 57 parts.1 in
    and_from _ _ (le-leb 33 b (omega arith)) (ap not (ne_eqb b 127 (λ e. omega arith)))

digits_bytes : (ds : List ℕ) → all_ascii_digits ds ≡ true → list_all is_field_byte ds ≡ true
digits_bytes [] h = refl
digits_bytes (d ∷ ds) h =
    let parts = and_parts (is_ascii_digit d) (all_ascii_digits ds) h in
    and_from _ _ (digit_byte d parts.0) (digits_bytes ds parts.1)

decimal_bytes : (n : ℕ) → n < 2 ^ 64 → list_all is_field_byte (decimal n) ≡ true
decimal_bytes n h = digits_bytes (decimal n) (digits_decimal own n h)

decimal_word : (n : ℕ) → n < 2 ^ 64 → IsWord (decimal n)
decimal_word n h = record { filled = decimal_nonempty n h; ink = field_bytes_ink (decimal n) (decimal_bytes n h) }

-- from -1,000 to 1,000
abbrev IsSmall : ℤ → Type 0
IsSmall z = (negsuc 999 ≤ℤ z) × (z ≤ℤ pos 1000)

signed_bytes : (z : ℤ) → IsSmall z → list_all is_field_byte (signed_decimal z) ≡ true
signed_bytes (pos n) h = decimal_bytes n (omega (arith, ints, h))
signed_bytes (negsuc n) h = decimal_bytes (suc n) (omega (arith, ints, h))

signed_filled : (z : ℤ) → IsSmall z → 0 < length (signed_decimal z)
signed_filled (pos n) h = decimal_nonempty n (omega (arith, ints, h))
signed_filled (negsuc n) h = omega arith

signed_word : (z : ℤ) → IsSmall z → IsWord (signed_decimal z)
signed_word z h = record { filled = signed_filled z h; ink = field_bytes_ink (signed_decimal z) (signed_bytes z h) }

field_not_bad : (b : ℕ) → is_field_byte b ≡ true → is_bad b ≡ false
field_not_bad b h =
    let parts = and_parts (nat_le 33 b) (not (nat_eq b 127)) h in
    let above : 33 ≤ b = leb-true 33 b parts.0 in
    ap (λ t. (t && not (is_separator b)) || b == 127) (le-ltb b 33 above) ∙ not-true (nat_eq b 127) parts.1

word_good : (w : List ℕ) → list_all is_field_byte w ≡ true → list_any is_bad w ≡ false
word_good [] h = refl
word_good (b ∷ bs) h =
    let parts = and_parts (is_field_byte b) (list_all is_field_byte bs) h in
    ap (λ t. t || list_any is_bad bs) (field_not_bad b parts.0) ∙ word_good bs parts.1

-- ---- a number that is written is read
is_true : (b : Bool) → T b → b ≡ true
is_true true t = refl
is_true false t = absurd t

int_le_from : (x y : ℤ) → x ≤ℤ y → int_le x y ≡ true
int_le_from x y h = is_true (int_le x y) h.le

whole_when : (least most v : ℤ) (t : List ℕ) → is_digits (after_sign t) ≡ true → signed_value t ≡ v → least ≤ℤ v → v ≤ℤ most → whole_of least most t ≡ Some v
whole_when least most v t d e low high =
    ap (λ b. cond b (Some (signed_value t)) None) (and_from _ _ d (and_from _ _ (ap (int_le least) e ∙ int_le_from least v low) (ap (λ z. int_le z most) e ∙ int_le_from v most high))) ∙ ap Some e

digits_read : (n : ℕ) → n < 2 ^ 64 → is_digits (decimal n) ≡ true
digits_read n h = and_from _ _ (digits_decimal own n h) (lt-ltb 0 (length (decimal n)) (decimal_nonempty n h))

-- the first byte of a number in digits is no sign
first_byte : (n : ℕ) → n < 2 ^ 64 → 47 < get_or (decimal n) 0 0
first_byte n h = by (decimal n) (decimal_nonempty n h) (digits_decimal own n h)
  where
    by : (ds : List ℕ) → 0 < length ds → all_ascii_digits ds ≡ true → 47 < get_or ds 0 0
    by [] some all = absurd (omega arith)
    by (d ∷ ds) some all = let low : 48 ≤ d = leb-true 48 d (and_parts (nat_le 48 d) (nat_le d 57) (and_parts _ (all_ascii_digits ds) all).0).0 in omega arith

no_minus : (n : ℕ) → n < 2 ^ 64 → is_negative (decimal n) ≡ false
no_minus n h = let first = first_byte n h in ne_eqb (slice_index (decimal n) 0) 45 (λ e. omega arith)

no_sign : (n : ℕ) → n < 2 ^ 64 → is_signed (decimal n) ≡ false
no_sign n h =
    let first = first_byte n h in
    ap (λ b. b || is_negative (decimal n)) (ne_eqb (slice_index (decimal n) 0) 43 (λ e. omega arith)) ∙ no_minus n h

grade_read : (z : ℤ) → IsSmall z → whole_of (negsuc 999) (pos 1000) (signed_decimal z) ≡ Some z
grade_read (pos n) h =
    let small : n < 2 ^ 64 = omega (arith, ints, h) in
    let after : after_sign (decimal n) ≡ decimal n = ap (λ b. cond b (drop 1 (decimal n)) (decimal n)) (no_sign n small) in
    let value : signed_value (decimal n) ≡ pos n =
    ap₂ (λ b t. with_sign b (read_on 0 t)) (no_minus n small) after ∙ ap pos (digits_value-decimal own n small) in
    whole_when (negsuc 999) (pos 1000) (pos n) (decimal n) (ap is_digits after ∙ digits_read n small) value h.0 h.1
grade_read (negsuc n) h =
    let small : suc n < 2 ^ 64 = omega (arith, ints, h) in
    let value : signed_value (45 ∷ decimal (suc n)) ≡ negsuc n = ap (λ m. neg_ℤ (pos m)) (digits_value-decimal own (suc n) small) in
    whole_when (negsuc 999) (pos 1000) (negsuc n) (45 ∷ decimal (suc n)) (digits_read (suc n) small) value h.0 h.1

stamp_read : (n : ℕ) → 1 ≤ n → n ≤ GREATEST_STAMP → stamp_of (decimal n) ≡ Some n
stamp_read n low high =
    let plain : plain_of GREATEST_STAMP (decimal n) ≡ Some n = plain_of-decimal GREATEST_STAMP n (decimal n) (omega arith) high refl in
    ap (λ o. cond (nat_le 1 (unwrap_or o 0)) o None) plain ∙ ap (λ b. cond b (Some n) None) (le-leb 1 n low)

-- ---- nothing is wrong
passes : {A F : Type 0} (tests : List (Bool × F)) (a : A) → AllByRecursion (λ t. t.0 ≡ false) tests → unless tests a ≡ Ok a
passes [] a h = refl
passes (t ∷ tests) a h = ap (λ b. cond b (Err t.1) (unless tests a)) h.0 ∙ passes tests a h.1

signed_short : (z : ℤ) → IsSmall z → length (signed_decimal z) ≤ 20
signed_short (pos n) h = let most = length-decimal-le 19 n (omega arith) (omega (arith, ints, h)) (omega (arith, ints, h)) in omega arith
signed_short (negsuc n) h = let most = length-decimal-le 19 (suc n) (omega arith) (omega (arith, ints, h)) (omega (arith, ints, h)) in omega arith

-- ---- the parts of a line
module _ (row : SheetRow) (h : IsSheetRow row) where
  abbrev stamp : List ℕ
  stamp = decimal row.1.stamp

  abbrev grade : List ℕ
  grade = signed_decimal row.1.grade

  abbrev after_who : List ℕ
  after_who = row.0.0 ++ 32 ∷ (row.0.1 ++ 32 ∷ grade)

  small : IsSmall row.1.grade
  small = (h.least, h.greatest)

  fits : row.1.stamp < 2 ^ 64
  fits = let high = h.last_stamp in omega (arith, high)

  pub line_fields : fields_of (entry_text row) ≡ stamp ∷ row.1.who ∷ row.0.0 ∷ row.0.1 ∷ grade ∷ []
  line_fields =
      fields_word stamp (row.1.who ++ 32 ∷ after_who) (decimal_word row.1.stamp fits)
      ∙ ap (λ fs. stamp ∷ fs) (fields_word row.1.who after_who (name_word row.1.who h.assessor)
      ∙ ap (λ fs. row.1.who ∷ fs) (fields_word row.0.0 (row.0.1 ++ 32 ∷ grade) (name_word row.0.0 h.topic)
      ∙ ap (λ fs. row.0.0 ∷ fs) (fields_word row.0.1 grade (name_word row.0.1 h.document)
      ∙ ap (λ fs. row.0.1 ∷ fs) (fields_last grade (signed_word row.1.grade small)))))

  pub line_short : length (entry_text row) ≤ LONGEST_LINE
  line_short =
      let high = h.last_stamp in
      let first = length-decimal-le 20 row.1.stamp (omega arith) (omega (arith, high)) (omega (arith, high)) in
      let who = name_most row.1.who h.assessor in
      let topic = name_most row.0.0 h.topic in
      let document = name_most row.0.1 h.document in
      let last = signed_short row.1.grade small in
      omega (arith, first, who, topic, document, last, length-append stamp (32 ∷ (row.1.who ++ 32 ∷ after_who)), length-append row.1.who (32 ∷ after_who), length-append row.0.0 (32 ∷ (row.0.1 ++ 32 ∷ grade)), length-append row.0.1 (32 ∷ grade))

  good_after : (v w : List ℕ) → list_any is_bad v ≡ false → list_any is_bad w ≡ false → list_any is_bad (v ++ 32 ∷ w) ≡ false
  good_after v w p q = list_any-append is_bad v (32 ∷ w) ∙ ap₂ (λ a b. a || b) p q

  pub line_good : list_any is_bad (entry_text row) ≡ false
  line_good =
      let who = word_good row.1.who (name_bytes row.1.who h.assessor) in
      let topic = word_good row.0.0 (name_bytes row.0.0 h.topic) in
      let document = word_good row.0.1 (name_bytes row.0.1 h.document) in
      let last = word_good grade (signed_bytes row.1.grade small) in
      let first = word_good stamp (decimal_bytes row.1.stamp fits) in
      good_after stamp (row.1.who ++ 32 ∷ after_who) first (good_after row.1.who after_who who (good_after row.0.0 (row.0.1 ++ 32 ∷ grade) topic (good_after row.0.1 grade document last)))

  starts : (w rest : List ℕ) → IsWord w → list_all is_separator (w ++ rest) ≡ false
  starts [] rest some = absurd (let none = some.filled in omega arith)
  starts (b ∷ bs) rest some = ap (λ t. t && list_all is_separator (bs ++ rest)) (ink_no_separator b some.ink.0)

  pub line_not_blank : is_blank (entry_text row) ≡ false
  line_not_blank =
      ap (λ b. nat_le (length (entry_text row)) LONGEST_LINE && b) (starts stamp (32 ∷ (row.1.who ++ 32 ∷ after_who)) (decimal_word row.1.stamp fits))
      ∙ by (nat_le (length (entry_text row)) LONGEST_LINE)
    where
      by : (b : Bool) → (b && false) ≡ false
      by true = refl
      by false = refl

  field_is : (i : ℕ) → field (entry_text row) i ≡ get_or (stamp ∷ row.1.who ∷ row.0.0 ∷ row.0.1 ∷ grade ∷ []) i []
  field_is i = ap (λ fs. get_or fs i []) line_fields

  grade_is : sheet_grade_of (field (entry_text row) 4) ≡ Some row.1.grade
  grade_is = ap sheet_grade_of (field_is 4) ∙ grade_read row.1.grade small

  stamp_is : stamp_of (field (entry_text row) 0) ≡ Some row.1.stamp
  stamp_is = ap stamp_of (field_is 0) ∙ stamp_read row.1.stamp h.first_stamp h.last_stamp

  short_name : (name : List ℕ) → is_name name ≡ true → is_long name ≡ false
  short_name name named = le-ltb 255 (length name) (name_most name named)

  pub entry_is : entry_of (entry_text row) ≡ row
  entry_is = λ i. ((field_is 2 i, field_is 3 i), record { stamp = ap (λ s. unwrap_or s 0) stamp_is i; who = field_is 1 i; grade = ap (λ g. unwrap_or g (pos 0)) grade_is i })

  -- the form of the line is right
  pub form_right : {A : Type 0} (a : A) → unless (entry_faults (entry_text row)) a ≡ Ok a
  form_right a =
      let count : (not (length (fields_of (entry_text row)) == 5)) ≡ false = ap (λ fs. not (length fs == 5)) line_fields in
      let who : is_long (field (entry_text row) 1) ≡ false = ap is_long (field_is 1) ∙ short_name row.1.who h.assessor in
      let topic : is_long (field (entry_text row) 2) ≡ false = ap is_long (field_is 2) ∙ short_name row.0.0 h.topic in
      let document : is_long (field (entry_text row) 3) ≡ false = ap is_long (field_is 3) ∙ short_name row.0.1 h.document in
      let names : (is_long (field (entry_text row) 1) || (is_long (field (entry_text row) 2) || is_long (field (entry_text row) 3))) ≡ false = ap₂ (λ x y. x || y) who (ap₂ (λ x y. x || y) topic document) in
      passes (entry_faults (entry_text row)) a
      (le-ltb LONGEST_LINE (length (entry_text row)) line_short, (line_good, (count, (ap is_none stamp_is, (names, (ap is_none grade_is, tt))))))
