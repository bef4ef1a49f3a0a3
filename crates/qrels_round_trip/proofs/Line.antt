-- The line of a row says the row.
use Rattle.std.proofs.Common.{◌≡◌, ℕ, suc, ◌^◌, ◌<◌, ◌≤◌, List, [], ◌∷◌, ◌++◌, length, get_or, drop, true, false, cond, refl, ap, ap₂, ◌∙◌, arith, ℤ, pos, negsuc, append_assoc, length-append}
use Rattle.std.specs.Prelude.{Bool, not, ◌&&◌, ◌||◌, ◌==◌, nat_le, decimal, codes, neg_ℤ, ◌≤ℤ◌, int_le, Some, None, Ok, Err, slice_index, is_none, unwrap_or, T}
use Rattle.std.specs.List.{list_any, list_all, AllByRecursion}
use Rattle.std.specs.Str.{all_ascii_digits}
use Rattle.std.specs.Fmt.{signed_decimal}
use Rattle.std.proofs.lemmas.Bool.{and_parts, and_from, leb-true, lt-ltb, le-ltb, ne_eqb}
use Rattle.std.proofs.lemmas.List.Folds.{list_any-append}
use Rattle.std.proofs.lemmas.Fmt.{decimal_nonempty, digits_decimal, digits_value-decimal, length-decimal-le}
use Rattle.std.proofs.lemmas.Int.{ints}
use Rattle.desk_text.specs.Lines.{is_separator, is_bad, is_blank, fields_of}
use Rattle.desk_text.specs.Numbers.{read_on, is_digits, is_signed, is_negative, after_sign, with_sign, signed_value, whole_of}
use Rattle.desk_text.specs.declared.line.TheConstants.{LONGEST_LINE}
use Rattle.desk_text.proofs.Digits.{own}
use Rattle.desk_model.specs.Name.{is_name}
use Rattle.desk_report.specs.Judging.{qrels_line}
use Rattle.file_rows.specs.Reading.{field, is_long, unless}
use Rattle.file_rows.specs.Rows.{Row}
use Rattle.qrels_reader.specs.Rows.{grade_of, row_of, form_faults}
use Rattle.desk_model.proofs.Words.{IsWord, name_word, name_most, name_bytes, fields_word, fields_last, ink_no_separator}
use Rattle.qrels_round_trip.proofs.Words.{IsSmall, signed_word, signed_bytes, word_good}

-- a row whose names are names and whose grade is from -1,000 to 1,000
pub record IsWritable (row : Row) : Type 0 where
  pub topic : is_name row.topic ≡ true
  pub document : is_name row.document ≡ true
  pub grade : IsSmall row.value

-- the line of a row
abbrev pub line_of : Row → List ℕ
line_of row = qrels_line row.topic row.document row.value

-- ---- a number that is written is read
is_true : (b : Bool) → T b → b ≡ true
is_true true t = refl
is_true false t = absurd t

int_le_from : (x y : ℤ) → x ≤ℤ y → int_le x y ≡ true
int_le_from x y h = is_true (int_le x y) h.le

whole_when : (least most v : ℤ) (t : List ℕ) → is_digits (after_sign t) ≡ true → signed_value t ≡ v → least ≤ℤ v → v ≤ℤ most → whole_of least most t ≡ Some v
whole_when least most v t d e low high =
    ap (λ b. cond b (Some (signed_value t)) None) (and_from _ _ d (and_from _ _ (ap (int_le least) e ∙ int_le_from least v low) (ap (λ z. int_le z most) e ∙ int_le_from v most high))) ∙ ap Some e

digits_read : (n : ℕ) → n < 2 ^ 64 → is_digits (decimal n) ≡ true
digits_read n h = and_from _ _ (digits_decimal own n h) (lt-ltb 0 (length (decimal n)) (decimal_nonempty n h))

-- the first byte of a number in digits is no sign
first_byte : (n : ℕ) → n < 2 ^ 64 → 47 < get_or (decimal n) 0 0
first_byte n h = by (decimal n) (decimal_nonempty n h) (digits_decimal own n h)
  where
    by : (ds : List ℕ) → 0 < length ds → all_ascii_digits ds ≡ true → 47 < get_or ds 0 0
    by [] some all = absurd (omega arith)
    by (d ∷ ds) some all = let low : 48 ≤ d = leb-true 48 d (and_parts (nat_le 48 d) (nat_le d 57) (and_parts _ (all_ascii_digits ds) all).0).0 in omega arith

no_minus : (n : ℕ) → n < 2 ^ 64 → is_negative (decimal n) ≡ false
no_minus n h = let first = first_byte n h in ne_eqb (slice_index (decimal n) 0) 45 (λ e. omega arith)

no_sign : (n : ℕ) → n < 2 ^ 64 → is_signed (decimal n) ≡ false
no_sign n h =
    let first = first_byte n h in
    ap (λ b. b || is_negative (decimal n)) (ne_eqb (slice_index (decimal n) 0) 43 (λ e. omega arith)) ∙ no_minus n h

pub grade_read : (z : ℤ) → IsSmall z → whole_of (negsuc 999) (pos 1000) (signed_decimal z) ≡ Some z
grade_read (pos n) h =
    let small : n < 2 ^ 64 = omega (arith, ints, h) in
    let after : after_sign (decimal n) ≡ decimal n = ap (λ b. cond b (drop 1 (decimal n)) (decimal n)) (no_sign n small) in
    let value : signed_value (decimal n) ≡ pos n =
    ap₂ (λ b t. with_sign b (read_on 0 t)) (no_minus n small) after ∙ ap pos (digits_value-decimal own n small) in
    whole_when (negsuc 999) (pos 1000) (pos n) (decimal n) (ap is_digits after ∙ digits_read n small) value h.0 h.1
grade_read (negsuc n) h =
    let small : suc n < 2 ^ 64 = omega (arith, ints, h) in
    let value : signed_value (45 ∷ decimal (suc n)) ≡ negsuc n = ap (λ m. neg_ℤ (pos m)) (digits_value-decimal own (suc n) small) in
    whole_when (negsuc 999) (pos 1000) (negsuc n) (45 ∷ decimal (suc n)) (digits_read (suc n) small) value h.0 h.1

-- ---- nothing is wrong
pub passes : {A F : Type 0} (tests : List (Bool × F)) (a : A) → AllByRecursion (λ t. t.0 ≡ false) tests → unless tests a ≡ Ok a
passes [] a h = refl
passes (t ∷ tests) a h = ap (λ b. cond b (Err t.1) (unless tests a)) h.0 ∙ passes tests a h.1

-- ---- the parts of a line
signed_short : (z : ℤ) → IsSmall z → length (signed_decimal z) ≤ 20
signed_short (pos n) h = let most = length-decimal-le 19 n (omega arith) (omega (arith, ints, h)) (omega (arith, ints, h)) in omega arith
signed_short (negsuc n) h = let most = length-decimal-le 19 (suc n) (omega arith) (omega (arith, ints, h)) (omega (arith, ints, h)) in omega arith

module _ (row : Row) (h : IsWritable row) where
  abbrev grade : List ℕ
  grade = signed_decimal row.value

  -- the parts, each after a space
  parted : line_of row ≡ row.topic ++ 32 ∷ (codes "0" ++ 32 ∷ (row.document ++ 32 ∷ grade))
  parted = simp append_assoc

  pub line_fields : fields_of (line_of row) ≡ row.topic ∷ codes "0" ∷ row.document ∷ grade ∷ []
  line_fields =
      let zero_word : IsWord (codes "0") = record { filled = omega arith; ink = (omega arith, tt) } in
      ap fields_of parted
      ∙ fields_word row.topic (codes "0" ++ 32 ∷ (row.document ++ 32 ∷ grade)) (name_word row.topic h.topic)
      ∙ ap (λ fs. row.topic ∷ fs) (fields_word (codes "0") (row.document ++ 32 ∷ grade) zero_word
      ∙ ap (λ fs. codes "0" ∷ fs) (fields_word row.document grade (name_word row.document h.document)
      ∙ ap (λ fs. row.document ∷ fs) (fields_last grade (signed_word row.value h.grade))))

  pub line_short : length (line_of row) ≤ LONGEST_LINE
  line_short =
      let topic = name_most row.topic h.topic in
      let document = name_most row.document h.document in
      let number = signed_short row.value h.grade in
      omega (arith, ap length parted, length-append row.topic (32 ∷ (codes "0" ++ 32 ∷ (row.document ++ 32 ∷ grade))), length-append row.document (32 ∷ grade))

  good_after : (v w : List ℕ) → list_any is_bad v ≡ false → list_any is_bad w ≡ false → list_any is_bad (v ++ 32 ∷ w) ≡ false
  good_after v w p q = list_any-append is_bad v (32 ∷ w) ∙ ap₂ (λ a b. a || b) p q

  pub line_good : list_any is_bad (line_of row) ≡ false
  line_good =
      let topic = word_good row.topic (name_bytes row.topic h.topic) in
      let document = word_good row.document (name_bytes row.document h.document) in
      let number = word_good grade (signed_bytes row.value h.grade) in
      ap (list_any is_bad) parted
      ∙ good_after row.topic (codes "0" ++ 32 ∷ (row.document ++ 32 ∷ grade)) topic (good_after (codes "0") (row.document ++ 32 ∷ grade) refl (good_after row.document grade document number))

  starts : (w rest : List ℕ) → IsWord w → list_all is_separator (w ++ rest) ≡ false
  starts [] rest some = absurd (let none = some.filled in omega arith)
  starts (b ∷ bs) rest some = ap (λ t. t && list_all is_separator (bs ++ rest)) (ink_no_separator b some.ink.0)

  pub line_not_blank : is_blank (line_of row) ≡ false
  line_not_blank =
      ap (λ b. nat_le (length (line_of row)) LONGEST_LINE && b) (ap (list_all is_separator) parted ∙ starts row.topic (32 ∷ (codes "0" ++ 32 ∷ (row.document ++ 32 ∷ grade))) (name_word row.topic h.topic))
      ∙ by (nat_le (length (line_of row)) LONGEST_LINE)
    where
      by : (b : Bool) → (b && false) ≡ false
      by true = refl
      by false = refl

  field_is : (i : ℕ) → field (line_of row) i ≡ get_or (row.topic ∷ codes "0" ∷ row.document ∷ grade ∷ []) i []
  field_is i = ap (λ fs. get_or fs i []) line_fields

  grade_is : grade_of (line_of row) ≡ Some row.value
  grade_is = ap (whole_of (negsuc 999) (pos 1000)) (field_is 3) ∙ grade_read row.value h.grade

  short_name : (name : List ℕ) → is_name name ≡ true → is_long name ≡ false
  short_name name named = le-ltb 255 (length name) (name_most name named)

  pub row_is : row_of (line_of row) ≡ row
  row_is = λ i. record { topic = field_is 0 i; document = field_is 2 i; value = ap (λ g. unwrap_or g (pos 0)) grade_is i }

  -- the form of the line is right
  pub form_right : {A : Type 0} (a : A) → unless (form_faults (line_of row)) a ≡ Ok a
  form_right a =
      let count : (not (length (fields_of (line_of row)) == 4)) ≡ false = ap (λ fs. not (length fs == 4)) line_fields in
      let topic : is_long (field (line_of row) 0) ≡ false = ap is_long (field_is 0) ∙ short_name row.topic h.topic in
      let document : is_long (field (line_of row) 2) ≡ false = ap is_long (field_is 2) ∙ short_name row.document h.document in
      passes (form_faults (line_of row)) a
      (le-ltb LONGEST_LINE (length (line_of row)) line_short, (line_good, (count, (ap₂ (λ x y. x || y) topic document, (ap is_none grade_is, tt)))))
