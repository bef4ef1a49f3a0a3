-- The form of a line of a sheet.
use Rattle.std.proofs.Common.{◌≡◌, ℕ, ◌≤◌, List, [], ◌∷◌, length, true, false, cond, refl, sym, subst}
use Rattle.std.specs.Prelude.{Bool, not, ◌||◌, ◌&&◌, ◌==◌, Option, Some, None, is_none, unwrap_or, T, ℤ, ◌≤ℤ◌, int_le, nat_lt, nat_le}
use Rattle.std.specs.List.{list_any}
use Rattle.std.proofs.lemmas.Bool.{and_parts, leb-true}
use Rattle.desk_text.specs.Lines.{is_bad, fields_of}
use Rattle.desk_text.specs.Numbers.{is_digits, is_plain, read_on, after_sign, signed_value, whole_of, plain_of}
use Rattle.desk_text.specs.declared.line.TheConstants.{LONGEST_LINE}
use Rattle.file_rows.specs.Reading.{unless, field, is_long}
use Rattle.sheet_merge.specs.Lines.{stamp_of, sheet_grade_of, entry_of, entry_faults}
use Rattle.sheet_merge.specs.declared.limits.TheConstants.{GREATEST_STAMP}
use Rattle.sheet_merge.specs.declared.fault.SheetLineFault.TheVariants.{LineTooLong, BadByte, BadFieldCount, BadStamp, NameTooLong, BadGrade}

-- what the tests of a line's form give
pub form_is : (line : List ℕ) (a b c d e f : Bool) → nat_lt LONGEST_LINE (length line) ≡ a → list_any is_bad line ≡ b → not (length (fields_of line) == 5) ≡ c → is_none (stamp_of (field line 0)) ≡ d
    → (is_long (field line 1) || (is_long (field line 2) || is_long (field line 3))) ≡ e → is_none (sheet_grade_of (field line 4)) ≡ f
    → unless (entry_faults line) (entry_of line) ≡ unless ((a, LineTooLong) ∷ (b, BadByte) ∷ (c, BadFieldCount) ∷ (d, BadStamp) ∷ (e, NameTooLong) ∷ (f, BadGrade) ∷ []) (entry_of line)
form_is line a b c d e f p q r s t u = λ i. unless ((p i, LineTooLong) ∷ (q i, BadByte) ∷ (r i, BadFieldCount) ∷ (s i, BadStamp) ∷ (t i, NameTooLong) ∷ (u i, BadGrade) ∷ []) (entry_of line)

-- ---- the bounds of a stamp
within_most : (b : Bool) (v most n : ℕ) → cond (b && nat_le v most) (Some v) None ≡ Some n → n ≤ most
within_most b v most n e = by (b && nat_le v most) refl e
  where
    by : (t : Bool) → (b && nat_le v most) ≡ t → cond t (Some v) None ≡ Some n → n ≤ most
    by true f g =
        let same : v ≡ n = cc in
        let le = leb-true v most (and_parts b (nat_le v most) f).1 in
        subst (λ k. k ≤ most) same le
    by false f g = absurd (cc)

stamp_from : (o : Option ℕ) (n : ℕ) → cond (nat_le 1 (unwrap_or o 0)) o None ≡ Some n → (1 ≤ n) × (o ≡ Some n)
stamp_from None n e = absurd (cc)
stamp_from (Some v) n e = by (nat_le 1 v) refl e
  where
    by : (t : Bool) → nat_le 1 v ≡ t → cond t (Some v) None ≡ Some n → (1 ≤ n) × (Some v ≡ Some n)
    by true f g = (let same : v ≡ n = cc in subst (λ k. 1 ≤ k) same (leb-true 1 v f), g)
    by false f g = absurd (cc)

pub stamp_within : (text : List ℕ) (n : ℕ) → stamp_of text ≡ Some n → (1 ≤ n) × (n ≤ GREATEST_STAMP)
stamp_within text n e =
    let from = stamp_from (plain_of GREATEST_STAMP text) n e in
    (from.0, within_most (is_plain text) (read_on 0 text) GREATEST_STAMP n from.1)

-- ---- the bounds of a grade
le_when : (x y : ℤ) → int_le x y ≡ true → x ≤ℤ y
le_when x y e = record { le = subst T (sym e) tt }

kept : (d : Bool) (least most v n : ℤ) → cond (d && (int_le least v && int_le v most)) (Some v) None ≡ Some n → (least ≤ℤ n) × (n ≤ℤ most)
kept d least most v n e = by (d && (int_le least v && int_le v most)) refl e
  where
    by : (b : Bool) → (d && (int_le least v && int_le v most)) ≡ b → cond b (Some v) None ≡ Some n → (least ≤ℤ n) × (n ≤ℤ most)
    by true f g =
        let same : v ≡ n = cc in
        let parts = and_parts (int_le least v) (int_le v most) (and_parts d _ f).1 in
        (subst (λ x. least ≤ℤ x) same (le_when least v parts.0), subst (λ x. x ≤ℤ most) same (le_when v most parts.1))
    by false f g = absurd (cc)

-- a number that was read lies within its bounds
pub whole_within : (least most n : ℤ) (text : List ℕ) → whole_of least most text ≡ Some n → (least ≤ℤ n) × (n ≤ℤ most)
whole_within least most n text e = kept (is_digits (after_sign text)) least most (signed_value text) n e
