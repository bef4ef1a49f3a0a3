-- Grades and depths, and the texts that say them.
use Rattle.std.proofs.Common.{◌≡◌, ℕ, zero, suc, ◌≤◌, List, [], ◌∷◌, true, false, Some, None, cond, refl, sym, ap, subst, ◌∙◌, arith, inl, inr, ℤ, pos, negsuc, int_le, ◌≤ℤ◌, decimal}
use Rattle.std.specs.Prelude.{Bool, ◌==◌, ◌||◌, ◌&&◌, codes}
use Rattle.std.specs.Str.{bytes_eq}
use Rattle.std.proofs.lemmas.Bool.{eqb-true, and_from}
use Rattle.std.proofs.lemmas.Bool.Decides.{nat_tests}
use Rattle.std.proofs.lemmas.Int.{ints}
use Rattle.std.proofs.lemmas.Fmt.{decimal_digit, decimal_injective}
use Rattle.std.proofs.lemmas.Slice.Eq.{bytes_eq-Decides}
use Rattle.desk_text.specs.Numbers.{is_digits, read_on, after_sign, is_negative, signed_value, with_sign, plain_of, whole_of}
use Rattle.desk_text.proofs.Digits.{plain_of-decimal}
use Rattle.desk_model.proofs.Decimals.{plain_some}
use Rattle.judge_session.specs.Request.{depth_of}
use Rattle.judge_session.specs.Forms.{IsGrade, IsPoolDepth, IsTextOfGrade}

-- a text of a sign and digits says its value
text_of : (t : List ℕ) → is_digits (after_sign t) ≡ true → IsTextOfGrade (signed_value t) t
text_of [] h = absurd (cc)
text_of (b ∷ bs) h = by (b == 43) (b == 45) refl refl h
  where
    by : (plus minus : Bool) → (b == 43) ≡ plus → (b == 45) ≡ minus → is_digits (cond (plus || minus) bs (b ∷ bs)) ≡ true → IsTextOfGrade (with_sign minus (read_on 0 (cond (plus || minus) bs (b ∷ bs)))) (b ∷ bs)
    by true true p m h = let e = eqb-true b 43 p in let f = eqb-true b 45 m in absurd (omega arith)
    by true false p m h = (bs, h, inr (inl (ap (λ c. c ∷ bs) (eqb-true b 43 p), refl)))
    by false true p m h = (bs, h, inr (inr (ap (λ c. c ∷ bs) (eqb-true b 45 m), refl)))
    by false false p m h = (b ∷ bs, h, inl (refl, refl))

-- digits have no sign
no_sign : (digits : List ℕ) → is_digits digits ≡ true → (after_sign digits ≡ digits) × (is_negative digits ≡ false)
no_sign [] h = absurd (cc)
no_sign (b ∷ bs) h = by (b == 43) (b == 45) refl refl
  where
    by : (plus minus : Bool) → (b == 43) ≡ plus → (b == 45) ≡ minus → (cond (plus || minus) bs (b ∷ bs) ≡ b ∷ bs) × (minus ≡ false)
    by true minus p m = let no : is_digits (43 ∷ bs) ≡ true = subst (λ c. is_digits (c ∷ bs) ≡ true) (eqb-true b 43 p) h in absurd (cc)
    by false true p m = let no : is_digits (45 ∷ bs) ≡ true = subst (λ c. is_digits (c ∷ bs) ≡ true) (eqb-true b 45 m) h in absurd (cc)
    by false false p m = (refl, refl)

said : (grade : ℤ) (t : List ℕ) → IsTextOfGrade grade t → (is_digits (after_sign t) ≡ true) × (signed_value t ≡ grade)
said grade t (digits, h, inl (e, v)) =
    let none = no_sign digits h in
    (ap is_digits (ap after_sign e ∙ none.0) ∙ h, ap signed_value e ∙ (λ i. with_sign (none.1 i) (read_on 0 (none.0 i))) ∙ sym v)
said grade t (digits, h, inr (inl (e, v))) = (ap (λ u. is_digits (after_sign u)) e ∙ h, ap signed_value e ∙ sym v)
said grade t (digits, h, inr (inr (e, v))) = (ap (λ u. is_digits (after_sign u)) e ∙ h, ap signed_value e ∙ sym v)

low_from : (z : ℤ) → int_le (negsuc 999) z ≡ true → negsuc 999 ≤ℤ z
low_from (pos n) h = omega (arith, ints)
low_from (negsuc n) h = let k : n ≤ 999 = grind (arith, nat_tests, h) in omega (arith, ints)

low_to : (z : ℤ) → negsuc 999 ≤ℤ z → int_le (negsuc 999) z ≡ true
low_to (pos n) h = refl
low_to (negsuc n) h = let k : n ≤ 999 = omega (arith, ints) in grind (arith, nat_tests)

high_from : (z : ℤ) → int_le z (pos 1000) ≡ true → z ≤ℤ pos 1000
high_from (pos n) h = let k : n ≤ 1000 = grind (arith, nat_tests, h) in omega (arith, ints)
high_from (negsuc n) h = omega (arith, ints)

high_to : (z : ℤ) → z ≤ℤ pos 1000 → int_le z (pos 1000) ≡ true
high_to (pos n) h = let k : n ≤ 1000 = omega (arith, ints) in grind (arith, nat_tests)
high_to (negsuc n) h = refl

pub grade_from : (t : List ℕ) (grade : ℤ) → whole_of (negsuc 999) (pos 1000) t ≡ Some grade → IsTextOfGrade grade t × IsGrade grade
grade_from t grade e = by (is_digits (after_sign t)) (int_le (negsuc 999) (signed_value t)) (int_le (signed_value t) (pos 1000)) refl refl refl e
  where
    by : (a b c : Bool) → is_digits (after_sign t) ≡ a → int_le (negsuc 999) (signed_value t) ≡ b → int_le (signed_value t) (pos 1000) ≡ c
        → cond (a && (b && c)) (Some (signed_value t)) None ≡ Some grade → IsTextOfGrade grade t × IsGrade grade
    by true true true p q r e = let same : signed_value t ≡ grade = cc in subst (λ g. IsTextOfGrade g t × IsGrade g) same (text_of t p, (low_from (signed_value t) q, high_from (signed_value t) r))
    by true true false p q r e = absurd (cc)
    by true false c p q r e = absurd (cc)
    by false b c p q r e = absurd (cc)

pub grade_to : (t : List ℕ) (grade : ℤ) → IsTextOfGrade grade t → IsGrade grade → whole_of (negsuc 999) (pos 1000) t ≡ Some grade
grade_to t grade text within =
    let is = said grade t text in
    let low = low_to (signed_value t) (subst (λ z. negsuc 999 ≤ℤ z) (sym is.1) within.0) in
    let high = high_to (signed_value t) (subst (λ z. z ≤ℤ pos 1000) (sym is.1) within.1) in
    ap (λ b. cond b (Some (signed_value t)) None) (and_from _ _ is.0 (and_from _ _ low high)) ∙ ap Some is.1

depth_some : (t : List ℕ) (depth : ℕ) → bytes_eq t (codes "0") ≡ false → t ≡ decimal depth → 1 ≤ depth
depth_some t zero z e = let yes : bytes_eq t (codes "0") ≡ true = (bytes_eq-Decides t (codes "0")).1 (e ∙ decimal_digit 0 (omega arith)) in absurd (cc)
depth_some t (suc d) z e = omega arith

pub depth_from : (t : List ℕ) (depth : ℕ) → depth_of t ≡ Some depth → (t ≡ decimal depth) × IsPoolDepth depth
depth_from t depth e = by (bytes_eq t (codes "0")) refl e
  where
    by : (zero : Bool) → bytes_eq t (codes "0") ≡ zero → cond zero None (plain_of 10000 t) ≡ Some depth → (t ≡ decimal depth) × IsPoolDepth depth
    by true z e = absurd (cc)
    by false z e = let is = plain_some 10000 depth t (omega arith) e in (is.0, (depth_some t depth z is.0, is.1))

pub depth_to : (t : List ℕ) (depth : ℕ) → t ≡ decimal depth → IsPoolDepth depth → depth_of t ≡ Some depth
depth_to t depth e within = by (bytes_eq t (codes "0")) refl
  where
    by : (zero : Bool) → bytes_eq t (codes "0") ≡ zero → cond zero None (plain_of 10000 t) ≡ Some depth
    by true z =
        let none : decimal depth ≡ decimal 0 = sym e ∙ (bytes_eq-Decides t (codes "0")).0 z ∙ sym (decimal_digit 0 (omega arith)) in
        let same = decimal_injective depth 0 (omega arith) (omega arith) none in
        absurd (omega arith)
    by false z = plain_of-decimal 10000 depth t (omega arith) within.1 e
