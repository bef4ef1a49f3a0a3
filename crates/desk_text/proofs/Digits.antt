-- Texts in digits.
use Rattle.std.proofs.Common.{◌≡◌, ◌≢◌, ℕ, zero, suc, ◌^◌, ◌<◌, ◌≤◌, List, [], ◌∷◌, length, get_or, true, refl, ap, sym, subst, ◌∙◌, arith, rules, inl, inr}
use Rattle.desk_text.specs.Numbers.{read_on, is_plain, plain_of}
use Rattle.std.proofs.lemmas.Bool.{eqb-true, eq-eqb, ltb-true, lt-ltb, leb-true, le-leb, and_parts, and_from}
use Rattle.std.specs.Prelude.{decimal, IfSome, IfNone, Option, Some, None, Bool, false, not, ◌&&◌, ◌||◌, ◌==◌, nat_lt, nat_le, slice_index, cond, Ok, ◌⊎◌}
use Rattle.std.specs.Str.{all_ascii_digits}
use Rattle.std.specs.Str.Parse.{ParsesUnsigned}
use Rattle.std.proofs.lemmas.Str.Parse.{IsNumeralModel, numerals_by_fold, parse_plain}
use Rattle.std.proofs.lemmas.Fmt.{decimal_digit, first_decimal, decimal-digits_value, decimal_nonempty, digits_decimal, digits_value-decimal}

pub own : IsNumeralModel (λ ds. all_ascii_digits ds ≡ true) (read_on 0)
own = numerals_by_fold _ (search rules) read_on (search rules)

-- a number in digits begins with a digit, which is 0 only where it is the whole
first_digit : (n : ℕ) → n < 2 ^ 64 → (decimal n ≡ 48 ∷ []) ⊎ (48 < get_or (decimal n) 0 0)
first_digit zero h = inl (decimal_digit 0 (omega arith))
first_digit (suc n) h = inr (first_decimal (suc n) (omega arith) h)

pub not_empty : (t : List ℕ) (n : ℕ) → n < 2 ^ 64 → length t ≡ 0 → t ≢ decimal n
not_empty t n h e d = let l : 0 < length t = subst (λ xs. 0 < length xs) (sym d) (decimal_nonempty n h) in omega arith

pub not_signed : (t : List ℕ) (n : ℕ) → n < 2 ^ 64 → get_or t 0 0 ≡ 43 → t ≢ decimal n
not_signed t n h e d = elim (first_digit n h) [
  | inl z ↦ let l : get_or t 0 0 ≡ 48 = ap (λ xs. get_or xs 0 0) (d ∙ z) in omega arith
  | inr m ↦ let l : 48 < get_or t 0 0 = subst (λ xs. 48 < get_or xs 0 0) (sym d) m in omega arith
]

pub not_padded : (t : List ℕ) (n : ℕ) → n < 2 ^ 64 → 1 < length t → get_or t 0 0 ≡ 48 → t ≢ decimal n
not_padded t n h k e d = elim (first_digit n h) [
  | inl z ↦ let l : length t ≡ 1 = ap length (d ∙ z) in omega arith
  | inr m ↦ let l : 48 < get_or t 0 0 = subst (λ xs. 48 < get_or xs 0 0) (sym d) m in omega arith
]

-- what `parse` reads of a text with no sign and no leading zero is the number whose digits it is
pub read : (E : Type 0) (t : List ℕ) (n : ℕ) → ParsesUnsigned {E = E} 64 10 t (Ok n) → get_or t 0 0 ≢ 43 → (get_or t 0 0 ≡ 48 → length t ≡ 1) → t ≡ decimal n
read E t n h plus padded =
    let p = parse_plain own {E = E} 64 t (Ok n) h plus in
    sym (ap decimal p.1 ∙ decimal-digits_value own t p.0.0 p.0.1 padded p.0.2)

split : (a : Bool) (n x : ℕ) → ((a && nat_lt 0 n) && (not (x == 48) || n == 1)) ≡ true → (a ≡ true) × (0 < n) × (x ≡ 48 → n ≡ 1)
split a n x h =
    let p = and_parts (a && nat_lt 0 n) (not (x == 48) || n == 1) h in
    let q = and_parts a (nat_lt 0 n) p.0 in
    (q.0, ltb-true 0 n q.1, λ e. one n x e p.1)
  where
    one : (n x : ℕ) → x ≡ 48 → (not (x == 48) || n == 1) ≡ true → n ≡ 1
    one n x e h = eqb-true n 1 (sym (ap (λ b. not b || n == 1) (eq-eqb x 48 e)) ∙ h)

joined : (a : Bool) (n x : ℕ) → a ≡ true → 0 < n → (x ≡ 48 → n ≡ 1) → ((a && nat_lt 0 n) && (not (x == 48) || n == 1)) ≡ true
joined a n x e f g = and_from _ _ (and_from a (nat_lt 0 n) e (lt-ltb 0 n f)) (last (x == 48) refl)
  where
    last : (b : Bool) → (x == 48) ≡ b → (not (x == 48) || n == 1) ≡ true
    last true h = ap (λ b. not b || n == 1) h ∙ eq-eqb n 1 (g (eqb-true x 48 h))
    last false h = ap (λ b. not b || n == 1) h

-- a plain text is what is written of its number
pub plain_is_decimal : (t : List ℕ) → is_plain t ≡ true → read_on 0 t < 2 ^ 64 → decimal (read_on 0 t) ≡ t
plain_is_decimal t h small = let p = split (all_ascii_digits t) (length t) (slice_index t 0) h in decimal-digits_value own t p.0 p.1 p.2 small

-- and what is written of a number is plain
pub decimal_is_plain : (n : ℕ) → n < 2 ^ 64 → is_plain (decimal n) ≡ true
decimal_is_plain n h =
    joined (all_ascii_digits (decimal n)) (length (decimal n)) (slice_index (decimal n) 0) (digits_decimal own n h) (decimal_nonempty n h) (λ e. elim (first_digit n h) [
      | inl z ↦ ap length z
      | inr m ↦ absurd (omega arith)
    ])

pub plain_of-decimal : (most n : ℕ) (t : List ℕ) → most < 2 ^ 64 → n ≤ most → t ≡ decimal n → plain_of most t ≡ Some n
plain_of-decimal most n t small le e =
    let h : n < 2 ^ 64 = omega arith in
    let v : read_on 0 (decimal n) ≡ n = digits_value-decimal own n h in
    ap (plain_of most) e
    ∙ ap (λ b. cond b (Some (read_on 0 (decimal n))) None) (and_from _ _ (decimal_is_plain n h) (le-leb _ _ (subst (λ k. k ≤ most) (sym v) le)))
    ∙ ap Some v

pub plain_of-none : (most : ℕ) (t : List ℕ) → most < 2 ^ 64 → ((n : ℕ) → n ≤ most → t ≢ decimal n) → plain_of most t ≡ None
plain_of-none most t small none = by_test (is_plain t && nat_le (read_on 0 t) most) refl
  where
    by_test : (b : Bool) → (is_plain t && nat_le (read_on 0 t) most) ≡ b → plain_of most t ≡ None
    by_test true h =
        let p = and_parts (is_plain t) (nat_le (read_on 0 t) most) h in
        let le : read_on 0 t ≤ most = leb-true (read_on 0 t) most p.1 in
        absurd (none (read_on 0 t) le (sym (plain_is_decimal t p.0 (omega arith))))
    by_test false h = ap (λ b. cond b (Some (read_on 0 t)) None) h

pub same_as_plain_of : (r : Option ℕ) (most : ℕ) (t : List ℕ) → most < 2 ^ 64 → IfSome r (λ n. t ≡ decimal n) → IfSome r (λ n. n ≤ most) → IfNone r ((n : ℕ) → n ≤ most → t ≢ decimal n) → r ≡ plain_of most t
same_as_plain_of None most t small some le none = sym (plain_of-none most t small none)
same_as_plain_of (Some n) most t small some le none = sym (plain_of-decimal most n t small le some)
