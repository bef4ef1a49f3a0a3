-- The bounds of a number that was read.
use Rattle.std.proofs.Common.{◌≡◌, List, ℕ, true, false, cond, refl, sym, subst}
use Rattle.std.specs.Prelude.{Bool, ◌&&◌, Some, None, T, ℤ, ◌≤ℤ◌, int_le}
use Rattle.std.proofs.lemmas.Bool.{and_parts}
use Rattle.desk_text.specs.Numbers.{is_digits, after_sign, signed_value, whole_of}

le_when : (x y : ℤ) → int_le x y ≡ true → x ≤ℤ y
le_when x y e = record { le = subst T (sym e) tt }

kept : (d : Bool) (least most v n : ℤ) → cond (d && (int_le least v && int_le v most)) (Some v) None ≡ Some n → (least ≤ℤ n) × (n ≤ℤ most)
kept d least most v n e = by (d && (int_le least v && int_le v most)) refl e
  where
    by : (b : Bool) → (d && (int_le least v && int_le v most)) ≡ b → cond b (Some v) None ≡ Some n → (least ≤ℤ n) × (n ≤ℤ most)
    by true f g =
        let same : v ≡ n = cc in
        let parts = and_parts (int_le least v) (int_le v most) (and_parts d _ f).1 in
        (subst (λ x. least ≤ℤ x) same (le_when least v parts.0), subst (λ x. x ≤ℤ most) same (le_when v most parts.1))
    by false f g = absurd (cc)

-- a number that was read lies within its bounds
pub whole_of_within : (least most n : ℤ) (text : List ℕ) → whole_of least most text ≡ Some n → (least ≤ℤ n) × (n ≤ℤ most)
whole_of_within least most n text e = kept (is_digits (after_sign text)) least most (signed_value text) n e
