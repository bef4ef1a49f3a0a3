-- What tests of two truth values say.
use Rattle.std.proofs.Common.{◌≡◌, ◌⊎◌, Bool, true, false, true≢false, ◌||◌, ◌&&◌, refl, ap, sym, ◌∙◌, inl, inr}

pub either : (a b : Bool) → (a || b) ≡ true → (a ≡ true) ⊎ (b ≡ true)
either true b h = inl refl
either false b h = inr h

pub both : (a b : Bool) → (a && b) ≡ true → (a ≡ true) × (b ≡ true)
both true b h = (refl, h)
both false b h = absurd (true≢false (sym h))

pub or_first : (a b : Bool) → a ≡ true → (a || b) ≡ true
or_first a b h = ap (λ x. x || b) h

pub or_second : (a b : Bool) → b ≡ true → (a || b) ≡ true
or_second true b h = refl
or_second false b h = h

pub and_both : (a b : Bool) → a ≡ true → b ≡ true → (a && b) ≡ true
and_both a b h k = ap (λ x. x && b) h ∙ k

pub or_false : (a b : Bool) → b ≡ false → (a || b) ≡ a
or_false true b h = refl
or_false false b h = h

pub and_true : (a b : Bool) → a ≡ true → (a && b) ≡ b
and_true a b h = ap (λ x. x && b) h

pub and_false : (a b : Bool) → a ≡ false → (a && b) ≡ false
and_false a b h = ap (λ x. x && b) h

pub true_or_false : (a : Bool) → (a ≡ true) ⊎ (a ≡ false)
true_or_false true = inl refl
true_or_false false = inr refl

pub not_both : {P : Type 0} (a : Bool) → a ≡ true → a ≡ false → P
not_both a h k = absurd (true≢false (sym h ∙ k))
