-- A number whose digits are read one after another.
use Rattle.std.proofs.Common.{◌≡◌, ℕ, suc, ◌+◌, ◌-◌, ◌*◌, ◌/◌, ◌%◌, ◌<◌, ◌≤◌, List, [], ◌∷◌, ◌++◌, length, get_or, take, true, ap, sym, ◌∙◌, arith}
use Rattle.std.specs.Prelude.{decimal}
use Rattle.std.specs.Char.{is_ascii_digit}
use Rattle.std.proofs.lemmas.Fmt.{decimal_digit, decimal_step}
use Rattle.std.proofs.Math.Seq.{take-suc}

-- a byte that is a digit
pub digit_bound : (b : ℕ) → is_ascii_digit b ≡ true → (48 ≤ b) × (b ≤ 57)
digit_bound b h = grind arith

one_digit_more : (n d : ℕ) → 0 < n → n < 100000000 → d < 10 → decimal (n * 10 + d) ≡ decimal n ++ (48 + d) ∷ []
one_digit_more n d there small digit =
    let whole : (n * 10 + d) / 10 ≡ n = omega arith in
    let rest : 48 + (n * 10 + d) % 10 ≡ 48 + d = omega arith in
    decimal_step (n * 10 + d) (omega arith) (omega arith) ∙ (λ i. decimal (whole i) ++ (rest i ∷ []))

-- with one more byte of a text the digits say ten times the number and that digit
pub digits_more : (text : List ℕ) (k n b : ℕ) → k < length text → get_or text k 0 ≡ b → 48 ≤ b → b ≤ 57 → 0 < n → n < 100000000 → take k text ≡ decimal n → take (k + 1) text ≡ decimal (n * 10 + (b - 48))
digits_more text k n b within is from to there small said =
    let next : suc k ≡ k + 1 = omega arith in
    let byte : b ≡ 48 + (b - 48) = omega arith in
    ap (λ z. take z text) (sym next) ∙ take-suc text k 0 within ∙ (λ i. said i ++ ((is ∙ byte) i ∷ [])) ∙ sym (one_digit_more n (b - 48) there small (omega arith))

-- one digit says itself
pub first_digit : (text : List ℕ) (b : ℕ) → 0 < length text → get_or text 0 0 ≡ b → 48 ≤ b → b ≤ 57 → take 1 text ≡ decimal (b - 48)
first_digit [] b some is from to = absurd (omega arith)
first_digit (x ∷ xs) b some is from to =
    let byte : b ≡ 48 + (b - 48) = omega arith in
    (λ i. (is ∙ byte) i ∷ []) ∙ sym (decimal_digit (b - 48) (omega arith))
