-- Digits that are read one by one.
use Rattle.std.proofs.Common.{◌≡◌, ℕ, zero, suc, ◌+◌, ◌-◌, ◌*◌, ◌<◌, List, [], ◌∷◌, ◌++◌, take, length, get_or, refl, ap, ◌∙◌, arith}
use Rattle.std.proofs.lemmas.List.{take_more}
use Rattle.std.specs.Prelude.{true, false, ◌&&◌}
use Rattle.std.specs.Str.{all_ascii_digits}
use Rattle.std.specs.Char.{is_ascii_digit}
use Rattle.desk_text.specs.Numbers.{read_on}

read_on-append : (n : ℕ) (xs : List ℕ) (c : ℕ) → read_on n (xs ++ c ∷ []) ≡ 10 * read_on n xs + (c - 48)
read_on-append n [] c = refl
read_on-append n (x ∷ xs) c = read_on-append (10 * n + (x - 48)) xs c

-- one more digit
pub read_on-more : (xs : List ℕ) (i : ℕ) → i < length xs → read_on 0 (take (i + 1) xs) ≡ 10 * read_on 0 (take i xs) + (get_or xs i 0 - 48)
read_on-more xs i lt = ap (read_on 0) (take_more xs i 0 lt) ∙ read_on-append 0 (take i xs) (get_or xs i 0)

all-append : (xs : List ℕ) (c : ℕ) → all_ascii_digits xs ≡ true → is_ascii_digit c ≡ true → all_ascii_digits (xs ++ c ∷ []) ≡ true
all-append [] c h d = ap (λ b. b && true) d
all-append (x ∷ xs) c h d = grind (arith, all-append xs c)

pub all-more : (xs : List ℕ) (i : ℕ) → i < length xs → all_ascii_digits (take i xs) ≡ true → is_ascii_digit (get_or xs i 0) ≡ true → all_ascii_digits (take (i + 1) xs) ≡ true
all-more xs i lt h d = ap all_ascii_digits (take_more xs i 0 lt) ∙ all-append (take i xs) (get_or xs i 0) h d

-- one that is no digit
pub not_all : (xs : List ℕ) (i : ℕ) → i < length xs → is_ascii_digit (get_or xs i 0) ≡ false → all_ascii_digits xs ≡ false
not_all [] i lt d = absurd (omega arith)
not_all (x ∷ xs) zero lt d = ap (λ b. b && all_ascii_digits xs) d
not_all (x ∷ xs) (suc i) lt d = grind (arith, not_all xs i)
