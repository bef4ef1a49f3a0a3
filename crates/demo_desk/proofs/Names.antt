-- The names in the demo's texts: they are names, and those of different numbers differ.
use Rattle.std.proofs.Common.{◌≡◌, ℕ, ◌+◌, ◌*◌, ◌/◌, ◌%◌, ◌^◌, ◌<◌, ◌≤◌, List, [], ◌∷◌, length, get_or, drop, true, false, refl, ap, sym, ◌∙◌, arith}
use Rattle.std.specs.Prelude.{Bool, decimal}
use Rattle.std.specs.List.{list_all}
use Rattle.std.specs.Char.{is_ascii_digit}
use Rattle.std.specs.Str.{all_ascii_digits, bytes_eq}
use Rattle.std.proofs.lemmas.Bool.{and_from, le-leb}
use Rattle.std.proofs.lemmas.Fmt.{decimal-digits_value, digits_value-decimal, length-decimal-le}
use Rattle.desk_text.specs.Numbers.{read_on}
use Rattle.desk_text.proofs.Digits.{own}
use Rattle.desk_model.specs.Name.{is_name, is_field_byte}
use Rattle.desk_model.proofs.Names.{same_name}
use Rattle.qrels_round_trip.proofs.Words.{digits_bytes}
use Rattle.demo_desk.proofs.NameWords.{decimal_word}
use Rattle.demo_desk.specs.Texts.{topic_text, document_text, tag_text}

-- texts that are not one are not equal
pub apart : (x y : List ℕ) → (x ≡ y → ⊥) → bytes_eq x y ≡ false
apart x y differ = by (bytes_eq x y) refl
  where
    by : (b : Bool) → bytes_eq x y ≡ b → bytes_eq x y ≡ false
    by true e = absurd (differ (same_name x y e))
    by false e = e

-- ---- digits
pub digit_is : (d : ℕ) → d < 10 → is_ascii_digit (48 + d) ≡ true
digit_is d h = and_from _ _ (le-leb 48 (48 + d) (omega arith)) (le-leb (48 + d) 57 (omega arith))

-- a one and four digits
five : (a b c d : ℕ) → a < 10 → b < 10 → c < 10 → d < 10 → decimal (10000 + 1000 * a + 100 * b + 10 * c + d) ≡ 49 ∷ (48 + a) ∷ (48 + b) ∷ (48 + c) ∷ (48 + d) ∷ []
five a b c d ha hb hc hd =
    let ds = 49 ∷ (48 + a) ∷ (48 + b) ∷ (48 + c) ∷ (48 + d) ∷ [] in
    let all : all_ascii_digits ds ≡ true =
    and_from _ _ refl (and_from _ _ (digit_is a ha) (and_from _ _ (digit_is b hb) (and_from _ _ (digit_is c hc) (and_from _ _ (digit_is d hd) refl)))) in
    let value : 10000 + 1000 * a + 100 * b + 10 * c + d ≡ read_on 0 ds = omega arith in
    let small : read_on 0 ds < 2 ^ 64 = omega arith in
    ap decimal value ∙ decimal-digits_value own ds all (omega arith) (λ e. absurd (omega arith)) small

-- a one and three digits
pub four : (a b c : ℕ) → a < 10 → b < 10 → c < 10 → decimal (1000 + 100 * a + 10 * b + c) ≡ 49 ∷ (48 + a) ∷ (48 + b) ∷ (48 + c) ∷ []
four a b c ha hb hc =
    let ds = 49 ∷ (48 + a) ∷ (48 + b) ∷ (48 + c) ∷ [] in
    let all : all_ascii_digits ds ≡ true = and_from _ _ refl (and_from _ _ (digit_is a ha) (and_from _ _ (digit_is b hb) (and_from _ _ (digit_is c hc) refl))) in
    let value : 1000 + 100 * a + 10 * b + c ≡ read_on 0 ds = omega arith in
    let small : read_on 0 ds < 2 ^ 64 = omega arith in
    ap decimal value ∙ decimal-digits_value own ds all (omega arith) (λ e. absurd (omega arith)) small

-- ---- documents
abbrev four_digits : ℕ → List ℕ
four_digits n = (48 + n / 1000) ∷ (48 + n / 100 % 10) ∷ (48 + n / 10 % 10) ∷ (48 + n % 10) ∷ []

document_is : (n : ℕ) → n < 10000 → document_text n ≡ 68 ∷ four_digits n
document_is n h =
    let parts : 10000 + n ≡ 10000 + 1000 * (n / 1000) + 100 * (n / 100 % 10) + 10 * (n / 10 % 10) + n % 10 = omega arith in
    ap (λ m. 68 ∷ drop 1 (decimal m)) parts
    ∙ ap (λ ds. 68 ∷ drop 1 ds) (five (n / 1000) (n / 100 % 10) (n / 10 % 10) (n % 10) (omega arith) (omega arith) (omega arith) (omega arith))

pub document_name : (n : ℕ) → n < 10000 → is_name (document_text n) ≡ true
document_name n h =
    let digits : all_ascii_digits (four_digits n) ≡ true =
    and_from _ _ (digit_is (n / 1000) (omega arith)) (and_from _ _ (digit_is (n / 100 % 10) (omega arith)) (and_from _ _ (digit_is (n / 10 % 10) (omega arith)) (and_from _ _ (digit_is (n % 10) (omega arith)) refl))) in
    ap is_name (document_is n h) ∙ and_from _ _ refl (and_from _ _ refl (and_from _ _ refl (digits_bytes (four_digits n) digits)))

pub document_length : (n : ℕ) → n < 10000 → length (document_text n) ≡ 5
document_length n h = ap length (document_is n h)

pub documents_apart : (m n : ℕ) → m < 10000 → n < 10000 → (m ≡ n → ⊥) → bytes_eq (document_text m) (document_text n) ≡ false
documents_apart m n hm hn differ = apart (document_text m) (document_text n) (λ e.
    let all : 68 ∷ four_digits m ≡ 68 ∷ four_digits n = sym (document_is m hm) ∙ e ∙ document_is n hn in
    let a : 48 + m / 1000 ≡ 48 + n / 1000 = ap (λ ds. get_or ds 1 0) all in
    let b : 48 + m / 100 % 10 ≡ 48 + n / 100 % 10 = ap (λ ds. get_or ds 2 0) all in
    let c : 48 + m / 10 % 10 ≡ 48 + n / 10 % 10 = ap (λ ds. get_or ds 3 0) all in
    let d : 48 + m % 10 ≡ 48 + n % 10 = ap (λ ds. get_or ds 4 0) all in
    let one : m ≡ n = omega arith in
    differ one)

-- ---- topics
named_from : (bytes : List ℕ) → 0 < length bytes → length bytes ≤ 255 → list_all is_field_byte bytes ≡ true → is_name bytes ≡ true
named_from bytes some short all = and_from _ _ (le-leb 1 (length bytes) (omega arith)) (and_from _ _ (le-leb (length bytes) 255 short) all)

short_decimal : (n : ℕ) → n < 10 ^ 19 → length (decimal n) ≤ 19
short_decimal n h = length-decimal-le 19 n (omega arith) h (omega arith)

pub topic_name : (t : ℕ) → t < 50 → is_name (topic_text t) ≡ true
topic_name t h =
    let word = decimal_word (401 + t) (omega arith) in
    let short = short_decimal (401 + t) (omega arith) in
    named_from (topic_text t) word.filled (omega arith) word.bytes

pub topics_apart : (s t : ℕ) → s < 50 → t < 50 → (s ≡ t → ⊥) → bytes_eq (topic_text s) (topic_text t) ≡ false
topics_apart s t hs ht differ = apart (topic_text s) (topic_text t) (λ e.
    let all : 401 + s ≡ 401 + t = sym (digits_value-decimal own (401 + s) (omega arith)) ∙ ap (read_on 0) e ∙ digits_value-decimal own (401 + t) (omega arith) in
    let one : s ≡ t = omega arith in
    differ one)

-- ---- runs
pub tag_name : (run : ℕ) → run < 8 → is_name (tag_text run) ≡ true
tag_name run h =
    let word = decimal_word (1 + run) (omega arith) in
    let short = short_decimal (1 + run) (omega arith) in
    named_from (tag_text run) (omega arith) (omega arith) (and_from _ _ refl word.bytes)
