-- Printed numbers and words are words.
use Rattle.std.proofs.Common.{◌≡◌, ℕ, zero, suc, ◌+◌, ◌/◌, ◌%◌, ◌<◌, List, [], ◌∷◌, length, drop, cond, true, false, refl, sym, subst, ◌∙◌, arith, rules, ℤ, pos, negsuc, ◌++◌, length-append}
use Rattle.std.specs.Prelude.{Bool, ◌==◌, nat_lt, codes, decimal}
use Rattle.std.specs.List.{AllByRecursion}
use Rattle.std.specs.Fmt.{digits, digits_onto, digit_glyph, signed_decimal}
use Rattle.desk_model.specs.MeasureText.{measure_text}
use Rattle.desk_model.specs.declared.types.MeasureName.{MeasureName}
use Rattle.desk_model.specs.declared.types.MeasureName.TheVariants.{Precision, Recall, RPrecision, Reciprocal, Biased, AveragePrecision}
use Rattle.desk_model.specs.declared.types.Verdict.{Verdict}
use Rattle.desk_model.specs.declared.types.Verdict.TheVariants.{Above, Below, Equal, Open, Close}
use Rattle.desk_report.specs.Means.{six_digits, millionths, decimal_text}
use Rattle.desk_report.specs.Table.{word_of}
use Rattle.desk_report.specs.Claims.{IsDecimal}
use Rattle.desk_model.proofs.Words.{AreInk, IsWord}
use Rattle.desk_report.proofs.Spelling.{ink-append}

-- ---- digits are greater than the point
abbrev pub ArePastPoint : List ℕ → Type 0
ArePastPoint = AllByRecursion (λ b. 46 < b)

past_point_ink : (w : List ℕ) → ArePastPoint w → AreInk w
past_point_ink [] h = tt
past_point_ink (b ∷ bs) h = (omega (arith, h.0), past_point_ink bs h.1)

glyph_past : (d : ℕ) → 46 < digit_glyph false d
glyph_past d = by_test (nat_lt d 10)
  where
    by_test : (t : Bool) → 46 < cond t (48 + d) (87 + d)
    by_test true = omega arith
    by_test false = omega arith

digits_past : (k n : ℕ) (acc : List ℕ) → ArePastPoint acc → ArePastPoint (digits_onto k 10 false n acc)
digits_past zero n acc h = h
digits_past (suc k) n acc h =
    let more : ArePastPoint (digit_glyph false (n % 10) ∷ acc) = (glyph_past (n % 10), h) in
    either (n / 10 == 0) _ _ more (digits_past k (n / 10) _ more)
  where
    either : (t : Bool) (v w : List ℕ) → ArePastPoint v → ArePastPoint w → ArePastPoint (cond t v w)
    either true v w p q = p
    either false v w p q = q

digits_filled : (k n : ℕ) (acc : List ℕ) → 0 < k + length acc → 0 < length (digits_onto k 10 false n acc)
digits_filled zero n acc h = omega (arith, h)
digits_filled (suc k) n acc h = either (n / 10 == 0) (digit_glyph false (n % 10) ∷ acc) _ (omega arith) (digits_filled k (n / 10) (digit_glyph false (n % 10) ∷ acc) (omega arith))
  where
    either : (t : Bool) (v w : List ℕ) → 0 < length v → 0 < length w → 0 < length (cond t v w)
    either true v w p q = p
    either false v w p q = q

pub decimal_past : (n : ℕ) → ArePastPoint (decimal n)
unfolding digits
decimal_past n = digits_past 64 n [] tt

pub decimal_ink : (n : ℕ) → AreInk (decimal n)
decimal_ink n = past_point_ink (decimal n) (decimal_past n)

decimal_filled : (n : ℕ) → 0 < length (decimal n)
unfolding digits
decimal_filled n = digits_filled 64 n [] (omega arith)

pub signed_word : (z : ℤ) → IsWord (signed_decimal z)
signed_word (pos n) = record { filled = decimal_filled n; ink = decimal_ink n }
signed_word (negsuc n) = record { filled = omega arith; ink = (omega arith, decimal_ink (suc n)) }

-- ---- a printed number has a point, and a grade has none
abbrev HasNoPoint : List ℕ → Type 0
HasNoPoint = AllByRecursion (λ b. b ≡ 46 → ⊥)

past_no_point : (w : List ℕ) → ArePastPoint w → HasNoPoint w
past_no_point [] h = tt
past_no_point (b ∷ bs) h = (λ e. omega (arith, h.0, e), past_no_point bs h.1)

signed_no_point : (z : ℤ) → HasNoPoint (signed_decimal z)
signed_no_point (pos n) = past_no_point (decimal n) (decimal_past n)
signed_no_point (negsuc n) = (λ e. let other : 45 ≡ 46 = e in omega (arith, other), past_no_point (decimal (suc n)) (decimal_past (suc n)))

point_within : (v w : List ℕ) → HasNoPoint (v ++ 46 ∷ w) → ⊥
point_within [] w h = h.0 refl
point_within (b ∷ bs) w h = point_within bs w h.1

millionths_point : (n : ℕ) → HasNoPoint (millionths n) → ⊥
millionths_point n h = point_within (decimal (n / 1000000)) (six_digits (n % 1000000)) h

decimal_text_point : (z : ℤ) → HasNoPoint (decimal_text z) → ⊥
decimal_text_point (pos n) h = millionths_point n h
decimal_text_point (negsuc n) h = millionths_point (suc n) h.1

pub grade_not_decimal : (text : List ℕ) (grade : ℤ) → text ≡ signed_decimal grade → IsDecimal text → ⊥
grade_not_decimal text grade is h = decimal_text_point h.0 (subst HasNoPoint (sym is ∙ h.1) (signed_no_point grade))

-- ---- printed words
rest_ink : (w : List ℕ) → AreInk w → AreInk (drop 1 w)
rest_ink [] h = tt
rest_ink (b ∷ bs) h = h.1

millionths_word : (n : ℕ) → IsWord (millionths n)
millionths_word n = record {
  filled = omega (arith, length-append (decimal (n / 1000000)) (46 ∷ six_digits (n % 1000000)));
  ink = ink-append (decimal (n / 1000000)) (46 ∷ six_digits (n % 1000000)) (decimal_ink (n / 1000000)) (omega arith, rest_ink (decimal (1000000 + n % 1000000)) (decimal_ink (1000000 + n % 1000000)));
}

pub decimal_text_word : (z : ℤ) → IsWord (decimal_text z)
decimal_text_word (pos n) = millionths_word n
decimal_text_word (negsuc n) = record { filled = omega arith; ink = (omega arith, (millionths_word (suc n)).ink) }

pub measure_ink : (name : MeasureName) → AreInk (measure_text name)
measure_ink (Precision k) = ink-append (codes "P_") (decimal k) (search rules) (decimal_ink k)
measure_ink (Recall k) = ink-append (codes "recall_") (decimal k) (search rules) (decimal_ink k)
measure_ink RPrecision = search rules
measure_ink Reciprocal = search rules
measure_ink AveragePrecision = search rules
measure_ink (Biased top bottom) = ink-append (codes "rbp_0.") (drop 1 (decimal (bottom + top))) (search rules) (rest_ink (decimal (bottom + top)) (decimal_ink (bottom + top)))

pub verdict_word : (v : Verdict) → IsWord (word_of v)
verdict_word Above = record { filled = omega arith; ink = search rules }
verdict_word Below = record { filled = omega arith; ink = search rules }
verdict_word Equal = record { filled = omega arith; ink = search rules }
verdict_word Open = record { filled = omega arith; ink = search rules }
verdict_word Close = record { filled = omega arith; ink = search rules }
