-- How bytes are cut: at the first byte that is not among those before it.
use Rattle.std.proofs.Common.{◌≡◌, ◌≢◌, ℕ, suc, ◌<◌, ◌≤◌, List, [], ◌∷◌, ◌++◌, length, refl, ap, sym, ◌∙◌, arith, append_assoc}
use Rattle.std.specs.List.{AllByRecursion}
use Rattle.line_forms.specs.Form.{text_of}
use Rattle.line_forms.specs.Reading.{IsFreeOf}

-- every byte is greater than some number
abbrev pub AreAbove : ℕ → List ℕ → Type 0
AreAbove n bytes = AllByRecursion (λ b. n < b) bytes

pub above-append : (n : ℕ) (xs ys : List ℕ) → AreAbove n xs → AreAbove n ys → AreAbove n (xs ++ ys)
above-append n [] ys h k = k
above-append n (x ∷ xs) ys h k = (h.0, above-append n xs ys h.1 k)

pub above_less : (m n : ℕ) (xs : List ℕ) → m ≤ n → AreAbove n xs → AreAbove m xs
above_less m n [] le h = tt
above_less m n (x ∷ xs) le h = let here = h.0 in (omega arith, above_less m n xs le h.1)

abbrev pub head_of : ℕ → List ℕ → ℕ
head_of d [] = d
head_of d (x ∷ xs) = x

abbrev pub tail_of : List ℕ → List ℕ
tail_of [] = []
tail_of (x ∷ xs) = xs

pub above_free : (s : ℕ) (xs : List ℕ) → AreAbove s xs → IsFreeOf s xs
above_free s [] h = tt
above_free s (x ∷ xs) h = let up = h.0 in ((λ e. omega arith), above_free s xs h.1)

-- a byte that stands in neither part ends both at one place
pub free_parts : (s : ℕ) (xs ys u v : List ℕ) → IsFreeOf s xs → IsFreeOf s ys → xs ++ s ∷ u ≡ ys ++ s ∷ v → (xs ≡ ys) × (u ≡ v)
free_parts s [] [] u v h k e = (refl, ap tail_of e)
free_parts s [] (y ∷ ys) u v h k e = absurd (k.0 (sym (ap (head_of 0) e)))
free_parts s (x ∷ xs) [] u v h k e = absurd (h.0 (ap (head_of 0) e))
free_parts s (x ∷ xs) (y ∷ ys) u v h k e =
    let at : x ≡ y = ap (head_of 0) e in
    let rest = free_parts s xs ys u v h.1 k.1 (ap tail_of e) in
    (ap (λ z. z ∷ xs) at ∙ ap (λ zs. y ∷ zs) rest.0, rest.1)

pub same_parts : (s : ℕ) (xs ys u v : List ℕ) → AreAbove s xs → AreAbove s ys → xs ++ s ∷ u ≡ ys ++ s ∷ v → (xs ≡ ys) × (u ≡ v)
same_parts s xs ys u v h k e = free_parts s xs ys u v (above_free s xs h) (above_free s ys k) e

-- lines without line feeds
abbrev pub AreLines : List (List ℕ) → Type 0
AreLines lines = AllByRecursion (AreAbove 10) lines

-- the first line of a text
pub first_ended : (line : List ℕ) (lines : List (List ℕ)) (rest : List ℕ) → text_of (line ∷ lines) ++ rest ≡ line ++ 10 ∷ (text_of lines ++ rest)
first_ended line lines rest = append_assoc (line ++ 10 ∷ []) (text_of lines) rest ∙ append_assoc line (10 ∷ []) (text_of lines ++ rest)

no_end : (line u : List ℕ) → line ++ 10 ∷ u ≢ []
no_end [] u e = let n : suc (length u) ≡ 0 = ap length e in absurd (omega arith)
no_end (x ∷ xs) u e = let n : suc (length (xs ++ 10 ∷ u)) ≡ 0 = ap length e in absurd (omega arith)

-- bytes that begin with some lines, and with no fewer, begin with the same ones
pub common_lines : (ls ms : List (List ℕ)) (r s : List ℕ) → AreLines ls → AreLines ms → text_of ls ++ r ≡ text_of ms ++ s → length ls ≤ length ms →
    (more : List (List ℕ)) × (ms ≡ ls ++ more) × (r ≡ text_of more ++ s)
common_lines [] ms r s h k e le = (ms, refl, e)
common_lines (l ∷ ls) [] r s h k e le = absurd (omega arith)
common_lines (l ∷ ls) (m ∷ ms) r s h k e le =
    let both = same_parts 10 l m _ _ h.0 k.0 (sym (first_ended l ls r) ∙ e ∙ first_ended m ms s) in
    let rest = common_lines ls ms r s h.1 k.1 both.1 (omega arith) in
    (rest.0, ap (λ z. z ∷ ms) (sym both.0) ∙ ap (λ zs. l ∷ zs) rest.1, rest.2)

-- texts of the same lines have the same lines
pub same_lines : (ls ms : List (List ℕ)) → AreLines ls → AreLines ms → text_of ls ≡ text_of ms → ls ≡ ms
same_lines [] [] h k e = refl
same_lines [] (m ∷ ms) h k e = absurd (no_end m (text_of ms) (sym (append_assoc m (10 ∷ []) (text_of ms)) ∙ sym e))
same_lines (l ∷ ls) [] h k e = absurd (no_end l (text_of ls) (sym (append_assoc l (10 ∷ []) (text_of ls)) ∙ e))
same_lines (l ∷ ls) (m ∷ ms) h k e =
    let both = same_parts 10 l m _ _ h.0 k.0 (sym (append_assoc l (10 ∷ []) (text_of ls)) ∙ e ∙ append_assoc m (10 ∷ []) (text_of ms)) in
    ap (λ z. z ∷ ls) both.0 ∙ ap (λ zs. m ∷ zs) (same_lines ls ms h.1 k.1 both.1)
