-- A text that is cut anywhere.
use Rattle.std.proofs.Common.{◌≡◌, ℕ, ◌+◌, Bool, true, false, cond, List, [], ◌∷◌, ◌++◌, length, refl, sym, ap, ◌∙◌}
use Rattle.std.specs.Prelude.{◌==◌, ◌||◌, Option, Result}
use Rattle.desk_text.specs.Lines.{lines, whole_lines, onto_first, onto_whole, unended, has_line_feed}
use Rattle.file_rows.specs.declared.fault.LineFault.{LineFault}
use Rattle.file_rows.specs.Reading.{and_then, rows_from, rows_of}
use Rattle.file_rows.proofs.ReadOn.{rows_from-append}

-- some line is there
abbrev some_line : List (List ℕ) → Bool
some_line [] = false
some_line (line ∷ lines) = true

-- a line feed ends a line
feed-some_line : (text : List ℕ) → has_line_feed text ≡ some_line (whole_lines text)
feed-some_line [] = refl
feed-some_line (x ∷ xs) = ap (λ feed. (x == 10) || feed) (feed-some_line xs) ∙ by (x == 10) (whole_lines xs)
  where
    by : (b : Bool) (ls : List (List ℕ)) → (b || some_line ls) ≡ some_line (cond b ([] ∷ ls) (onto_whole x ls))
    by true ls = refl
    by false [] = refl
    by false (l ∷ ls) = refl

-- bytes without a line feed are all left
unended-all : (text : List ℕ) → has_line_feed text ≡ false → unended text ≡ text
unended-all [] e = refl
unended-all (x ∷ xs) e = ap (λ b. cond b (unended xs) (x ∷ xs)) e

pub lines-cut : (before after : List ℕ) → lines (before ++ after) ≡ whole_lines before ++ lines (unended before ++ after)
lines-cut [] after = refl
lines-cut (x ∷ xs) after =
    ap (λ ls. cond (x == 10) ([] ∷ ls) (onto_first x ls)) (lines-cut xs after) ∙ by (x == 10) refl (whole_lines xs) (has_line_feed xs) (feed-some_line xs) (unended-all xs)
  where
    by : (b : Bool) → (x == 10) ≡ b → (ls : List (List ℕ)) (feed : Bool) → feed ≡ some_line ls → (feed ≡ false → unended xs ≡ xs)
        → cond b ([] ∷ (ls ++ lines (unended xs ++ after))) (onto_first x (ls ++ lines (unended xs ++ after))) ≡ cond b ([] ∷ ls) (onto_whole x ls) ++ lines (cond (b || feed) (unended xs) (x ∷ xs) ++ after)
    by true p ls feed e all = refl
    by false p [] true e all = absurd (cc)
    by false p [] false e all =
        ap (λ bs. onto_first x (lines (bs ++ after))) (all refl) ∙ sym (ap (λ b. cond b ([] ∷ lines (xs ++ after)) (onto_first x (lines (xs ++ after)))) p)
    by false p (l ∷ ls) true e all = refl
    by false p (l ∷ ls) false e all = absurd (cc)

pub rows_of-cut : {R : Type 0} (read : List R → List ℕ → Result (Option R) LineFault) (before after : List ℕ) → rows_of read (before ++ after) ≡ and_then (rows_from read 1 [] (whole_lines before)) (λ rows. rows_from read (1 + length (whole_lines before)) rows (lines (unended before ++ after)))
rows_of-cut read before after = ap (rows_from read 1 []) (lines-cut before after) ∙ rows_from-append read 1 [] (whole_lines before) (lines (unended before ++ after))
