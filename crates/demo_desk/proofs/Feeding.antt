-- A text that is fed line by line.
use Rattle.std.proofs.Common.{◌≡◌, ℕ, ◌<◌, true, false, ◌==◌, List, [], ◌∷◌, ◌++◌, take, drop, length, ap, sym, ◌∙◌, arith, append_assoc, append-nil, inl}
use Rattle.std.specs.Prelude.{Result, Ok, Err, IsErrAnd}
use Rattle.std.proofs.lemmas.Bool.{eqb-true}
use Rattle.std.proofs.lemmas.List.{take-append-drop}
use Rattle.file_rows.specs.Reading.{IsUnlessMemory}
use Rattle.file_rows.specs.declared.fault.FileFault.{FileFault}
use Rattle.file_rows.specs.declared.fault.FileFault.TheVariants.{Memory}

-- memory ran out
pub ran_out : {A : Type 0} (r wanted : Result A FileFault) → IsErrAnd r (λ e. e ≡ Memory) → IsUnlessMemory r wanted
ran_out (Ok x) wanted is = absurd is
ran_out (Err e) wanted is = inl (ap Err is)

-- a text that is left has a line
pub is_left : (rest : List ℕ) → false ≡ (length rest == 0) → 0 < length rest
is_left [] e = absurd (cc)
is_left (x ∷ rest) e = omega arith

-- one line more was fed
pub fed_line : (fed rest text line later more : List ℕ) (n : ℕ) → fed ++ rest ≡ text → line ≡ take n rest → later ≡ drop n rest → more ≡ fed ++ line → more ++ later ≡ text
fed_line fed rest text line later more n whole front back is =
    ap (λ xs. xs ++ later) is ∙ append_assoc fed line later ∙ ap (λ xs. fed ++ (xs ++ later)) front ∙ ap (λ xs. fed ++ (take n rest ++ xs)) back ∙ ap (λ xs. fed ++ xs) (take-append-drop n rest) ∙ whole

-- no line is left
pub fed_whole : (fed rest text : List ℕ) → true ≡ (length rest == 0) → fed ++ rest ≡ text → fed ≡ text
fed_whole fed [] text e whole = sym (append-nil fed) ∙ whole
fed_whole fed (x ∷ rest) text e whole = let none : length (x ∷ rest) ≡ 0 = eqb-true (length (x ∷ rest)) 0 (sym e) in absurd (omega (arith, none))
