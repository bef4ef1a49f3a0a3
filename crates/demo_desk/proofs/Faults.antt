-- Faults that do not come.
use Rattle.std.proofs.Common.{◌≡◌, ℕ, ◌+◌, ◌≤◌, List, [], ◌∷◌, ap, sym, ◌∙◌, arith, inl, inr}
use Rattle.std.specs.Prelude.{map, None, Result, Ok, Err, is_ok, decimal}
use Rattle.std.specs.Result.{IsOk}
use Rattle.std.specs.List.{range_with_len}
use Rattle.std.proofs.lemmas.Fmt.{decimal_digit}
use Rattle.file_rows.specs.Reading.{IsUnlessMemory}
use Rattle.file_rows.specs.declared.fault.FileFault.{FileFault}
use Rattle.file_rows.specs.declared.fault.FileFault.TheVariants.{Memory}
use Rattle.topics_pool.specs.Rows.{first_repeated}
use Rattle.demo_desk.specs.Texts.{tag_text}

-- where there is a value, memory alone may run out
pub only_memory : {A : Type 0} (fault : FileFault) (wanted : Result A FileFault) → IsUnlessMemory (Err fault) wanted → IsOk wanted → fault ≡ Memory
only_memory fault (Ok a) (inl e) ok = cc
only_memory fault (Ok a) (inr e) ok = absurd (cc)
only_memory fault (Err f) h ok = absurd (cc)

pub is_ok-from : {A : Type 0} (wanted : Result A FileFault) (a : A) → wanted ≡ Ok a → IsOk wanted
is_ok-from wanted a e = ap is_ok e

-- the value that was read
pub read_value : {A : Type 0} (a : A) (wanted : Result A FileFault) → IsUnlessMemory (Ok a) wanted → wanted ≡ Ok a
read_value a wanted (inl e) = absurd (cc)
read_value a wanted (inr e) = sym e

-- the names of the eight runs
names_are : map tag_text (range_with_len 0 8) ≡ (83 ∷ 49 ∷ []) ∷ (83 ∷ 50 ∷ []) ∷ (83 ∷ 51 ∷ []) ∷ (83 ∷ 52 ∷ []) ∷ (83 ∷ 53 ∷ []) ∷ (83 ∷ 54 ∷ []) ∷ (83 ∷ 55 ∷ []) ∷ (83 ∷ 56 ∷ []) ∷ []
names_are =
    let digit : (n : ℕ) → n ≤ 9 → decimal n ≡ (48 + n) ∷ [] = λ n h. decimal_digit n (omega arith) in
    λ i. (83 ∷ digit 1 (omega arith) i) ∷ (83 ∷ digit 2 (omega arith) i) ∷ (83 ∷ digit 3 (omega arith) i) ∷ (83 ∷ digit 4 (omega arith) i) ∷ (83 ∷ digit 5 (omega arith) i) ∷ (83 ∷ digit 6 (omega arith) i) ∷ (83 ∷ digit 7 (omega arith) i)
    ∷ (83 ∷ digit 8 (omega arith) i) ∷ []

-- differ
pub none_repeated : (names : List (List ℕ)) → names ≡ map tag_text (range_with_len 0 8) → first_repeated names ≡ None
none_repeated names e = ap first_repeated (e ∙ names_are)
