-- Faults that are looked for one after the other.
use Rattle.std.proofs.Common.{◌≡◌, ℕ, List, [], ◌∷◌, true, false, cond, refl, ap, sym, ◌∙◌, inl, inr, ◌⊎◌}
use Rattle.std.specs.Prelude.{Bool, Option, Some, None, option_map, is_some, Result, Ok, Err, OnOk}
use Rattle.std.specs.Result.{result_map_both}
use Rattle.file_rows.specs.declared.fault.LineFault.{LineFault}
use Rattle.file_rows.specs.declared.fault.FileFault.{FileFault}
use Rattle.file_rows.specs.declared.fault.FileFault.TheVariants.{Line, Memory}
use Rattle.file_rows.specs.Reading.{unless, checked, and_then}

pub is_some-from : {A B : Type 0} (o : Option A) (f : A → B) (x : B) → Some x ≡ option_map f o → is_some o ≡ true
is_some-from None f x e = absurd (cc)
is_some-from (Some y) f x e = refl

pub is_none-from : {A B : Type 0} (o : Option A) (f : A → B) → None ≡ option_map f o → is_some o ≡ false
is_none-from None f e = refl
is_none-from (Some y) f e = absurd (cc)

-- the faults do not depend on what is wanted where there is none
pub unless-ok : {A B F : Type 0} (tests : List (Bool × F)) (a b : A) (c : B) → unless tests a ≡ Ok b → unless tests c ≡ Ok c
unless-ok [] a b c e = refl
unless-ok {F} (t ∷ tests) a b c e = by t.0 (unless-ok tests a b c) e
  where
    by : (d : Bool) → (unless tests a ≡ Ok b → unless tests c ≡ Ok c) → cond d (Err t.1) (unless tests a) ≡ Ok b → cond d (Err t.1) (unless tests c) ≡ Ok c
    by true rest e = absurd (cc)
    by false rest e = rest e

pub unless-err : {A B F : Type 0} (tests : List (Bool × F)) (a : A) (c : B) (fault : F) → unless tests a ≡ Err fault → unless tests c ≡ Err fault
unless-err [] a c fault e = absurd (cc)
unless-err (t ∷ tests) a c fault e = by t.0 (unless-err tests a c fault) e
  where
    by : (d : Bool) → (unless tests a ≡ Err fault → unless tests c ≡ Err fault) → cond d (Err t.1) (unless tests a) ≡ Err fault → cond d (Err t.1) (unless tests c) ≡ Err fault
    by true rest e = (let k : t.1 ≡ fault = cc in ap Err k)
    by false rest e = rest e

-- no test holds
abbrev pub NoneHolds : {F : Type 0} → List (Bool × F) → Type 0
NoneHolds [] = Unit {0}
NoneHolds (t ∷ tests) = (t.0 ≡ false) × NoneHolds tests

-- where nothing is wrong no test holds
pub none_holds : {A F : Type 0} (tests : List (Bool × F)) (a b : A) → unless tests a ≡ Ok b → NoneHolds tests
none_holds [] a b e = tt
none_holds (t ∷ tests) a b e = by (none_holds tests a b) t.0 refl e
  where
    by : (unless tests a ≡ Ok b → NoneHolds tests) → (d : Bool) → t.0 ≡ d → cond d (Err t.1) (unless tests a) ≡ Ok b → (t.0 ≡ false) × NoneHolds tests
    by rest true f e = absurd (cc)
    by rest false f e = (f, rest e)

-- what is read of a line with a row: the row, or the first of its faults
module _ {R : Type 0} (number : ℕ) (row : R) (tests : List (Bool × LineFault)) (read : Result (Option R) FileFault) (is : read ≡ result_map_both (λ row. row) (Line number) (unless tests (Some row))) where
  pub read_whole : checked tests ≡ Ok (tt {0}) → read ≡ Ok (Some row)
  read_whole right = is ∙ ap (result_map_both (λ row. row) (Line number)) (unless-ok tests (tt {0}) (tt {0}) (Some row) right)

  pub read_refused : (e : FileFault) → (e ≡ Memory) ⊎ ((fault : LineFault) × (checked tests ≡ Err fault) × (e ≡ Line number fault)) → (e ≡ Memory) ⊎ (read ≡ Err e)
  read_refused e (inl w) = inl w
  read_refused e (inr w) = inr (is ∙ ap (result_map_both (λ row. row) (Line number)) (unless-err tests (tt {0}) (Some row) w.0 w.1) ∙ ap Err (sym w.2))

pub on_ok : {A E P Q : Type 0} (r : Result A E) → (P → Q) → OnOk r P → OnOk r Q
on_ok (Ok a) f p = f p
on_ok (Err e) f p = tt

-- a mapped answer
pub mapped : {A F G : Type 0} (f : F → G) (r : Result A F) (a : A) → result_map_both (λ x. x) f r ≡ Ok a → r ≡ Ok a
mapped f (Ok x) a e = (let k : x ≡ a = cc in ap Ok k)
mapped f (Err x) a e = absurd (cc)

-- a value that is made of another
pub record Made {A B F : Type 0} (r : Result A F) (next : A → Result B F) (b : B) : Type 0 where
  pub value : A
  pub found : r ≡ Ok value
  pub made : next value ≡ Ok b

pub parted : {A B F : Type 0} (r : Result A F) (next : A → Result B F) (b : B) → and_then r next ≡ Ok b → Made r next b
parted (Ok a) next b e = record { value = a; found = refl; made = e }
parted (Err x) next b e = absurd (cc)

-- the value where no test holds
pub last : {A F : Type 0} (tests : List (Bool × F)) (a b : A) → unless tests a ≡ Ok b → a ≡ b
last [] a b e = cc
last (t ∷ tests) a b e = by (last tests a b) t.0 e
  where
    by : (unless tests a ≡ Ok b → a ≡ b) → (d : Bool) → cond d (Err t.1) (unless tests a) ≡ Ok b → a ≡ b
    by rest true e = absurd (cc)
    by rest false e = rest e
