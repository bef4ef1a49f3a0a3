-- Parts of a line.
use Rattle.std.proofs.Common.{◌≡◌, ◌≢◌, ℕ, zero, suc, ◌<◌, ◌≤◌, List, [], ◌∷◌, ◌++◌, length, get_or, take, refl, ap, sym, ◌∙◌, arith, true, false, eq-eqb, length-append, Option, Some, None, Ok, Err}
use Rattle.std.specs.Prelude.{Result, IfNone}
use Rattle.std.proofs.lemmas.List.{append_cancel_left}
use Rattle.memchr.specs.Find.{IsFirstByte, is_byte}
use Rattle.desk_model.specs.Name.{is_name}
use Rattle.desk_model.specs.declared.name.NameFault.{NameFault}
use Rattle.desk_model.specs.declared.name.NameFault.TheVariants as of_name
use Rattle.line_forms.specs.declared.lines.FormFault.{FormFault}
use Rattle.line_forms.specs.declared.lines.FormFault.TheVariants.{Bad, Memory}
use Rattle.line_forms.specs.Faults.{fault_of_name}
use Rattle.line_forms.specs.Reading.{IsFreeOf, IsPartOf}
use Rattle.line_forms.proofs.Shown.{named_one}

free_prefix : (s : ℕ) (xs : List ℕ) (n : ℕ) → n ≤ length xs → ((k : ℕ) → k < n → get_or xs k 0 ≢ s) → IsFreeOf s (take n xs)
free_prefix s xs zero le h = tt
free_prefix s [] (suc n) le h = absurd (omega arith)
free_prefix s (x ∷ xs) (suc n) le h = (h 0 (omega arith), free_prefix s xs n (omega arith) (λ k lt. h (suc k) (omega arith)))

-- no such byte stands before the first
pub cut_free : (s : ℕ) (text : List ℕ) (n : ℕ) → IsFirstByte (is_byte s) text (Some n) → IsFreeOf s (take n text)
cut_free s text n h =
    let high = h.0.high in
    free_prefix s text n (omega arith) (λ k lt e. h.0.before k (omega arith) lt (eq-eqb (get_or text k 0) s e))

at_cut : (before after : List ℕ) (s : ℕ) → get_or (before ++ s ∷ after) (length before) 0 ≡ s
at_cut [] after s = refl
at_cut (b ∷ bs) after s = at_cut bs after s

-- where no byte is it, nothing is cut
pub cut_none : (s : ℕ) (text : List ℕ) → IsFirstByte (is_byte s) text None → (before after : List ℕ) → text ≢ before ++ s ∷ after
cut_none s text h before after e =
    let size = ap length e in
    let long = length-append before (s ∷ after) in
    h (length before) (omega arith) (omega arith) (eq-eqb (get_or text (length before) 0) s (ap (λ z. get_or z (length before) 0) e ∙ at_cut before after s))

pub free-append : (s : ℕ) (xs ys : List ℕ) → IsFreeOf s xs → IsFreeOf s ys → IsFreeOf s (xs ++ ys)
free-append s [] ys h k = k
free-append s (x ∷ xs) ys h k = (h.0, free-append s xs ys h.1 k)

pub weaker_none : {A : Type 0} {P Q : Type 0} (r : Option A) → (P → Q) → IfNone r P → IfNone r Q
weaker_none None f h = f h
weaker_none (Some a) f h = tt

-- what stands after a word is one text
pub after_word : (word line text more : List ℕ) → line ≡ word ++ text → line ≡ word ++ more → text ≡ more
after_word word line text more e f = append_cancel_left word text more (sym e ∙ f)

-- a word, a name and a space are cut at one place
pub one_name : (word line name text other more : List ℕ) → is_name name ≡ true → is_name other ≡ true → line ≡ word ++ (name ++ 32 ∷ text) → line ≡ word ++ (other ++ 32 ∷ more) → (name ≡ other) × (text ≡ more)
one_name word line name text other more h k e f = named_one name other text more h k (after_word word line (name ++ 32 ∷ text) (other ++ 32 ∷ more) e f)

-- a text that is no name is no name
pub not_a_name : (text name : List ℕ) → is_name name ≡ true → is_name text ≡ false → text ≢ name
not_a_name text name named none e = let no : true ≡ false = sym named ∙ ap is_name (sym e) ∙ none in cc

-- a part after a word
pub part_after : (word text line : List ℕ) (Fits : List ℕ → Type 0) (r : Result (List ℕ) FormFault) → line ≡ word ++ text → IsPartOf (λ name. name) Fits text r → IsPartOf (λ name. word ++ name) Fits line r
part_after word text line Fits (Ok p) e h = (h.0, e ∙ ap (λ z. word ++ z) h.1)
part_after word text line Fits (Err Bad) e h = λ p fits f. h p fits (after_word word line text p e f)
part_after word text line Fits (Err Memory) e h = tt

-- why what stands after a word is no name
pub no_name_after : (word line text : List ℕ) (e : NameFault) → line ≡ word ++ text → (e ≡ of_name.BadName → is_name text ≡ false) → IsPartOf (λ name. word ++ name) (λ name. is_name name ≡ true) line (Err (fault_of_name e))
no_name_after word line text of_name.BadName e bad = λ name named f. not_a_name text name named (bad refl) (after_word word line text name e f)
no_name_after word line text of_name.Memory e bad = tt
