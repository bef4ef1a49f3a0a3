-- What is heard of a line.
use Rattle.std.proofs.Common.{◌≡◌, ◌<◌, ◌≤◌, ℕ, ◌+◌, List, [], ◌∷◌, length, true, false, Some, None, cond, refl, sym, ap, subst, ◌∙◌, arith}
use Rattle.std.specs.Prelude.{Bool, not, Option, option_map, position, ◌||◌, nat_lt, nat_le, filter}
use Rattle.std.specs.List.{list_any, list_all, position_or_len}
use Rattle.std.proofs.lemmas.Bool.{and_parts, le-ltb, lt-ltb, ltb-true, ltb-false, leb-true}
use Rattle.desk_text.proofs.Pieces.{no_position}
use Rattle.desk_text.specs.Lines.{is_blank, is_bad, is_separator, is_filled, onto_first, pieces, fields_of}
use Rattle.desk_text.specs.declared.line.TheConstants.{LONGEST_LINE}
use Rattle.judge_session.specs.Request.{Request, Heard, Blank, TooLong, Bad, Asked, request_of, heard_request, heard_of}
use Rattle.judge_session.specs.Forms.{AreFieldsOf, IsFormOf, IsHeardWithin}
use Rattle.judge_session.proofs.Forms.{asked_is_formed, formed_is_asked, form_has_a_field}

-- a bad byte has a place, and with no place there is none
pub bad_there : {A : Type 0} (line : List ℕ) (f : ℕ → A) (a : A) → Some a ≡ option_map f (position is_bad line) → list_any is_bad line ≡ true
bad_there line f a e = by (list_any is_bad line) refl
  where
    by : (bad : Bool) → list_any is_bad line ≡ bad → list_any is_bad line ≡ true
    by true b = b
    by false b = let no : Some a ≡ None = e ∙ ap (option_map f) (no_position is_bad line b) in absurd (cc)

some_passes : (test : ℕ → Bool) (xs : List ℕ) → list_any test xs ≡ true → position_or_len test xs < length xs
some_passes test [] e = absurd (cc)
some_passes test (x ∷ xs) e = by (test x) (some_passes test xs) e
  where
    by : (b : Bool) → (list_any test xs ≡ true → position_or_len test xs < length xs) → (b || list_any test xs) ≡ true → cond (not b) (1 + position_or_len test xs) 0 < length (x ∷ xs)
    by true rest e = omega arith
    by false rest e = let less = rest e in omega arith

none_passes : (test : ℕ → Bool) (xs : List ℕ) → position test xs ≡ None → list_any test xs ≡ false
none_passes test xs e = by (list_any test xs) refl
  where
    by : (b : Bool) → list_any test xs ≡ b → list_any test xs ≡ false
    by true a =
        let less = lt-ltb (position_or_len test xs) (length xs) (some_passes test xs a) in
        let no : Some (position_or_len test xs) ≡ None = ap (λ b. cond b (Some (position_or_len test xs)) None) (sym less) ∙ e in
        absurd (cc)
    by false a = a

pub no_bad : {A : Type 0} (line : List ℕ) (f : ℕ → A) → None ≡ option_map f (position is_bad line) → list_any is_bad line ≡ false
no_bad line f e = by (position is_bad line) refl e
  where
    by : (place : Option ℕ) → position is_bad line ≡ place → None ≡ option_map f place → list_any is_bad line ≡ false
    by None p e = none_passes is_bad line p
    by (Some i) p e = absurd (cc)

-- what is heard, by what is the case of a line
pub heard_is : (long blank bad : Bool) (line : List ℕ) → nat_lt LONGEST_LINE (length line) ≡ long → is_blank line ≡ blank → list_any is_bad line ≡ bad
    → heard_of line ≡ cond long TooLong (cond blank Blank (cond bad Bad (heard_request (request_of (fields_of line)))))
heard_is long blank bad line l b a = λ i. cond (l i) TooLong (cond (b i) Blank (cond (a i) Bad (heard_request (request_of (fields_of line)))))

no_field : (line : List ℕ) → list_all is_separator line ≡ true → fields_of line ≡ []
no_field [] e = refl
no_field (b ∷ bs) e =
    let each = and_parts (is_separator b) (list_all is_separator bs) e in
    ap (λ t. filter is_filled (cond t ([] ∷ pieces bs) (onto_first b (pieces bs)))) each.0 ∙ no_field bs each.1

-- a line of a form is not blank
form_is_not_blank : (line : List ℕ) (request : Request) → AreFieldsOf request (fields_of line) → is_blank line ≡ true → ⊥
form_is_not_blank line request form blank =
    let none = no_field line (and_parts (nat_le (length line) LONGEST_LINE) (list_all is_separator line) blank).1 in
    form_has_a_field request (subst (AreFieldsOf request) none form)

asked_from : (asked : Option Request) (request : Request) → heard_request asked ≡ Asked request → asked ≡ Some request
asked_from None request e = absurd (cc)
asked_from (Some asked) request e = cc

pub asks : (line : List ℕ) (request : Request) → heard_of line ≡ Asked request → IsFormOf request line
asks line request e = by (nat_lt LONGEST_LINE (length line)) (is_blank line) (list_any is_bad line) refl refl refl e
  where
    by : (long blank bad : Bool) → nat_lt LONGEST_LINE (length line) ≡ long → is_blank line ≡ blank → list_any is_bad line ≡ bad
        → cond long TooLong (cond blank Blank (cond bad Bad (heard_request (request_of (fields_of line))))) ≡ Asked request → IsFormOf request line
    by true blank bad l b a e = absurd (cc)
    by false true bad l b a e = absurd (cc)
    by false false true l b a e = absurd (cc)
    by false false false l b a e =
        let formed = asked_is_formed (fields_of line) request (asked_from (request_of (fields_of line)) request e) in
        record { short = ltb-false LONGEST_LINE (length line) l; good = a; fields = formed.0; within = formed.1 }

pub asked : (line : List ℕ) (request : Request) → IsFormOf request line → heard_of line ≡ Asked request
asked line request form = by (is_blank line) refl
  where
    by : (blank : Bool) → is_blank line ≡ blank → heard_of line ≡ Asked request
    by true b = absurd (form_is_not_blank line request form.fields b)
    by false b =
        heard_is false false false line (le-ltb LONGEST_LINE (length line) form.short) b form.good
        ∙ ap heard_request (formed_is_asked (fields_of line) request (form.fields, form.within))

pub bad_from : (line : List ℕ) → heard_of line ≡ Bad → (length line ≤ LONGEST_LINE) × (is_blank line ≡ false) × ((request : Request) → ¬ (IsFormOf request line))
bad_from line e = by (nat_lt LONGEST_LINE (length line)) (is_blank line) refl refl e
  where
    by : (long blank : Bool) → nat_lt LONGEST_LINE (length line) ≡ long → is_blank line ≡ blank
        → cond long TooLong (cond blank Blank (cond (list_any is_bad line) Bad (heard_request (request_of (fields_of line))))) ≡ Bad
        → (length line ≤ LONGEST_LINE) × (is_blank line ≡ false) × ((request : Request) → ¬ (IsFormOf request line))
    by true blank l b f = absurd (cc)
    by false true l b f = absurd (cc)
    by false false l b f = (ltb-false LONGEST_LINE (length line) l, b, λ request form. let no : Bad ≡ Asked request = sym e ∙ asked line request form in cc)

pub long_from : (line : List ℕ) → heard_of line ≡ TooLong → LONGEST_LINE < length line
long_from line e = by (nat_lt LONGEST_LINE (length line)) (is_blank line) (list_any is_bad line) (request_of (fields_of line)) refl e
  where
    by : (long blank bad : Bool) (request : Option Request) → nat_lt LONGEST_LINE (length line) ≡ long → cond long TooLong (cond blank Blank (cond bad Bad (heard_request request))) ≡ TooLong → LONGEST_LINE < length line
    by true blank bad request l e = ltb-true LONGEST_LINE (length line) l
    by false true bad request l e = absurd (cc)
    by false false true request l e = absurd (cc)
    by false false false None l e = absurd (cc)
    by false false false (Some asked) l e = absurd (cc)

pub long_to : (line : List ℕ) → LONGEST_LINE < length line → heard_of line ≡ TooLong
long_to line long = ap (λ b. cond b TooLong (cond (is_blank line) Blank (cond (list_any is_bad line) Bad (heard_request (request_of (fields_of line)))))) (lt-ltb LONGEST_LINE (length line) long)

pub blank_from : (line : List ℕ) → heard_of line ≡ Blank → is_blank line ≡ true
blank_from line e = by (nat_lt LONGEST_LINE (length line)) (is_blank line) (list_any is_bad line) (request_of (fields_of line)) refl e
  where
    by : (long blank bad : Bool) (request : Option Request) → is_blank line ≡ blank → cond long TooLong (cond blank Blank (cond bad Bad (heard_request request))) ≡ Blank → is_blank line ≡ true
    by true blank bad request b e = absurd (cc)
    by false true bad request b e = b
    by false false true request b e = absurd (cc)
    by false false false None b e = absurd (cc)
    by false false false (Some asked) b e = absurd (cc)

pub blank_to : (line : List ℕ) → is_blank line ≡ true → heard_of line ≡ Blank
blank_to line blank =
    let short = leb-true (length line) LONGEST_LINE (and_parts (nat_le (length line) LONGEST_LINE) (list_all is_separator line) blank).0 in
    λ i. cond (le-ltb LONGEST_LINE (length line) short i) TooLong (cond (blank i) Blank (cond (list_any is_bad line) Bad (heard_request (request_of (fields_of line)))))

pub within : (line : List ℕ) → IsHeardWithin (heard_of line)
within line = by (heard_of line) refl
  where
    by : (heard : Heard) → heard_of line ≡ heard → IsHeardWithin heard
    by Blank e = tt
    by TooLong e = tt
    by Bad e = tt
    by (Asked request) e = (asks line request e).within

pub bad_to : (line : List ℕ) → length line ≤ LONGEST_LINE → is_blank line ≡ false → ((request : Request) → ¬ (IsFormOf request line)) → heard_of line ≡ Bad
bad_to line short filled none = by (heard_of line) refl
  where
    by : (heard : Heard) → heard_of line ≡ heard → heard_of line ≡ Bad
    by Blank e = let yes = blank_from line e in absurd (cc)
    by TooLong e = let long = long_from line e in absurd (omega arith)
    by Bad e = e
    by (Asked request) e = absurd (none request (asks line request e))
