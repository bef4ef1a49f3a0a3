-- At places of the commonest kinds no line shows two parts, and no line has a line feed.
use Rattle.std.proofs.Common.{◌≡◌, ℕ, ◌<◌, ◌^◌, List, ◌∷◌, ◌++◌, ap, sym, ◌∙◌, refl, true, arith, append_assoc, ℤ}
use Rattle.std.specs.Prelude.{decimal}
use Rattle.std.specs.Fmt.{signed_decimal}
use Rattle.std.proofs.lemmas.Fmt.{decimal_injective}
use Rattle.std.proofs.lemmas.List.{append_cancel_left}
use Rattle.desk_model.specs.Name.{is_name}
use Rattle.line_forms.specs.Places.{count_line, fixed_place, name_place, later_name_place, number_place, name_and_count_place}
use Rattle.line_forms.proofs.Cuts.{AreAbove, above-append, above_less}
use Rattle.line_forms.proofs.Forms.{IsPlain}
use Rattle.line_forms.proofs.Shown.{decimal_above, signed_above, name_above, named_one}

pub name_in_line : (name : List ℕ) → is_name name ≡ true → AreAbove 10 name
name_in_line name h = above_less 10 32 name (omega arith) (name_above name h)

pub decimal_in_line : (n : ℕ) → AreAbove 10 (decimal n)
decimal_in_line n = above_less 10 47 (decimal n) (omega arith) (decimal_above n)

pub signed_in_line : (z : ℤ) → AreAbove 10 (signed_decimal z)
signed_in_line z = above_less 10 32 (signed_decimal z) (omega arith) (signed_above z)

-- a word, a name and a number
pub count_in_line : (word name : List ℕ) (n : ℕ) → AreAbove 10 word → is_name name ≡ true → AreAbove 10 (count_line word name n)
count_in_line word name n w h = above-append 10 (word ++ name) (32 ∷ decimal n) (above-append 10 word name w (name_in_line name h)) (omega arith, decimal_in_line n)

pub fixed_plain : (text : List ℕ) → AreAbove 10 text → IsPlain (fixed_place text)
fixed_plain text h = ((λ p q fp fq e. refl), (λ p fp. h), (λ p fp. tt))

module _ (word : List ℕ) (h : AreAbove 10 word) where
  pub name_plain : IsPlain (name_place word)
  name_plain = ((λ p q fp fq e. append_cancel_left word p q e), (λ p fp. above-append 10 word p h (name_in_line p fp)), (λ p fp. tt))

  pub later_name_plain : (before : List ℕ) → IsPlain (later_name_place word before)
  later_name_plain before = ((λ p q fp fq e. append_cancel_left word p q e), (λ p fp. above-append 10 word p h (name_in_line p fp.0)), (λ p fp. tt))

  module _ (Fits : ℕ → Type 0) (few : (n : ℕ) → Fits n → n < 10 ^ 19) where
    one_number : (m n : ℕ) → Fits m → Fits n → decimal m ≡ decimal n → m ≡ n
    one_number m n hm hn e =
        let fm = few m hm in
        let fn' = few n hn in decimal_injective m n (omega arith) (omega arith) e

    pub number_plain : IsPlain (number_place word Fits)
    number_plain = (
      (λ m n hm hn e. one_number m n hm hn (append_cancel_left word (decimal m) (decimal n) e)),
      (λ n hn. above-append 10 word (decimal n) h (decimal_in_line n)),
      (λ n hn. tt),
    )

    pub name_and_count_plain : (before : List ℕ) → IsPlain (name_and_count_place word Fits before)
    name_and_count_plain before = (
      (λ p q fp fq e.
          let line = sym (append_assoc word p.0 (32 ∷ decimal p.1)) ∙ e ∙ append_assoc word q.0 (32 ∷ decimal q.1) in
          let parts = named_one p.0 q.0 (decimal p.1) (decimal q.1) fp.0.0 fq.0.0 (append_cancel_left word (p.0 ++ 32 ∷ decimal p.1) (q.0 ++ 32 ∷ decimal q.1) line) in
          ap (λ z. (z, p.1)) parts.0 ∙ ap (λ z. (q.0, z)) (one_number p.1 q.1 fp.1 fq.1 parts.1)),
      (λ p fp. count_in_line word p.0 p.1 h fp.0.0),
      (λ p fp. tt),
    )
