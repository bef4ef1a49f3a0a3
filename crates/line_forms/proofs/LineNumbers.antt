-- The number of a line is one more than the line feeds before it.
use Rattle.std.proofs.Common.{◌≡◌, ◌≢◌, ℕ, suc, ◌+◌, ◌-◌, ◌<◌, List, [], ◌∷◌, ◌++◌, length, take, refl, ap, sym, subst, cond, ◌∙◌, ◌≤◌, arith, append-nil, append_assoc, length-append, false, inl, inr}
use Rattle.std.specs.Prelude.{count_by, ◌==◌}
use Rattle.std.proofs.lemmas.List.{take-append-le, take_all}
use Rattle.std.proofs.lemmas.List.Sums.{sum_by-cons}
use Rattle.std.proofs.lemmas.Bool.Decides.{eqb_tells}
use Rattle.line_forms.specs.Form.{Form, IsFirstBad, IsTextIn, text_of}
use Rattle.line_forms.specs.Reading.{BeginsWith, FailsAt}
use Rattle.line_forms.proofs.Cuts.{AreAbove, AreLines}
use Rattle.line_forms.proofs.Failing.{first_bad, bad_after}
use Rattle.line_forms.proofs.Forms.{IsPlain, stands_lines, spelled_stands}

abbrev feeds : List ℕ → ℕ
feeds bytes = count_by (λ b. b == 10) bytes

no_feed : (b : ℕ) → 10 < b → (b == 10) ≡ false
no_feed b lt = elim (eqb_tells b 10) [ inl is ↦ let same = is.1 in absurd (omega arith) | inr not ↦ not.0 ]

abbrev is_feed : ℕ → ℕ
is_feed b = cond (b == 10) 1 0

one_feed : (line rest : List ℕ) → AreAbove 10 line → feeds (line ++ 10 ∷ rest) ≡ suc (feeds rest)
one_feed [] rest h = let more : feeds (10 ∷ rest) ≡ 1 + feeds rest = sum_by-cons is_feed 10 rest in omega arith
one_feed (b ∷ bs) rest h =
    let more : feeds (b ∷ (bs ++ 10 ∷ rest)) ≡ is_feed b + feeds (bs ++ 10 ∷ rest) = sum_by-cons is_feed b (bs ++ 10 ∷ rest) in
    let none : is_feed b ≡ 0 = ap (λ t. cond t 1 0) (no_feed b h.0) in
    let later : feeds (bs ++ 10 ∷ rest) ≡ suc (feeds rest) = one_feed bs rest h.1 in
    let sum : is_feed b + feeds (bs ++ 10 ∷ rest) ≡ suc (feeds rest) = omega (arith, none, later) in
    more ∙ sum

feeds_of_text : (lines : List (List ℕ)) → AreLines lines → feeds (text_of lines) ≡ length lines
feeds_of_text [] h = refl
feeds_of_text (line ∷ lines) h =
    let cut : text_of (line ∷ lines) ≡ line ++ 10 ∷ text_of lines = append_assoc line (10 ∷ []) (text_of lines) in
    ap feeds cut ∙ one_feed line (text_of lines) h.0 ∙ ap suc (feeds_of_text lines h.1)

before_last : (bytes text last : List ℕ) → bytes ≡ text ++ last → take (length bytes - length last) bytes ≡ text
before_last bytes text last e =
    let size : length bytes - length last ≡ length text = omega (arith, ap length e, length-append text last) in
    ap (λ n. take n bytes) size ∙ ap (take (length text)) e ∙ take-append-le (length text) text last (omega arith) ∙ take_all (length text) text (omega arith)

pub not_longer : (bytes text last : List ℕ) → bytes ≡ text ++ last → length last ≤ length bytes
not_longer bytes text last e = omega (arith, ap length e, length-append text last)

number_is : (bytes last : List ℕ) (lines : List (List ℕ)) (n : ℕ) → bytes ≡ text_of lines ++ last → AreLines lines → n ≡ count_by (λ b. b == 10) (take (length bytes - length last) bytes) + 1 → n ≡ suc (length lines)
number_is bytes last lines n e are is =
    let count : feeds (take (length bytes - length last) bytes) ≡ length lines = ap feeds (before_last bytes (text_of lines) last e) ∙ feeds_of_text lines are in
    omega arith

module _ {X : Type 0} (form : Form X) (plain : IsPlain form) (bytes : List ℕ) where
  -- where the reading fails is the first bad line
  pub bad_line : (last : List ℕ) (n : ℕ) → FailsAt form bytes last → n ≡ count_by (λ b. b == 10) (take (length bytes - length last) bytes) + 1 → IsFirstBad form bytes n
  bad_line last n h is = subst (IsFirstBad form bytes) (sym (number_is bytes last h.before n h.split (stands_lines form h.before plain h.stand) is)) (first_bad form bytes last h)

  -- so is what follows the last line
  pub line_after : (rest : List ℕ) (x : X) (n : ℕ) → BeginsWith form bytes x rest → rest ≢ [] → n ≡ count_by (λ b. b == 10) (take (length bytes - length rest) bytes) + 1 → IsFirstBad form bytes n
  line_after rest x n h some is =
      subst (IsFirstBad form bytes) (sym (number_is bytes rest h.lines n h.split (stands_lines form h.lines plain (spelled_stands form h.lines x h.spells)) is)) (bad_after form bytes rest x plain h some)

-- where nothing is left, the bytes are the text
pub whole_text : {X : Type 0} (form : Form X) (bytes rest : List ℕ) (x : X) → BeginsWith form bytes x rest → rest ≡ [] → IsTextIn form bytes x
whole_text form bytes rest x h e = (h.lines, h.split ∙ ap (λ z. text_of h.lines ++ z) e ∙ append-nil (text_of h.lines), h.spells)
