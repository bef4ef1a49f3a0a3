-- Bytes are the text of a value or have a first bad line.
use Rattle.std.proofs.Common.{◌≡◌, ◌≢◌, ℕ, List, [], ◌∷◌, ◌++◌, refl, ap, sym, subst, ◌∙◌, ◌⊎◌, inl, inr, append_assoc}
use Rattle.line_forms.specs.Form.{Form, Whole, Line, Spells, CanStand, IsFirstBad, IsTextIn, ended, text_of}
use Rattle.line_forms.specs.Reading.{BeginsWith, FailsAt}
use Rattle.line_forms.proofs.Cuts.{above_free}
use Rattle.line_forms.proofs.Forms.{IsPlain}
use Rattle.line_forms.proofs.EachPlace.{Fact, AtEach}
use Rattle.line_forms.proofs.Failing.{line_fails, line_missing, first_bad, bad_after}
use Rattle.line_forms.proofs.LineNumbers.{whole_text}
use Rattle.line_forms.proofs.Tested.{Found, cut_known}

-- whether a line shows a part that fits a place is known of each line
abbrev pub AreTested : Fact
AreTested P show Fits = (line : List ℕ) → Found show Fits line

-- bytes begin with a value, or fail somewhere
abbrev Either : {X : Type 0} → Form X → List ℕ → Type 0
Either {X} form bytes = ((x : X) × (rest : List ℕ) × BeginsWith form bytes x rest) ⊎ ((last : List ℕ) × FailsAt form bytes last)

module _ {P X : Type 0} (show : P → List ℕ) (Fits : P → Type 0) (next : P → Form X) (plain : IsPlain (Line show Fits next)) (p : P) (fits : Fits p) (bytes line more : List ℕ) (is : line ≡ show p) (cut : bytes ≡ ended line ++ more) where
  after_line : (lines : List (List ℕ)) (last : List ℕ) → more ≡ text_of lines ++ last → bytes ≡ text_of (line ∷ lines) ++ last
  after_line lines last e = cut ∙ ap (λ z. ended line ++ z) e ∙ sym (append_assoc (ended line) (text_of lines) last)

  line_begins : (x : X) (rest : List ℕ) → BeginsWith (next p) more x rest → BeginsWith (Line show Fits next) bytes x rest
  line_begins x rest h = record { lines = line ∷ h.lines; split = after_line h.lines rest h.split; spells = (p, fits, is, h.spells) }

  later_fails : (last : List ℕ) → FailsAt (next p) more last → FailsAt (Line show Fits next) bytes last
  later_fails last h = record {
    before = line ∷ h.before;
    split = after_line h.before last h.split;
    stand = (p, fits, is, h.stand);
    fails = λ l rest e s. h.fails l rest e (subst (λ q. CanStand (next q) (h.before ++ l ∷ [])) (sym (plain.0 p s.0 fits s.1 (sym is ∙ s.2))) s.3);
    unfinished = λ x s. h.unfinished x (subst (λ q. Spells (next q) h.before x) (sym (plain.0 p s.0 fits s.1 (sym is ∙ s.2))) s.3);
  }

decide : {X : Type 0} (form : Form X) → IsPlain form → AtEach AreTested form → (bytes : List ℕ) → Either form bytes
decide (Whole x) plain tested bytes = inl (x, bytes, record { lines = []; split = refl; spells = refl })
decide (Line show Fits next) plain tested bytes = elim (cut_known 10 bytes) [
  | inl h ↦
      let cut : bytes ≡ ended h.0 ++ h.1 = h.3 ∙ sym (append_assoc h.0 (10 ∷ []) h.1) in
      elim (tested.0 h.0) [
        | inl k ↦ elim (decide (next k.0) (plain.2 k.0 k.1) (tested.1 k.0 k.1) h.1) [
          | inl b ↦ inl (b.0, b.1, line_begins show Fits next plain k.0 k.1 bytes h.0 h.1 k.2 cut b.0 b.1 b.2)
          | inr f ↦ inr (f.0, later_fails show Fits next plain k.0 k.1 bytes h.0 h.1 k.2 cut f.0 f.1)
        ]
        | inr never ↦ inr (bytes, line_fails show Fits next bytes h.0 h.1 (λ p fits. above_free 10 (show p) (plain.1 p fits)) cut h.2 never)
      ]
  | inr never ↦ inr (bytes, line_missing show Fits next bytes (λ line more e. never line more (e ∙ append_assoc line (10 ∷ []) more)))
]

rest_known : (rest : List ℕ) → (rest ≡ []) ⊎ (rest ≢ [])
rest_known [] = inl refl
rest_known (b ∷ bs) = inr (λ e. cc)

-- bytes are the text of a value or have a first bad line
pub text_or_bad : {X : Type 0} (form : Form X) → IsPlain form → AtEach AreTested form → (bytes : List ℕ) → ((x : X) × IsTextIn form bytes x) ⊎ ((n : ℕ) × IsFirstBad form bytes n)
text_or_bad form plain tested bytes = elim (decide form plain tested bytes) [
  | inl h ↦ elim (rest_known h.1) [
    | inl none ↦ inl (h.0, whole_text form bytes h.1 h.0 h.2 none)
    | inr some ↦ inr (_, bad_after form bytes h.1 h.0 plain h.2 some)
  ]
  | inr f ↦ inr (_, first_bad form bytes f.0 f.1)
]
