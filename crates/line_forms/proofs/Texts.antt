-- Texts of a form.
use Rattle.std.proofs.Common.{◌≡◌, ℕ, List, [], ◌∷◌, ◌++◌, ap, sym, subst, ◌∙◌}
use Rattle.std.specs.List.{AllByRecursion}
use Rattle.desk_text.specs.Lines.{whole_lines, HasNoLineFeed}
use Rattle.desk_text.proofs.WholeLines.{whole_lines-of_lines}
use Rattle.line_forms.specs.Form.{Form, Spells, IsFirstBad, IsTextIn}
use Rattle.line_forms.proofs.Cuts.{AreLines, above_free, same_lines}
use Rattle.line_forms.proofs.Forms.{IsPlain, one_value, spelled_stands, stands_lines, none_longer, none_bad}

no_feeds : (lines : List (List ℕ)) → AreLines lines → AllByRecursion HasNoLineFeed lines
no_feeds [] h = tt
no_feeds (line ∷ lines) h = (above_free 10 line h.0, no_feeds lines h.1)

module _ {X : Type 0} (form : Form X) (plain : IsPlain form) where
  spelled_lines : (ls : List (List ℕ)) (x : X) → Spells form ls x → AreLines ls
  spelled_lines ls x s = stands_lines form ls plain (spelled_stands form ls x s)

  -- a text is of one value at most
  pub one_of_text : (bytes : List ℕ) (x y : X) → IsTextIn form bytes x → IsTextIn form bytes y → x ≡ y
  one_of_text bytes x y tx ty =
      let same : tx.0 ≡ ty.0 = same_lines tx.0 ty.0 (spelled_lines tx.0 x tx.2) (spelled_lines ty.0 y ty.2) (sym tx.1 ∙ ty.1) in
      one_value form ty.0 x y plain (subst (λ ls. Spells form ls x) same tx.2) ty.2

  -- no text begins with another
  pub none_begins : (bytes more : List ℕ) (x y : X) → IsTextIn form bytes x → IsTextIn form (bytes ++ more) y → (more ≡ []) × (x ≡ y)
  none_begins bytes more x y tx ty = none_longer form tx.0 ty.0 more x y plain tx.2 ty.2 (ap (λ zs. zs ++ more) (sym tx.1) ∙ ty.1)

  -- a text has no bad line
  pub no_bad_line : (bytes : List ℕ) (x : X) (n : ℕ) → IsTextIn form bytes x → IsFirstBad form bytes n → ⊥
  no_bad_line bytes x n t bad = none_bad form t.0 x n plain t.2 (subst (λ z. IsFirstBad form z n) t.1 bad)

  -- the lines of a text are those that spell its value
  pub lines_of_text : (bytes : List ℕ) (x : X) → (t : IsTextIn form bytes x) → whole_lines bytes ≡ t.0
  lines_of_text bytes x t = ap whole_lines t.1 ∙ whole_lines-of_lines t.0 (no_feeds t.0 (spelled_lines t.0 x t.2))
