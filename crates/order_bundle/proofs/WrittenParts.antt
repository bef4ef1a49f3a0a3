-- Texts of bundles that grow part by part.
use Rattle.std.proofs.Common.{◌≡◌, ℕ, zero, suc, ◌<◌, List, [], ◌∷◌, ◌++◌, length, get_or, refl, ap, sym, ◌∙◌, arith, append-nil, append_assoc}
use Rattle.line_forms.specs.Form.{ended, text_of}
use Rattle.line_forms.proofs.Joins.{lines_and_rest, text_of-append}

-- a line, and rows after it
pub line_and_rows : (o p q a : List ℕ) (rows : List (List ℕ)) → p ≡ o ++ ended a → q ≡ p ++ text_of rows → q ≡ o ++ text_of (a ∷ rows)
line_and_rows o p q a rows e f = f ∙ ap (λ x. x ++ text_of rows) e ∙ append_assoc o (ended a) (text_of rows)

-- a line, rows after it, and others
pub line_rows_and_rest : (o p q r a : List ℕ) (rows rest : List (List ℕ)) → p ≡ o ++ ended a → q ≡ p ++ text_of rows → r ≡ q ++ text_of rest → r ≡ o ++ text_of (a ∷ rows ++ rest)
line_rows_and_rest o p q r a rows rest e f g =
    g ∙ ap (λ x. x ++ text_of rest) (line_and_rows o p q a rows e f) ∙ append_assoc o (text_of (a ∷ rows)) (text_of rest) ∙ ap (λ x. o ++ x) (sym (text_of-append (a ∷ rows) rest))

-- one line is a text
pub one_line : (q r a : List ℕ) → r ≡ q ++ ended a → r ≡ q ++ text_of (a ∷ [])
one_line q r a e = e ∙ ap (λ x. q ++ x) (sym (append-nil (ended a)))

-- lines, others after them, and the rest
pub three_parts : (o p q r : List ℕ) (first middle last : List (List ℕ)) → p ≡ o ++ text_of first → q ≡ p ++ text_of middle → r ≡ q ++ text_of last → r ≡ o ++ text_of (first ++ (middle ++ last))
three_parts o p q r first middle last e f g = lines_and_rest o p r first (middle ++ last) e (lines_and_rest p q r middle last f g)

-- a value of a list is the same whatever would stand for one that is not there
pub same_item : {V : Type 0} (vs : List V) (i : ℕ) (d e : V) → i < length vs → get_or vs i d ≡ get_or vs i e
same_item [] i d e lt = absurd (omega arith)
same_item (v ∷ vs) zero d e lt = refl
same_item (v ∷ vs) (suc i) d e lt = same_item vs i d e (omega arith)
