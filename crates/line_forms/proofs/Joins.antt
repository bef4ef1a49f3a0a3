-- Texts that grow piece by piece.
use Rattle.line_forms.specs.Form.{ended, text_of}
use Rattle.std.proofs.Common.{◌≡◌, ℕ, ◌+◌, ◌<◌, ◌≤◌, List, [], ◌∷◌, ◌++◌, length, get_or, drop, map, flat_map, refl, ap, sym, ◌∙◌, append_assoc, append-nil}
use Rattle.std.proofs.lemmas.List.{drop_more, drop_all}

pub three : (o p q r a b c : List ℕ) → p ≡ o ++ a → q ≡ p ++ b → r ≡ q ++ c → r ≡ o ++ (a ++ (b ++ (c ++ [])))
three o p q r a b c e f g = g ∙ ap (λ x. x ++ c) (f ∙ ap (λ x. x ++ b) e) ∙ append_assoc (o ++ a) b c ∙ append_assoc o a (b ++ c) ∙ ap (λ x. o ++ (a ++ (b ++ x))) (sym (append-nil c))

-- two lines, and then others
pub two_and_more : (o p q : List ℕ) (a b : List ℕ) (rows : List (List ℕ)) → p ≡ o ++ text_of (a ∷ b ∷ []) → q ≡ p ++ text_of rows → q ≡ o ++ text_of (a ∷ b ∷ rows)
two_and_more o p q a b rows e f =
    f ∙ ap (λ x. x ++ text_of rows) (e ∙ ap (λ x. o ++ (ended a ++ x)) (append-nil (ended b))) ∙ append_assoc o (ended a ++ ended b) (text_of rows) ∙ ap (λ x. o ++ x) (append_assoc (ended a) (ended b) (text_of rows))

pub text_of-append : (ls ms : List (List ℕ)) → text_of (ls ++ ms) ≡ text_of ls ++ text_of ms
text_of-append [] ms = refl
text_of-append (l ∷ ls) ms = ap (λ x. ended l ++ x) (text_of-append ls ms) ∙ sym (append_assoc (ended l) (text_of ls) (text_of ms))

-- lines, and others
pub lines_and_rest : (o p q : List ℕ) (lines rest : List (List ℕ)) → p ≡ o ++ text_of lines → q ≡ p ++ text_of rest → q ≡ o ++ text_of (lines ++ rest)
lines_and_rest o p q lines rest e f = f ∙ ap (λ x. x ++ text_of rest) e ∙ append_assoc o (text_of lines) (text_of rest) ∙ ap (λ x. o ++ x) (sym (text_of-append lines rest))

-- the next of values, and those after it
pub next_and_rest : {V : Type 0} (vs : List V) (i : ℕ) (v : V) → i < length vs → v ≡ get_or vs i v → drop i vs ≡ v ∷ drop (i + 1) vs
next_and_rest vs i v lt is = drop_more vs i v lt ∙ ap (λ w. w ∷ drop (i + 1) vs) (sym is)

-- what is written and what is left to write are all: one more line, the lines of one more value, and the end
pub one_line_more : {V : Type 0} (line_of : V → List ℕ) (p q whole : List ℕ) (vs : List V) (i : ℕ) (v : V) → i < length vs → v ≡ get_or vs i v →
    p ++ text_of (map line_of (drop i vs)) ≡ whole → q ≡ p ++ ended (line_of v) → q ++ text_of (map line_of (drop (i + 1) vs)) ≡ whole
one_line_more line_of p q whole vs i v lt is all e =
    let rest = text_of (map line_of (drop (i + 1) vs)) in
    ap (λ x. x ++ rest) e ∙ append_assoc p (ended (line_of v)) rest ∙ ap (λ ws. p ++ text_of (map line_of ws)) (sym (next_and_rest vs i v lt is)) ∙ all

pub lines_more : {V : Type 0} (lines_of : V → List (List ℕ)) (p q whole : List ℕ) (vs : List V) (i : ℕ) (v : V) → i < length vs → v ≡ get_or vs i v →
    p ++ text_of (flat_map lines_of (drop i vs)) ≡ whole → q ≡ p ++ text_of (lines_of v) → q ++ text_of (flat_map lines_of (drop (i + 1) vs)) ≡ whole
lines_more lines_of p q whole vs i v lt is all e =
    let rest = flat_map lines_of (drop (i + 1) vs) in
    ap (λ x. x ++ text_of rest) e ∙ append_assoc p (text_of (lines_of v)) (text_of rest) ∙ ap (λ x. p ++ x) (sym (text_of-append (lines_of v) rest))
    ∙ ap (λ ws. p ++ text_of (flat_map lines_of ws)) (sym (next_and_rest vs i v lt is)) ∙ all

pub all_written : {V : Type 0} (lines : List V → List (List ℕ)) (p whole : List ℕ) (vs : List V) (i : ℕ) → lines [] ≡ [] → length vs ≤ i → p ++ text_of (lines (drop i vs)) ≡ whole → p ≡ whole
all_written lines p whole vs i none le all =
    sym (append-nil p) ∙ ap (λ ls. p ++ text_of ls) (sym none) ∙ ap (λ ws. p ++ text_of (lines ws)) (sym (drop_all i vs le)) ∙ all
