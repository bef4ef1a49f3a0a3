-- What lines of a form spell, place by place.
use Rattle.std.proofs.Common.{◌≡◌, ℕ, List, [], ◌∷◌, ◌++◌, refl, ap, sym, subst, ◌∙◌, append-nil, flat_map, map}
use Rattle.line_forms.specs.Form.{Form, Whole, Line, Spells, bind}
use Rattle.line_forms.proofs.Forms.{bind_forth, bind_back}

-- a line that can come next, and what is spelled after it
pub line_forth : {P X : Type 0} (show : P → List ℕ) (Fits : P → Type 0) (next : P → Form X) (ls : List (List ℕ)) (x : X) → Spells (Line show Fits next) ls x →
    (p : P) × (rest : List (List ℕ)) × Fits p × (ls ≡ show p ∷ rest) × Spells (next p) rest x
line_forth show Fits next [] x s = absurd s
line_forth show Fits next (l ∷ ls) x (p, fits, is, rest) = (p, ls, fits, ap (λ z. z ∷ ls) is, rest)

-- nothing more
pub whole_forth : {X : Type 0} (v : X) (ls : List (List ℕ)) (x : X) → Spells (Whole v) ls x → (v ≡ x) × (ls ≡ [])
whole_forth v [] x s = (s, refl)
whole_forth v (l ∷ ls) x s = absurd s

-- a form of one line
pub one_forth : {P : Type 0} (show : P → List ℕ) (Fits : P → Type 0) (ls : List (List ℕ)) (v : P) → Spells (Line show Fits Whole) ls v → Fits v × (ls ≡ show v ∷ [])
one_forth show Fits ls v s =
    let h = line_forth show Fits Whole ls v s in
    let none = whole_forth h.0 h.1 v h.4 in
    (subst Fits none.0 h.2, h.3 ∙ ap (λ zs. show h.0 ∷ zs) none.1 ∙ ap (λ z. show z ∷ []) none.0)

-- a form that is only made into another value
pub made_forth : {V X : Type 0} (form : Form V) (make : V → X) (ls : List (List ℕ)) (x : X) → Spells (bind form (λ v. Whole (make v))) ls x → (v : V) × (make v ≡ x) × Spells form ls v
made_forth form make ls x s =
    let h = bind_forth form (λ v. Whole (make v)) ls x s in
    let none = whole_forth (make h.0) h.2 x h.5 in
    (h.0, none.0, subst (λ zs. Spells form zs h.0) (sym (h.3 ∙ ap (λ zs. h.1 ++ zs) none.1 ∙ append-nil h.1)) h.4)

pub made_back : {V X : Type 0} (form : Form V) (make : V → X) (ls : List (List ℕ)) (v : V) → Spells form ls v → Spells (bind form (λ v. Whole (make v))) ls (make v)
made_back form make ls v s = subst (λ zs. Spells (bind form (λ v. Whole (make v))) zs (make v)) (append-nil ls) (bind_back form (λ v. Whole (make v)) ls [] v (make v) s refl)

-- one line for each
pub flat_single : {V W : Type 0} (f : V → W) (vs : List V) → flat_map (λ v. f v ∷ []) vs ≡ map f vs
flat_single f [] = refl
flat_single f (v ∷ vs) = ap (λ zs. f v ∷ zs) (flat_single f vs)
