-- A fact that each line of a form has at its place.
use Rattle.std.proofs.Common.{ℕ, zero, suc, List, ◌∷◌}
use Rattle.line_forms.specs.Form.{Form, Whole, Line, bind}
use Rattle.line_forms.specs.Rows.{rows}

-- a fact of what may stand at a place: how a part is shown, and which parts fit
abbrev pub Fact : Type 1
Fact = (P : Type 0) → (P → List ℕ) → (P → Type 0) → Type 0

-- each place of a form has it
abbrev pub AtEach : Fact → {X : Type 0} → Form X → Type 0
AtEach fact (Whole x) = Unit {0}
AtEach fact (Line {P} show Fits next) = fact P show Fits × ((p : P) → Fits p → AtEach fact (next p))

module _ (fact : Fact) where
  pub in_both : {V X : Type 0} (form : Form V) (then : V → Form X) → AtEach fact form → ((v : V) → AtEach fact (then v)) → AtEach fact (bind form then)
  in_both (Whole v) then h k = k v
  in_both (Line show Fits next) then h k = (h.0, (λ p fits. in_both (next p) then (h.1 p fits) k))

  pub in_rows : {V K : Type 0} (one : K → Form V) (next : K → V → K) → ((key : K) → AtEach fact (one key)) → (n : ℕ) (key : K) → AtEach fact (rows one next n key)
  in_rows one next h zero key = tt
  in_rows one next h (suc n) key =
      in_both (one key) (λ v. bind (rows one next n (next key v)) (λ vs. Whole (v ∷ vs))) (h key)
      (λ v. in_both (rows one next n (next key v)) (λ vs. Whole (v ∷ vs)) (in_rows one next h n (next key v)) (λ vs. tt))
