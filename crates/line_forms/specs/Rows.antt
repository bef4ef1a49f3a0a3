-- Rows of a text: so many of a kind, one after another.
use Rattle.std.specs.Prelude.{ℕ, zero, suc, List, [], ◌∷◌}
use Rattle.line_forms.specs.Form.{Form, Whole, bind}

-- so many rows; what may come as the next depends on a key, which each row makes anew
abbrev pub rows : {V K : Type 0} → (K → Form V) → (K → V → K) → ℕ → K → Form (List V)
rows one next zero key = Whole []
rows one next (suc n) key = bind (one key) (λ v. bind (rows one next n (next key v)) (λ vs. Whole (v ∷ vs)))

-- the key that rows leave
abbrev pub key_after : {V K : Type 0} → (K → V → K) → K → List V → K
key_after next key [] = key
key_after next key (v ∷ vs) = key_after next (next key v) vs

-- each row may follow the key that the rows before it leave
abbrev pub AllFollow : {V K : Type 0} → (K → V → K) → (K → V → Type 0) → K → List V → Type 0
AllFollow next Follows key [] = Unit {0}
AllFollow next Follows key (v ∷ vs) = Follows key v × AllFollow next Follows (next key v) vs

-- rows with names: the key is the name of the last, and nothing before the first
abbrev pub named_rows : {V : Type 0} → (List ℕ → Form V) → (V → List ℕ) → ℕ → Form (List V)
named_rows one name_of n = rows one (λ _ v. name_of v) n []

-- the name of the last of rows, or nothing
abbrev pub last_name : {V : Type 0} → (V → List ℕ) → List V → List ℕ
last_name name_of vs = key_after (λ (_ : List ℕ) v. name_of v) [] vs
