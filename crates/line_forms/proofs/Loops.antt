-- Rows that are read one after another.
use Rattle.std.proofs.Common.{◌≡◌, ℕ, suc, ◌+◌, ◌-◌, ◌<◌, ◌≤◌, List, [], ◌∷◌, ◌++◌, length, refl, ap, sym, subst, ◌∙◌, arith, length-append, Err, Option, Some, None}
use Rattle.std.specs.Prelude.{slice_get}
use Rattle.line_forms.specs.declared.lines.FormFault.{FormFault}
use Rattle.line_forms.specs.declared.lines.FormFault.TheVariants.{Bad, Memory}
use Rattle.line_forms.specs.Form.{Form}
use Rattle.line_forms.specs.Reading.{Left, FailsAt, BeginsWith, IsReading}
use Rattle.line_forms.specs.Rows.{rows, key_after, last_name}
use Rattle.line_forms.proofs.Rows.{Kind, rows_fail, rows_more}
use Rattle.line_forms.proofs.Sequel.{join}

-- of so many rows the first were read, and these bytes are left
pub record AreRead {V K : Type 0} (one : K → Form V) (next : K → V → K) (count : ℕ) (key : K) (bytes : List ℕ) (vs : List V) (rest : List ℕ) : Type 0 where
  pub begun : BeginsWith (rows one next (length vs) key) bytes vs rest
  pub few : length vs ≤ count

module _ {V K : Type 0} (one : K → Form V) (next : K → V → K) (lines_of : V → List (List ℕ)) (Follows : K → V → Type 0) (kind : Kind one lines_of Follows) where
  module _ (count : ℕ) (key : K) (bytes : List ℕ) where
    pub none_read : AreRead one next count key bytes [] bytes
    none_read = record { begun = record { lines = []; split = refl; spells = refl }; few = omega arith }

    -- one more row
    pub one_read : (vs ws : List V) (v : V) (rest after : List ℕ) → AreRead one next count key bytes vs rest → length vs < count → BeginsWith (one (key_after next key vs)) rest v after → ws ≡ vs ++ v ∷ [] → AreRead one next count key bytes ws after
    one_read vs ws v rest after r lt h is =
        let b = r.begun in
        let size : length (vs ++ v ∷ []) ≡ suc (length vs) = omega (arith, length-append vs (v ∷ [])) in
        subst (λ zs. AreRead one next count key bytes zs after) (sym is)
        (record {
          begun = record {
            lines = b.lines ++ h.lines;
            split = join bytes rest after b.lines h.lines b.split h.split;
            spells = rows_more one next lines_of Follows kind vs v b.lines h.lines (length (vs ++ v ∷ [])) key b.spells h.spells size;
          };
          few = omega arith;
        })

    -- where the next row is not read, all rows are not
    pub rest_unread : (vs : List V) (rest : List ℕ) (left : Left) (e : FormFault) → AreRead one next count key bytes vs rest → length vs < count → IsReading (one (key_after next key vs)) rest (Err e) left → IsReading (rows one next count key) bytes (Err e) left
    rest_unread vs rest left Bad r lt h =
        let n : length vs + suc (count - suc (length vs)) ≡ count = omega arith in
        subst (λ z. FailsAt (rows one next z key) bytes left.last) n (rows_fail one next lines_of Follows kind vs key r.begun.lines (count - suc (length vs)) bytes rest left.last r.begun.spells r.begun.split h)
    rest_unread vs rest left Memory r lt h = tt

    pub all_read : (vs : List V) (rest : List ℕ) → AreRead one next count key bytes vs rest → count ≤ length vs → BeginsWith (rows one next count key) bytes vs rest
    all_read vs rest r past = subst (λ z. BeginsWith (rows one next z key) bytes vs rest) (let few = r.few in omega arith) r.begun

-- the key after one more
pub key_more : {V K : Type 0} (next : K → V → K) (key : K) (vs : List V) (v : V) → key_after next key (vs ++ v ∷ []) ≡ next (key_after next key vs) v
key_more next key [] v = refl
key_more next key (w ∷ ws) v = key_more next (next key w) ws v

-- the name of the last row
abbrev from_some : {X : Type 0} → X → Option X → X
from_some d None = d
from_some d (Some x) = x

last_there : {V : Type 0} (name_of : V → List ℕ) (key : List ℕ) (x : V) (xs : List V) (v : V) → slice_get (x ∷ xs) (length xs) ≡ Some v → key_after (λ (_ : List ℕ) w. name_of w) key (x ∷ xs) ≡ name_of v
last_there name_of key x [] v e = ap (λ o. name_of (from_some x o)) e
last_there name_of key x (y ∷ ys) v e = last_there name_of (name_of x) y ys v e

pub last_is : {V : Type 0} (name_of : V → List ℕ) (vs : List V) (v : V) → Some v ≡ slice_get vs (length vs - 1) → name_of v ≡ last_name name_of vs
last_is name_of [] v e = let no : Some v ≡ None = e in absurd (cc)
last_is name_of (x ∷ xs) v e =
    let n : length (x ∷ xs) - 1 ≡ length xs = omega arith in
    sym (last_there name_of [] x xs v (sym (e ∙ ap (slice_get (x ∷ xs)) n)))
