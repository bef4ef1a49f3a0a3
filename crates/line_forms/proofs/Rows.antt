-- Laws of rows.
use Rattle.std.proofs.Common.{◌≡◌, ℕ, zero, suc, ◌+◌, List, [], ◌∷◌, ◌++◌, length, refl, ap, sym, subst, ◌∙◌, arith, append-nil, append_assoc, flat_map}
use Rattle.line_forms.specs.Form.{Form, Whole, Line, Spells, bind, text_of}
use Rattle.line_forms.specs.Reading.{FailsAt}
use Rattle.line_forms.specs.Rows.{rows, key_after, AllFollow}
use Rattle.line_forms.proofs.Forms.{IsPlain, bind_forth, bind_back, bind_plain}
use Rattle.line_forms.proofs.Failing.{first_of_list, rest_of_list, fail_first, fail_second}
use Rattle.line_forms.proofs.Joins.{text_of-append}
use Rattle.line_forms.proofs.Spelling.{one_forth, whole_forth, made_forth, made_back}

-- what a kind of rows is: its lines, and what may follow a key
pub record Kind {V K : Type 0} (one : K → Form V) (lines_of : V → List (List ℕ)) (Follows : K → V → Type 0) : Type 0 where
  pub forth : (key : K) (ls : List (List ℕ)) (v : V) → Spells (one key) ls v → Follows key v × (ls ≡ lines_of v)
  pub back : (key : K) (v : V) → Follows key v → Spells (one key) (lines_of v) v
  pub plain : (key : K) → IsPlain (one key)

-- rows of one line
pub line_kind : {V K : Type 0} (show : V → List ℕ) (Fits : K → V → Type 0) → ((key : K) → IsPlain (Line show (Fits key) Whole)) → Kind (λ key. Line show (Fits key) Whole) (λ v. show v ∷ []) Fits
line_kind show Fits plain = record {
  forth = λ key ls v s. one_forth show (Fits key) ls v s;
  back = λ key v fits. (v, fits, refl, refl);
  plain = plain;
}

module _ {V K : Type 0} (one : K → Form V) (next : K → V → K) (lines_of : V → List (List ℕ)) (Follows : K → V → Type 0) (kind : Kind one lines_of Follows) where
  pub rows_forth : (n : ℕ) (key : K) (ls : List (List ℕ)) (vs : List V) → Spells (rows one next n key) ls vs →
      (length vs ≡ n) × AllFollow next Follows key vs × (ls ≡ flat_map lines_of vs)
  rows_forth zero key [] vs s = subst (λ zs. (length zs ≡ 0) × AllFollow next Follows key zs × ([] ≡ flat_map lines_of zs)) s (refl, tt, refl)
  rows_forth zero key (l ∷ ls) vs s = absurd s
  rows_forth (suc n) key ls vs s =
      let h = bind_forth (one key) (λ v. bind (rows one next n (next key v)) (λ vs. Whole (v ∷ vs))) ls vs s in
      let v = h.0 in
      let k = bind_forth (rows one next n (next key v)) (λ vs. Whole (v ∷ vs)) h.2 vs h.5 in
      let none = whole_forth (v ∷ k.0) k.2 vs k.5 in
      let first = kind.forth key h.1 v h.4 in
      let r = rows_forth n (next key v) k.1 k.0 k.4 in
      let lines : ls ≡ flat_map lines_of (v ∷ k.0) =
      h.3 ∙ ap (λ zs. zs ++ h.2) first.1 ∙ ap (λ zs. lines_of v ++ zs) (k.3 ∙ ap (λ zs. k.1 ++ zs) none.1 ∙ append-nil k.1 ∙ r.2) in
      subst (λ zs. (length zs ≡ suc n) × AllFollow next Follows key zs × (ls ≡ flat_map lines_of zs)) none.0 (ap suc r.0, (first.0, r.1), lines)

  pub rows_back : (vs : List V) (key : K) → AllFollow next Follows key vs → Spells (rows one next (length vs) key) (flat_map lines_of vs) vs
  rows_back [] key follow = refl
  rows_back (v ∷ vs) key follow =
      let later = rows_back vs (next key v) follow.1 in
      let rest : Spells (bind (rows one next (length vs) (next key v)) (λ vs. Whole (v ∷ vs))) (flat_map lines_of vs) (v ∷ vs) =
      made_back (rows one next (length vs) (next key v)) (λ vs. v ∷ vs) (flat_map lines_of vs) vs later in
      bind_back (one key) (λ v. bind (rows one next (length vs) (next key v)) (λ vs. Whole (v ∷ vs))) (lines_of v) (flat_map lines_of vs) v (v ∷ vs) (kind.back key v follow.0) rest

  pub rows_plain : (n : ℕ) (key : K) → IsPlain (rows one next n key)
  rows_plain zero key = tt
  rows_plain (suc n) key = bind_plain (one key) (λ v. bind (rows one next n (next key v)) (λ vs. Whole (v ∷ vs))) (kind.plain key) (λ v. bind_plain (rows one next n (next key v)) (λ vs. Whole (v ∷ vs)) (rows_plain n (next key v)) (λ vs. tt))

  -- where the next row fails, all rows fail
  pub rows_fail : (vs : List V) (key : K) (lines : List (List ℕ)) (m : ℕ) (bytes rest last : List ℕ) → Spells (rows one next (length vs) key) lines vs → bytes ≡ text_of lines ++ rest → FailsAt (one (key_after next key vs)) rest last →
      FailsAt (rows one next (length vs + suc m) key) bytes last
  rows_fail [] key [] m bytes rest last spelled e h =
      let first : FailsAt (rows one next (suc m) key) rest last = fail_first (one key) (λ v. bind (rows one next m (next key v)) (λ vs. Whole (v ∷ vs))) rest last (kind.plain key) h in
      let same : bytes ≡ rest = e in
      let k : 0 + suc m ≡ suc m = omega arith in
      subst (λ z. FailsAt (rows one next z key) bytes last) (sym k) (subst (λ z. FailsAt (rows one next (suc m) key) z last) (sym same) first)
  rows_fail [] key (l ∷ ls) m bytes rest last spelled e h = absurd spelled
  rows_fail (v ∷ vs) key lines m bytes rest last spelled e h =
      let k = length vs in
      let more = k + suc m in
      let b = bind_forth (one key) (λ w. bind (rows one next k (next key w)) (λ ws. Whole (w ∷ ws))) lines (v ∷ vs) spelled in
      let c = made_forth (rows one next k (next key b.0)) (λ ws. b.0 ∷ ws) b.2 (v ∷ vs) b.5 in
      let head : b.0 ≡ v = ap (first_of_list v) c.1 in
      let tail : c.0 ≡ vs = ap rest_of_list c.1 in
      let inner : Spells (rows one next k (next key v)) b.2 vs = subst (λ w. Spells (rows one next k (next key w)) b.2 vs) head (subst (λ ws. Spells (rows one next k (next key b.0)) b.2 ws) tail c.2) in
      let first : Spells (one key) b.1 v = subst (λ w. Spells (one key) b.1 w) head b.4 in
      let later : FailsAt (rows one next more (next key v)) (text_of b.2 ++ rest) last = rows_fail vs (next key v) b.2 m (text_of b.2 ++ rest) rest last inner refl h in
      let then = λ (w : V). bind (rows one next more (next key w)) (λ ws. Whole (w ∷ ws)) in
      let second : FailsAt (then v) (text_of b.2 ++ rest) last = fail_first (rows one next more (next key v)) (λ ws. Whole (v ∷ ws)) (text_of b.2 ++ rest) last (rows_plain more (next key v)) later in
      let split : bytes ≡ text_of b.1 ++ (text_of b.2 ++ rest) = e ∙ ap (λ ls. text_of ls ++ rest) b.3 ∙ ap (λ z. z ++ rest) (text_of-append b.1 b.2) ∙ append_assoc (text_of b.1) (text_of b.2) rest in
      let all : FailsAt (rows one next (suc more) key) bytes last = fail_second (one key) then bytes (text_of b.2 ++ rest) last b.1 v (kind.plain key) first split second in
      let count : suc more ≡ suc k + suc m = omega arith in
      subst (λ z. FailsAt (rows one next z key) bytes last) count all

  -- one more row
  pub rows_more : (vs : List V) (v : V) (lines ms : List (List ℕ)) (n : ℕ) (key : K) → Spells (rows one next (length vs) key) lines vs → Spells (one (key_after next key vs)) ms v → n ≡ suc (length vs) →
      Spells (rows one next n key) (lines ++ ms) (vs ++ v ∷ [])
  rows_more [] v [] ms n key spelled here e =
      subst (λ z. Spells (rows one next z key) ms (v ∷ [])) (sym e)
      (subst (λ zs. Spells (bind (one key) (λ w. bind (rows one next 0 (next key w)) (λ ws. Whole (w ∷ ws)))) zs (v ∷ [])) (append-nil ms) (bind_back (one key) (λ w. bind (rows one next 0 (next key w)) (λ ws. Whole (w ∷ ws))) ms [] v (v ∷ []) here refl))
  rows_more [] v (l ∷ ls) ms n key spelled here e = absurd spelled
  rows_more (u ∷ vs) v lines ms n key spelled here e =
      let k = length vs in
      let b = bind_forth (one key) (λ w. bind (rows one next k (next key w)) (λ ws. Whole (w ∷ ws))) lines (u ∷ vs) spelled in
      let c = made_forth (rows one next k (next key b.0)) (λ ws. b.0 ∷ ws) b.2 (u ∷ vs) b.5 in
      let head : b.0 ≡ u = ap (first_of_list u) c.1 in
      let tail : c.0 ≡ vs = ap rest_of_list c.1 in
      let inner : Spells (rows one next k (next key u)) b.2 vs = subst (λ w. Spells (rows one next k (next key w)) b.2 vs) head (subst (λ ws. Spells (rows one next k (next key b.0)) b.2 ws) tail c.2) in
      let first : Spells (one key) b.1 u = subst (λ w. Spells (one key) b.1 w) head b.4 in
      let later : Spells (rows one next (suc k) (next key u)) (b.2 ++ ms) (vs ++ v ∷ []) = rows_more vs v b.2 ms (suc k) (next key u) inner here refl in
      let second = made_back (rows one next (suc k) (next key u)) (λ ws. u ∷ ws) (b.2 ++ ms) (vs ++ v ∷ []) later in
      let all : Spells (rows one next (suc (suc k)) key) (b.1 ++ (b.2 ++ ms)) (u ∷ (vs ++ v ∷ [])) = bind_back (one key) (λ w. bind (rows one next (suc k) (next key w)) (λ ws. Whole (w ∷ ws))) b.1 (b.2 ++ ms) u (u ∷ (vs ++ v ∷ [])) first second in
      subst (λ z. Spells (rows one next z key) (lines ++ ms) (u ∷ (vs ++ v ∷ []))) (sym e)
      (subst (λ zs. Spells (rows one next (suc (suc k)) key) zs (u ∷ (vs ++ v ∷ []))) (sym (append_assoc b.1 b.2 ms) ∙ ap (λ zs. zs ++ ms) (sym b.3)) all)
