-- Where the reading of one form after another fails.
use Rattle.std.proofs.Common.{◌≡◌, ◌≢◌, ℕ, zero, suc, List, [], ◌∷◌, ◌++◌, length, refl, ap, sym, subst, ◌∙◌, arith, append-nil, append_assoc, length-append, ◌⊎◌, inl, inr}
use Rattle.line_forms.specs.Form.{Form, Whole, Line, Spells, CanStand, IsFirstBad, bind, ended, text_of}
use Rattle.line_forms.specs.Reading.{FailsAt, BeginsWith, IsFreeOf}
use Rattle.line_forms.proofs.Cuts.{free_parts}
use Rattle.line_forms.proofs.Forms.{IsPlain, spelled_stands, nothing_after, bind_first, bind_second, bind_later, bind_either, bind_forth}
use Rattle.line_forms.proofs.Joins.{text_of-append}

abbrev pub first_of_list : {X : Type 0} → X → List X → X
first_of_list d [] = d
first_of_list d (y ∷ ys) = y

abbrev pub rest_of_list : {X : Type 0} → List X → List X
rest_of_list [] = []
rest_of_list (y ∷ ys) = ys

-- one more at the end of a list: the prefix is all of it, or is a prefix of the list
last_or_prefix : {X : Type 0} (before prefix rest : List X) (x : X) → before ++ x ∷ [] ≡ prefix ++ rest → (rest ≡ []) ⊎ ((more : List X) × (before ≡ prefix ++ more))
last_or_prefix before [] rest x e = inr (before, refl)
last_or_prefix [] (f ∷ fs) [] x e = inl refl
last_or_prefix [] (f ∷ fs) (r ∷ rs) x e =
    let n : suc zero ≡ suc (length (fs ++ r ∷ rs)) = ap length e in
    absurd (omega (arith, n, length-append fs (r ∷ rs)))
last_or_prefix {X} (b ∷ bs) (f ∷ fs) rest x e =
    let head : b ≡ f = ap (first_of_list b) e in
    let tail : bs ++ x ∷ [] ≡ fs ++ rest = ap rest_of_list e in
    elim (last_or_prefix bs fs rest x tail) [
      | inl none ↦ inl none
      | inr h ↦ inr (h.0, ap (λ z. z ∷ bs) head ∙ ap (λ zs. f ∷ zs) h.1)
    ]

-- after a value the second form is read
spelled_later : {V X : Type 0} (form : Form V) (then : V → Form X) (prefix rest : List (List ℕ)) (v : V) (x : X) → IsPlain form → Spells form prefix v → Spells (bind form then) (prefix ++ rest) x → Spells (then v) rest x
spelled_later (Whole w) then [] rest v x h s t = subst (λ z. Spells (then z) rest x) s t
spelled_later (Whole w) then (l ∷ ls) rest v x h s t = absurd s
spelled_later (Line show Fits next) then [] rest v x h s t = absurd s
spelled_later (Line show Fits next) then (l ∷ ls) rest v x h (p, fits, is, s) (q, fits', is', t) =
    let same : p ≡ q = h.0 p q fits fits' (sym is ∙ is') in
    spelled_later (next p) then ls rest v x (h.2 p fits) s (subst (λ z. Spells (bind (next z) then) (ls ++ rest) x) (sym same) t)

-- where the first fails, both fail
pub fail_first : {V X : Type 0} (form : Form V) (then : V → Form X) (bytes last : List ℕ) → IsPlain form → FailsAt form bytes last → FailsAt (bind form then) bytes last
fail_first {V} {X} form then bytes last plain h = record {
  before = h.before;
  split = h.split;
  stand = bind_first form then h.before h.stand;
  fails = λ line more e s. stopped line more e (bind_either form then (h.before ++ line ∷ []) s);
  unfinished = λ x s. let b = bind_forth form then h.before x s in over b.0 b.1 b.2 b.3 b.4;
}
  where
    -- lines that can stand and begin with a value say it
    over : (v : V) (prefix rest : List (List ℕ)) → h.before ≡ prefix ++ rest → Spells form prefix v → ⊥
    over v prefix rest e s =
        let none : rest ≡ [] = nothing_after form prefix rest v plain s (subst (CanStand form) e h.stand) in
        h.unfinished v (subst (λ zs. Spells form zs v) (sym (e ∙ ap (λ zs. prefix ++ zs) none ∙ append-nil prefix)) s)

    stopped : (line more : List ℕ) → last ≡ ended line ++ more → CanStand form (h.before ++ line ∷ []) ⊎ ((v : V) × (prefix : List (List ℕ)) × (rest : List (List ℕ)) × (h.before ++ line ∷ [] ≡ prefix ++ rest) × Spells form prefix v) → ⊥
    stopped line more e (inl s) = h.fails line more e s
    stopped line more e (inr (v, prefix, rest, is, s)) = elim (last_or_prefix h.before prefix rest line is) [
      | inl none ↦ h.fails line more e (spelled_stands form (h.before ++ line ∷ []) v (subst (λ zs. Spells form zs v) (sym (is ∙ ap (λ zs. prefix ++ zs) none ∙ append-nil prefix)) s))
      | inr k ↦ over v prefix k.0 k.1 s
    ]

-- where the second fails after a value of the first, both fail
pub fail_second : {V X : Type 0} (form : Form V) (then : V → Form X) (bytes rest last : List ℕ) (lines : List (List ℕ)) (v : V) → IsPlain form → Spells form lines v → bytes ≡ text_of lines ++ rest → FailsAt (then v) rest last →
    FailsAt (bind form then) bytes last
fail_second form then bytes rest last lines v plain spelled e h = record {
  before = lines ++ h.before;
  split = e ∙ ap (λ z. text_of lines ++ z) h.split ∙ sym (append_assoc (text_of lines) (text_of h.before) last) ∙ ap (λ z. z ++ last) (sym (text_of-append lines h.before));
  stand = bind_second form then lines h.before v spelled h.stand;
  fails = λ line more is s. h.fails line more is (bind_later form then lines (h.before ++ line ∷ []) v plain spelled (subst (CanStand (bind form then)) (append_assoc lines h.before (line ∷ [])) s));
  unfinished = λ x s. h.unfinished x (spelled_later form then lines h.before v x plain spelled s);
}

-- a line that shows no part
pub line_fails : {P X : Type 0} (show : P → List ℕ) (Fits : P → Type 0) (next : P → Form X) (bytes line rest : List ℕ) → ((p : P) → Fits p → IsFreeOf 10 (show p)) → bytes ≡ ended line ++ rest → IsFreeOf 10 line → ((p : P) → Fits p → line ≢ show p) → FailsAt (Line show Fits next) bytes bytes
line_fails show Fits next bytes line rest free e feedless none = record {
  before = [];
  split = refl;
  stand = tt;
  fails = λ l more is s.
      let same = free_parts 10 line l rest more feedless (subst (IsFreeOf 10) (sym s.2) (free s.0 s.1)) (sym (append_assoc line (10 ∷ []) rest) ∙ sym e ∙ is ∙ append_assoc l (10 ∷ []) more) in
      none s.0 s.1 (same.0 ∙ s.2);
  unfinished = λ x s. s;
}

-- a line that is not there
pub line_missing : {P X : Type 0} (show : P → List ℕ) (Fits : P → Type 0) (next : P → Form X) (bytes : List ℕ) → ((line more : List ℕ) → bytes ≢ ended line ++ more) → FailsAt (Line show Fits next) bytes bytes
line_missing show Fits next bytes none = record {
  before = [];
  split = refl;
  stand = tt;
  fails = λ l more is s. none l more is;
  unfinished = λ x s. s;
}

-- where a whole text fails, there is its first bad line
pub first_bad : {X : Type 0} (form : Form X) (bytes last : List ℕ) → (h : FailsAt form bytes last) → IsFirstBad form bytes (suc (length h.before))
first_bad form bytes last h = record {
  before = h.before;
  rest = last;
  split = h.split;
  counted = refl;
  stand = h.stand;
  fails = h.fails;
  unfinished = λ x e s. h.unfinished x s;
}

-- so is what follows the end of a value
pub bad_after : {X : Type 0} (form : Form X) (bytes rest : List ℕ) (x : X) → IsPlain form → (h : BeginsWith form bytes x rest) → rest ≢ [] → IsFirstBad form bytes (suc (length h.lines))
bad_after form bytes rest x plain h some = record {
  before = h.lines;
  rest = rest;
  split = h.split;
  counted = refl;
  stand = spelled_stands form h.lines x h.spells;
  fails = λ line more is s. no_line line (nothing_after form h.lines (line ∷ []) x plain h.spells s);
  unfinished = λ y is s. some is;
}
  where
    no_line : (line : List ℕ) → line ∷ [] ≡ [] → ⊥
    no_line line e = let n : suc zero ≡ zero = ap length e in absurd (omega arith)
