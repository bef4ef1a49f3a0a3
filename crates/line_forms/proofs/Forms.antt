-- Laws of texts that are written line by line.
use Rattle.std.proofs.Common.{◌≡◌, ℕ, zero, suc, ◌<◌, ◌≤◌, List, [], ◌∷◌, ◌++◌, length, refl, ap, sym, subst, ◌∙◌, arith, append-nil, append_assoc, ◌⊎◌, inl, inr}
use Rattle.line_forms.specs.Form.{Form, Whole, Line, Spells, CanStand, IsFirstBad, text_of, bind}
use Rattle.line_forms.proofs.Cuts.{AreAbove, AreLines, first_ended, common_lines}

-- at each place no line shows two parts, and no line has a line feed
abbrev pub IsPlain : {X : Type 0} → Form X → Type 0
IsPlain (Whole x) = Unit {0}
IsPlain (Line {P} show Fits next) =
    ((p q : P) → Fits p → Fits q → show p ≡ show q → p ≡ q) × ((p : P) → Fits p → AreAbove 10 (show p)) × ((p : P) → Fits p → IsPlain (next p))

-- lines say one value at most
pub one_value : {X : Type 0} (form : Form X) (lines : List (List ℕ)) (x y : X) → IsPlain form → Spells form lines x → Spells form lines y → x ≡ y
one_value (Whole v) [] x y plain a b = sym a ∙ b
one_value (Whole v) (l ∷ ls) x y plain a b = absurd a
one_value (Line show Fits next) [] x y plain a b = absurd a
one_value (Line show Fits next) (l ∷ ls) x y plain (p, fits, is, rest) (q, fits', is', rest') =
    let same : p ≡ q = plain.0 p q fits fits' (sym is ∙ is') in
    one_value (next p) ls x y (plain.2 p fits) rest (subst (λ z. Spells (next z) ls y) (sym same) rest')

-- lines that say a value can stand
pub spelled_stands : {X : Type 0} (form : Form X) (lines : List (List ℕ)) (x : X) → Spells form lines x → CanStand form lines
spelled_stands (Whole v) [] x a = tt
spelled_stands (Whole v) (l ∷ ls) x a = absurd a
spelled_stands (Line show Fits next) [] x a = absurd a
spelled_stands (Line show Fits next) (l ∷ ls) x (p, fits, is, rest) = (p, fits, is, spelled_stands (next p) ls x rest)

-- so can the first of lines that can stand
pub prefix_stands : {X : Type 0} (form : Form X) (ls more : List (List ℕ)) → CanStand form (ls ++ more) → CanStand form ls
prefix_stands form [] more a = tt
prefix_stands (Whole v) (l ∷ ls) more a = absurd a
prefix_stands (Line show Fits next) (l ∷ ls) more (p, fits, is, rest) = (p, fits, is, prefix_stands (next p) ls more rest)

-- nothing can stand after lines that say a value
pub nothing_after : {X : Type 0} (form : Form X) (ls more : List (List ℕ)) (x : X) → IsPlain form → Spells form ls x → CanStand form (ls ++ more) → more ≡ []
nothing_after (Whole v) [] [] x plain a b = refl
nothing_after (Whole v) [] (m ∷ ms) x plain a b = absurd b
nothing_after (Whole v) (l ∷ ls) more x plain a b = absurd a
nothing_after (Line show Fits next) [] more x plain a b = absurd a
nothing_after (Line show Fits next) (l ∷ ls) more x plain (p, fits, is, rest) (q, fits', is', rest') =
    let same : p ≡ q = plain.0 p q fits fits' (sym is ∙ is') in
    nothing_after (next p) ls more x (plain.2 p fits) rest (subst (λ z. CanStand (next z) (ls ++ more)) (sym same) rest')

-- lines that can stand have no line feeds
pub stands_lines : {X : Type 0} (form : Form X) (ls : List (List ℕ)) → IsPlain form → CanStand form ls → AreLines ls
stands_lines form [] plain a = tt
stands_lines (Whole v) (l ∷ ls) plain a = absurd a
stands_lines (Line show Fits next) (l ∷ ls) plain (p, fits, is, rest) = (subst (AreAbove 10) (sym is) (plain.1 p fits), stands_lines (next p) ls (plain.2 p fits) rest)

-- some lines of a text come first among others, or are the same
pub either_first : (a b : ℕ) → (a < b) ⊎ (b ≤ a)
either_first a zero = inr (omega arith)
either_first zero (suc b) = inl (omega arith)
either_first (suc a) (suc b) = elim (either_first a b) [ inl lt ↦ inl (omega arith) | inr le ↦ inr (omega arith) ]

-- lines of a text that can stand come before its first bad line
no_more : {X : Type 0} (form : Form X) (bytes : List ℕ) (m : ℕ) (ls : List (List ℕ)) (rest : List ℕ) → IsPlain form → (bad : IsFirstBad form bytes m) → CanStand form ls → bytes ≡ text_of ls ++ rest →
    length bad.before < length ls → ⊥
no_more form bytes m ls rest plain bad stand e lt =
    let common = common_lines bad.before ls bad.rest rest (stands_lines form bad.before plain bad.stand) (stands_lines form ls plain stand) (sym bad.split ∙ e) (omega arith) in
    by common.0 common.1 common.2
  where
    by : (more : List (List ℕ)) → ls ≡ bad.before ++ more → bad.rest ≡ text_of more ++ rest → ⊥
    by [] same left = let n : length ls ≡ length bad.before = ap length (same ∙ append-nil bad.before) in omega arith
    by (line ∷ more) same left =
        bad.fails line (text_of more ++ rest) (left ∙ first_ended line more rest ∙ sym (append_assoc line (10 ∷ []) (text_of more ++ rest)))
        (prefix_stands form (bad.before ++ line ∷ []) more (subst (CanStand form) (same ∙ sym (append_assoc bad.before (line ∷ []) more)) stand))

-- no text of lines that say a value begins with another such text
pub none_longer : {X : Type 0} (form : Form X) (ls ms : List (List ℕ)) (more : List ℕ) (x y : X) → IsPlain form → Spells form ls x → Spells form ms y → text_of ls ++ more ≡ text_of ms → (more ≡ []) × (x ≡ y)
none_longer {X} form ls ms more x y plain a b e = elim (either_first (length ls) (length ms)) [
  | inl lt ↦ shorter (omega (arith, lt))
  | inr le ↦ longer le
]
  where
    lines_a : AreLines ls
    lines_a = stands_lines form ls plain (spelled_stands form ls x a)

    lines_b : AreLines ms
    lines_b = stands_lines form ms plain (spelled_stands form ms y b)

    shorter : length ls ≤ length ms → (more ≡ []) × (x ≡ y)
    shorter le =
        let (extra, split, left) = common_lines ls ms more [] lines_a lines_b (e ∙ sym (append-nil (text_of ms))) le in
        let nothing : extra ≡ [] = nothing_after form ls extra x plain a (subst (CanStand form) split (spelled_stands form ms y b)) in
        let same : ms ≡ ls = split ∙ ap (λ zs. ls ++ zs) nothing ∙ append-nil ls in
        (left ∙ ap (λ zs. text_of zs ++ []) nothing, one_value form ls x y plain a (subst (λ zs. Spells form zs y) same b))

    longer : length ms ≤ length ls → (more ≡ []) × (x ≡ y)
    longer le =
        let (extra, split, left) = common_lines ms ls [] more lines_b lines_a (append-nil (text_of ms) ∙ sym e) le in
        let nothing : extra ≡ [] = nothing_after form ms extra y plain b (subst (CanStand form) split (spelled_stands form ls x a)) in
        let same : ls ≡ ms = split ∙ ap (λ zs. ms ++ zs) nothing ∙ append-nil ms in
        (sym (left ∙ ap (λ zs. text_of zs ++ more) nothing), one_value form ms x y plain (subst (λ zs. Spells form zs x) same a) b)

-- there is one first bad line at most
pub one_bad : {X : Type 0} (form : Form X) (bytes : List ℕ) (m n : ℕ) → IsPlain form → IsFirstBad form bytes m → IsFirstBad form bytes n → m ≡ n
one_bad form bytes m n plain a b =
    let left : length a.before < length b.before → ⊥ = no_more form bytes m b.before b.rest plain a b.stand b.split in
    let right : length b.before < length a.before → ⊥ = no_more form bytes n a.before a.rest plain b a.stand a.split in
    by left right (either_first (length a.before) (length b.before)) (either_first (length b.before) (length a.before))
  where
    by : (length a.before < length b.before → ⊥) → (length b.before < length a.before → ⊥) → (length a.before < length b.before) ⊎ (length b.before ≤ length a.before) → (length b.before < length a.before) ⊎ (length a.before ≤ length b.before) → m ≡ n
    by left right (inl lt) t = absurd (left lt)
    by left right (inr le) (inl lt) = absurd (right lt)
    by left right (inr le) (inr ge) = let u = a.counted in let v = b.counted in omega arith

-- the text of a value has no bad line
pub none_bad : {X : Type 0} (form : Form X) (lines : List (List ℕ)) (x : X) (n : ℕ) → IsPlain form → Spells form lines x → IsFirstBad form (text_of lines) n → ⊥
none_bad {X} form lines x n plain spelled bad = by (either_first (length bad.before) (length lines))
  where
    stand : CanStand form lines
    stand = spelled_stands form lines x spelled

    by : (length bad.before < length lines) ⊎ (length lines ≤ length bad.before) → ⊥
    by (inl lt) = no_more form (text_of lines) n lines [] plain bad stand (sym (append-nil (text_of lines))) lt
    by (inr le) =
        let common = common_lines lines bad.before [] bad.rest (stands_lines form lines plain stand) (stands_lines form bad.before plain bad.stand) (append-nil (text_of lines) ∙ bad.split) le in
        let none : common.0 ≡ [] = nothing_after form lines common.0 x plain spelled (subst (CanStand form) common.1 bad.stand) in
        let same : bad.before ≡ lines = common.1 ∙ ap (λ more. lines ++ more) none ∙ append-nil lines in
        bad.unfinished x (sym (common.2 ∙ ap (λ more. text_of more ++ bad.rest) none)) (subst (λ ls. Spells form ls x) (sym same) spelled)

-- ---- one form after another
-- lines that say what comes of both are lines of the first and lines of the second
pub bind_forth : {V X : Type 0} (form : Form V) (then : V → Form X) (ls : List (List ℕ)) (x : X) → Spells (bind form then) ls x →
    (v : V) × (prefix : List (List ℕ)) × (rest : List (List ℕ)) × (ls ≡ prefix ++ rest) × Spells form prefix v × Spells (then v) rest x
bind_forth (Whole v) then ls x s = (v, [], ls, refl, refl, s)
bind_forth (Line show Fits next) then [] x s = absurd s
bind_forth (Line show Fits next) then (l ∷ ls) x (p, fits, is, rest) =
    let h = bind_forth (next p) then ls x rest in
    (h.0, l ∷ h.1, h.2, ap (λ zs. l ∷ zs) h.3, (p, fits, is, h.4), h.5)

pub bind_back : {V X : Type 0} (form : Form V) (then : V → Form X) (prefix rest : List (List ℕ)) (v : V) (x : X) → Spells form prefix v → Spells (then v) rest x → Spells (bind form then) (prefix ++ rest) x
bind_back (Whole w) then [] rest v x s t = subst (λ z. Spells (then z) rest x) (sym s) t
bind_back (Whole w) then (l ∷ ls) rest v x s t = absurd s
bind_back (Line show Fits next) then [] rest v x s t = absurd s
bind_back (Line show Fits next) then (l ∷ ls) rest v x (p, fits, is, s) t = (p, fits, is, bind_back (next p) then ls rest v x s t)

-- the second form is plain for each value that lines spell
pub plain_after : {V X : Type 0} (form : Form V) (then : V → Form X) → IsPlain form → ((v : V) (ls : List (List ℕ)) → Spells form ls v → IsPlain (then v)) → IsPlain (bind form then)
plain_after (Whole v) then h k = k v [] refl
plain_after (Line show Fits next) then h k = (h.0, h.1, (λ p fits. plain_after (next p) then (h.2 p fits) (λ v ls s. k v (show p ∷ ls) (p, fits, refl, s))))

pub bind_plain : {V X : Type 0} (form : Form V) (then : V → Form X) → IsPlain form → ((v : V) → IsPlain (then v)) → IsPlain (bind form then)
bind_plain form then h k = plain_after form then h (λ v ls s. k v)

-- what can stand in the first can stand in both, and after a value of the first what can stand in the second
pub bind_first : {V X : Type 0} (form : Form V) (then : V → Form X) (ls : List (List ℕ)) → CanStand form ls → CanStand (bind form then) ls
bind_first form then [] s = tt
bind_first (Whole v) then (l ∷ ls) s = absurd s
bind_first (Line show Fits next) then (l ∷ ls) (p, fits, is, s) = (p, fits, is, bind_first (next p) then ls s)

pub bind_second : {V X : Type 0} (form : Form V) (then : V → Form X) (prefix rest : List (List ℕ)) (v : V) → Spells form prefix v → CanStand (then v) rest → CanStand (bind form then) (prefix ++ rest)
bind_second (Whole w) then [] rest v s t = subst (λ z. CanStand (then z) rest) (sym s) t
bind_second (Whole w) then (l ∷ ls) rest v s t = absurd s
bind_second (Line show Fits next) then [] rest v s t = absurd s
bind_second (Line show Fits next) then (l ∷ ls) rest v (p, fits, is, s) t = (p, fits, is, bind_second (next p) then ls rest v s t)

-- what stands in both after a value of the first stands in the second
pub bind_later : {V X : Type 0} (form : Form V) (then : V → Form X) (prefix rest : List (List ℕ)) (v : V) → IsPlain form → Spells form prefix v → CanStand (bind form then) (prefix ++ rest) → CanStand (then v) rest
bind_later (Whole w) then [] rest v h s t = subst (λ z. CanStand (then z) rest) s t
bind_later (Whole w) then (l ∷ ls) rest v h s t = absurd s
bind_later (Line show Fits next) then [] rest v h s t = absurd s
bind_later (Line show Fits next) then (l ∷ ls) rest v h (p, fits, is, s) (q, fits', is', t) =
    let same : p ≡ q = h.0 p q fits fits' (sym is ∙ is') in
    bind_later (next p) then ls rest v (h.2 p fits) s (subst (λ z. CanStand (bind (next z) then) (ls ++ rest)) (sym same) t)

-- what stands in both stands in the first, or begins with a value of it
pub bind_either : {V X : Type 0} (form : Form V) (then : V → Form X) (ls : List (List ℕ)) → CanStand (bind form then) ls → CanStand form ls ⊎ ((v : V) × (prefix : List (List ℕ)) × (rest : List (List ℕ)) × (ls ≡ prefix ++ rest) × Spells form prefix v)
bind_either form then [] s = inl tt
bind_either (Whole v) then (l ∷ ls) s = inr (v, [], l ∷ ls, refl, refl)
bind_either (Line show Fits next) then (l ∷ ls) (p, fits, is, s) = elim (bind_either (next p) then ls s) [
  | inl t ↦ inl (p, fits, is, t)
  | inr t ↦ inr (t.0, l ∷ t.1, t.2, ap (λ zs. l ∷ zs) t.3, (p, fits, is, t.4))
]
