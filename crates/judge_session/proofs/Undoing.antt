-- What undo and redo do to the list.
use Rattle.std.proofs.Common.{◌≡◌, ℕ, zero, suc, ◌<◌, List, [], ◌∷◌, ◌++◌, true, false, true≢false, Bool, length, get_or, refl, ap, sym, ◌∙◌, arith}
use Rattle.std.proofs.Math.ListN.{set}
use Rattle.std.specs.Prelude.{not, ◌&&◌, ◌||◌, if◌then◌else◌, slice_get, Some}
use Rattle.std.specs.List.{list_any}
use Rattle.judge_session.specs.declared.change.Change.{Change}
use Rattle.judge_session.specs.Session.{is_by, is_live_by, is_undone_by, undone, redone, with_live, is_in_turn}
use Rattle.std.proofs.lemmas.List.Folds.{list_any_none, list_any_at}
use Rattle.small_lemmas.proofs.Tests.{neither}
use Rattle.judge_session.proofs.Names.{same}
use Rattle.std.proofs.lemmas.Bool.{and_parts}

pub any_last : (test : Change → Bool) (xs : List Change) (x : Change) → test x ≡ true → list_any test (xs ++ x ∷ []) ≡ true
any_last test [] x h = ap (λ b. b || false) h
any_last test (y ∷ ys) x h = by (any_last test ys x h) (test y)
  where
    by : list_any test (ys ++ x ∷ []) ≡ true → (b : Bool) → (b || list_any test (ys ++ x ∷ [])) ≡ true
    by rest true = refl
    by rest false = rest

and-not-true : {X : Type 0} (b : Bool) (x y : X) → (if b && not true then x else y) ≡ y
and-not-true true x y = refl
and-not-true false x y = refl

-- without a live change of the caller nothing is marked
pub undone-none : (who : List ℕ) (xs : List Change) → list_any (is_live_by who) xs ≡ false → undone who xs ≡ xs
undone-none who [] h = refl
undone-none who (x ∷ xs) h =
    let parts = neither (is_live_by who x) (list_any (is_live_by who) xs) h in
    ap (λ b. (if b && not (list_any (is_live_by who) xs) then with_live false x else x) ∷ undone who xs) parts.0
    ∙ ap (λ ys. x ∷ ys) (undone-none who xs parts.1)

-- where a later change of the caller is live, this one stays
pub undone-later : (who : List ℕ) (x : Change) (xs : List Change) → list_any (is_live_by who) xs ≡ true → undone who (x ∷ xs) ≡ x ∷ undone who xs
undone-later who x xs h =
    ap (λ b. (if is_live_by who x && not b then with_live false x else x) ∷ undone who xs) h
    ∙ ap (λ y. y ∷ undone who xs) (and-not-true (is_live_by who x) (with_live false x) x)

-- the last live change is marked
pub undone-here : (who : List ℕ) (x : Change) (xs : List Change) → is_live_by who x ≡ true → list_any (is_live_by who) xs ≡ false → undone who (x ∷ xs) ≡ with_live false x ∷ xs
undone-here who x xs l h =
    ap (λ b. (if is_live_by who x && not b then with_live false x else x) ∷ undone who xs) h
    ∙ ap (λ b. (if b && true then with_live false x else x) ∷ undone who xs) l
    ∙ ap (λ ys. with_live false x ∷ ys) (undone-none who xs h)

-- a live change of the caller at the end is the one that is marked
pub undone-append : (who : List ℕ) (xs : List Change) (x : Change) → is_live_by who x ≡ true → undone who (xs ++ x ∷ []) ≡ xs ++ with_live false x ∷ []
undone-append who [] x h = undone-here who x [] h refl
undone-append who (y ∷ ys) x h = undone-later who y (ys ++ x ∷ []) (any_last (is_live_by who) ys x h) ∙ ap (λ zs. y ∷ zs) (undone-append who ys x h)

redone-not : (who : List ℕ) (x : Change) (xs : List Change) → is_undone_by who x ≡ false → redone who (x ∷ xs) ≡ x ∷ redone who xs
redone-not who x xs h = ap (λ b. if b then with_live true x ∷ xs else x ∷ redone who xs) h

redone-here : (who : List ℕ) (x : Change) (xs : List Change) → is_undone_by who x ≡ true → redone who (x ∷ xs) ≡ with_live true x ∷ xs
redone-here who x xs h = ap (λ b. if b then with_live true x ∷ xs else x ∷ redone who xs) h

-- where live changes of the caller follow, this one isn't an undone one of the caller
pub not_undone : (who : List ℕ) (x : Change) (xs : List Change) → (x.live || not (list_any (is_live_by x.who) xs)) ≡ true → list_any (is_live_by who) xs ≡ true → is_undone_by who x ≡ false
not_undone who x xs turn h = by x.live (is_by who x) refl refl
  where
    by : (l m : Bool) → x.live ≡ l → is_by who x ≡ m → (not x.live && is_by who x) ≡ false
    by true m e f = ap (λ b. not b && is_by who x) e
    by false false e f = ap (λ b. not b && is_by who x) e ∙ f
    by false true e f =
        let one : x.who ≡ who = same x.who who f in
        absurd (true≢false (sym turn ∙ ap (λ b. b || not (list_any (is_live_by x.who) xs)) e ∙ ap (λ w. not (list_any (is_live_by w) xs)) one ∙ ap not h))

-- an undo and then a redo of a caller with a live change leave the list
pub redone-undone : (who : List ℕ) (xs : List Change) → is_in_turn xs ≡ true → list_any (is_live_by who) xs ≡ true → redone who (undone who xs) ≡ xs
redone-undone who [] turn h = absurd (true≢false (sym h))
redone-undone who (x ∷ xs) turn h =
    let turns = and_parts (x.live || not (list_any (is_live_by x.who) xs)) (is_in_turn xs) turn in
    by turns.0 (redone-undone who xs turns.1) (is_live_by who x) (list_any (is_live_by who) xs) refl refl
  where
    by : (x.live || not (list_any (is_live_by x.who) xs)) ≡ true → (list_any (is_live_by who) xs ≡ true → redone who (undone who xs) ≡ xs) →
        (l r : Bool) → is_live_by who x ≡ l → list_any (is_live_by who) xs ≡ r → redone who (undone who (x ∷ xs)) ≡ x ∷ xs
    by first rest l true e f =
        ap (redone who) (undone-later who x xs f) ∙ redone-not who x (undone who xs) (not_undone who x xs first f) ∙ ap (λ ys. x ∷ ys) (rest f)
    by first rest true false e f =
        let parts = and_parts x.live (is_by who x) e in
        ap (redone who) (undone-here who x xs e f) ∙ redone-here who (with_live false x) xs parts.1
        ∙ ap (λ b. with_live b x ∷ xs) (sym parts.0)
    by first rest false false e f = absurd (true≢false (sym h ∙ ap (λ b. b || list_any (is_live_by who) xs) e ∙ f))

-- the last change that passes a test is marked
pub undone-at : (who : List ℕ) (xs : List Change) (i : ℕ) (d : Change) → i < length xs → is_live_by who (get_or xs i d) ≡ true →
    ((k : ℕ) (e : Change) → i < k → k < length xs → is_live_by who (get_or xs k e) ≡ false) → undone who xs ≡ set xs i (with_live false (get_or xs i d))
undone-at who [] i d lt here after = absurd (omega arith)
undone-at who (x ∷ xs) zero d lt here after = undone-here who x xs here (list_any_none (is_live_by who) xs (λ k e in_range. after (suc k) e (omega arith) (omega arith)))
undone-at who (x ∷ xs) (suc i) d lt here after =
    undone-later who x xs (list_any_at (is_live_by who) xs i d (omega arith) here)
    ∙ ap (λ ys. x ∷ ys) (undone-at who xs i d (omega arith) here (λ k e above in_range. after (suc k) e (omega arith) (omega arith)))

-- the first undone change of the caller is made live
pub redone-at : (who : List ℕ) (xs : List Change) (i : ℕ) (d : Change) → i < length xs → is_undone_by who (get_or xs i d) ≡ true →
    ((k : ℕ) (e : Change) → k < i → is_undone_by who (get_or xs k e) ≡ false) → redone who xs ≡ set xs i (with_live true (get_or xs i d))
redone-at who [] i d lt here before = absurd (omega arith)
redone-at who (x ∷ xs) zero d lt here before = redone-here who x xs here
redone-at who (x ∷ xs) (suc i) d lt here before =
    redone-not who x xs (before 0 x (omega arith))
    ∙ ap (λ ys. x ∷ ys) (redone-at who xs i d (omega arith) here (λ k e below. before (suc k) e (omega arith)))

-- without an undone change of the caller nothing is made live
pub redone-none : (who : List ℕ) (xs : List Change) → list_any (is_undone_by who) xs ≡ false → redone who xs ≡ xs
redone-none who [] h = refl
redone-none who (x ∷ xs) h =
    let parts = neither (is_undone_by who x) (list_any (is_undone_by who) xs) h in
    redone-not who x xs parts.0 ∙ ap (λ ys. x ∷ ys) (redone-none who xs parts.1)

-- what a list has at a place after its head was changed, or not
at_head : (ys : List Change) (x y c : Change) (place : ℕ) → slice_get (x ∷ ys) place ≡ Some c → (x ≡ c → y ≡ c) → slice_get (y ∷ ys) place ≡ Some c
at_head ys x y c zero e h = let same_change : x ≡ c = cc in ap (λ z. Some z) (h same_change)
at_head ys x y c (suc place) e h = e

-- an undo leaves the changes of others
pub undone-others : (who : List ℕ) (xs : List Change) (place : ℕ) (c : Change) → slice_get xs place ≡ Some c → is_by who c ≡ false → slice_get (undone who xs) place ≡ Some c
undone-others who [] place c e f = e
undone-others who (x ∷ xs) zero c e f = by (is_live_by who x && not (list_any (is_live_by who) xs)) refl
  where
    mine : x ≡ c
    mine = cc

    by : (b : Bool) → (is_live_by who x && not (list_any (is_live_by who) xs)) ≡ b → Some (if b then with_live false x else x) ≡ Some c
    by false h = ap (λ z. Some z) mine
    by true h =
        let live = and_parts (is_live_by who x) (not (list_any (is_live_by who) xs)) h in
        let by_who = and_parts x.live (is_by who x) live.0 in
        absurd (true≢false (sym by_who.1 ∙ ap (is_by who) mine ∙ f))
undone-others who (x ∷ xs) (suc place) c e f = undone-others who xs place c e f

-- and so does a redo
pub redone-others : (who : List ℕ) (xs : List Change) (place : ℕ) (c : Change) → slice_get xs place ≡ Some c → is_by who c ≡ false → slice_get (redone who xs) place ≡ Some c
redone-others who [] place c e f = e
redone-others who (x ∷ xs) place c e f = by (is_undone_by who x) refl (redone-others who xs)
  where
    by : (b : Bool) → is_undone_by who x ≡ b → ((place : ℕ) (c : Change) → slice_get xs place ≡ Some c → is_by who c ≡ false → slice_get (redone who xs) place ≡ Some c) →
        slice_get (if b then with_live true x ∷ xs else x ∷ redone who xs) place ≡ Some c
    by true h rest = at_head xs x (with_live true x) c place e (λ mine. absurd (true≢false (sym (and_parts (not x.live) (is_by who x) h).1 ∙ ap (is_by who) mine ∙ f)))
    by false h rest = kept place e rest
      where
        kept : (place : ℕ) → slice_get (x ∷ xs) place ≡ Some c → ((place : ℕ) (c : Change) → slice_get xs place ≡ Some c → is_by who c ≡ false → slice_get (redone who xs) place ≡ Some c) → slice_get (x ∷ redone who xs) place ≡ Some c
        kept zero e rest = e
        kept (suc place) e rest = rest place c e f
