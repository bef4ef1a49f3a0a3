-- Each step keeps that a caller's undone changes stand after that caller's live ones.
use Rattle.std.proofs.Common.{◌≡◌, ℕ, List, [], ◌∷◌, ◌++◌, true, false, true≢false, Bool, refl, ap, sym, ◌∙◌, cond}
use Rattle.std.specs.Prelude.{not, ◌&&◌, ◌||◌, if◌then◌else◌, filter}
use Rattle.std.specs.List.{list_any}
use Rattle.judge_session.specs.declared.change.Change.{Change}
use Rattle.judge_session.specs.Session.{is_by, is_live_by, is_undone_by, undone, redone, with_live, is_in_turn, without_undone}
use Rattle.small_lemmas.proofs.Tests.{neither}
use Rattle.judge_session.proofs.Names.{same, self_same, laws}
use Rattle.std.proofs.lemmas.Bool.{and_from, and_parts, not-true}
use Rattle.judge_session.proofs.Undoing.{undone-later, undone-here}
use Rattle.desk_model.specs.Name.{is_same_name}

or-cases : (a b : Bool) → (a || b) ≡ true → (a ≡ false → b ≡ true)
or-cases true b h e = absurd (true≢false e)
or-cases false b h e = h

or-from : (a b : Bool) → (a ≡ false → b ≡ true) → (a || b) ≡ true
or-from true b h = refl
or-from false b h = h refl

-- a head and a rest that are in turn
turn : (x : Change) (xs : List Change) → (x.live ≡ false → list_any (is_live_by x.who) xs ≡ false) → is_in_turn xs ≡ true → is_in_turn (x ∷ xs) ≡ true
turn x xs first rest = and_from (x.live || not (list_any (is_live_by x.who) xs)) (is_in_turn xs) (or-from x.live (not (list_any (is_live_by x.who) xs)) (λ e. ap not (first e))) rest

pub turn_first : (x : Change) (xs : List Change) → is_in_turn (x ∷ xs) ≡ true → x.live ≡ false → list_any (is_live_by x.who) xs ≡ false
turn_first x xs h e = not-true (list_any (is_live_by x.who) xs) (or-cases x.live (not (list_any (is_live_by x.who) xs)) (and_parts (x.live || not (list_any (is_live_by x.who) xs)) (is_in_turn xs) h).0 e)

pub turn_rest : (x : Change) (xs : List Change) → is_in_turn (x ∷ xs) ≡ true → is_in_turn xs ≡ true
turn_rest x xs h = (and_parts (x.live || not (list_any (is_live_by x.who) xs)) (is_in_turn xs) h).1

-- an undo makes nothing live
none-undone : (q who : List ℕ) (xs : List Change) → list_any (is_live_by q) xs ≡ false → list_any (is_live_by q) (undone who xs) ≡ false
none-undone q who [] h = refl
none-undone q who (x ∷ xs) h =
    let parts = neither (is_live_by q x) (list_any (is_live_by q) xs) h in
    by parts.0 (none-undone q who xs parts.1) (is_live_by who x && not (list_any (is_live_by who) xs))
  where
    by : is_live_by q x ≡ false → list_any (is_live_by q) (undone who xs) ≡ false → (b : Bool) → (is_live_by q (if b then with_live false x else x) || list_any (is_live_by q) (undone who xs)) ≡ false
    by here rest true = rest
    by here rest false = ap (λ b. b || list_any (is_live_by q) (undone who xs)) here ∙ rest

pub turn-undone : (who : List ℕ) (xs : List Change) → is_in_turn xs ≡ true → is_in_turn (undone who xs) ≡ true
turn-undone who [] h = refl
turn-undone who (x ∷ xs) h = by (turn-undone who xs (turn_rest x xs h)) (is_live_by who x) (list_any (is_live_by who) xs) refl refl
  where
    kept : is_in_turn (undone who xs) ≡ true → is_in_turn (x ∷ undone who xs) ≡ true
    kept rest = turn x (undone who xs) (λ e. none-undone x.who who xs (turn_first x xs h e)) rest

    by : is_in_turn (undone who xs) ≡ true → (l r : Bool) → is_live_by who x ≡ l → list_any (is_live_by who) xs ≡ r → is_in_turn (undone who (x ∷ xs)) ≡ true
    by rest l true e f = ap is_in_turn (undone-later who x xs f) ∙ kept rest
    by rest true false e f =
        let parts = and_parts x.live (is_by who x) e in
        let one : x.who ≡ who = same x.who who parts.1 in
        ap is_in_turn (undone-here who x xs e f)
        ∙ turn (with_live false x) xs (λ _. ap (λ w. list_any (is_live_by w) xs) one ∙ f) (turn_rest x xs h)
    by rest false false e f =
        ap (λ b. is_in_turn ((if b && not (list_any (is_live_by who) xs) then with_live false x else x) ∷ undone who xs)) e ∙ kept rest

-- a redo makes no change of another caller live
none-redone : (q who : List ℕ) → (who ≡ q → ⊥) → (xs : List Change) → list_any (is_live_by q) xs ≡ false → list_any (is_live_by q) (redone who xs) ≡ false
none-redone q who other [] h = refl
none-redone q who other (x ∷ xs) h =
    let parts = neither (is_live_by q x) (list_any (is_live_by q) xs) h in
    by parts.0 parts.1 (none-redone q who other xs parts.1) (is_undone_by who x) (is_by q x) refl refl
  where
    by : is_live_by q x ≡ false → list_any (is_live_by q) xs ≡ false → list_any (is_live_by q) (redone who xs) ≡ false → (b m : Bool) → is_undone_by who x ≡ b → is_by q x ≡ m → list_any (is_live_by q) (if b then with_live true x ∷ xs else x ∷ redone who xs) ≡ false
    by here before rest true true e f =
        absurd (other (sym (same x.who who (and_parts (not x.live) (is_by who x) e).1) ∙ same x.who q f))
    by here before rest true false e f = ap (λ b. b || list_any (is_live_by q) xs) f ∙ before
    by here before rest false m e f = ap (λ b. b || list_any (is_live_by q) (redone who xs)) here ∙ rest

pub turn-redone : (who : List ℕ) (xs : List Change) → is_in_turn xs ≡ true → is_in_turn (redone who xs) ≡ true
turn-redone who [] h = refl
turn-redone who (x ∷ xs) h = by (turn-redone who xs (turn_rest x xs h)) (is_undone_by who x) refl
  where
    by : is_in_turn (redone who xs) ≡ true → (b : Bool) → is_undone_by who x ≡ b → is_in_turn (if b then with_live true x ∷ xs else x ∷ redone who xs) ≡ true
    by rest true e = turn_rest x xs h
    by rest false e = turn x (redone who xs) (λ dead. none-redone x.who who (λ one.
        true≢false (sym (self_same who) ∙ ap (λ w. is_same_name w who) one ∙ sym (ap (λ b. not b && is_by who x) dead) ∙ e)) xs (turn_first x xs h dead)) rest

none-filter : (q : List ℕ) (p : Change → Bool) (xs : List Change) → list_any (is_live_by q) xs ≡ false → list_any (is_live_by q) (filter p xs) ≡ false
none-filter q p [] h = refl
none-filter q p (x ∷ xs) h =
    let parts = neither (is_live_by q x) (list_any (is_live_by q) xs) h in
    by parts.0 (none-filter q p xs parts.1) (p x)
  where
    by : is_live_by q x ≡ false → list_any (is_live_by q) (filter p xs) ≡ false → (b : Bool) → list_any (is_live_by q) (cond b (x ∷ filter p xs) (filter p xs)) ≡ false
    by here rest true = ap (λ b. b || list_any (is_live_by q) (filter p xs)) here ∙ rest
    by here rest false = rest

none-push : (q : List ℕ) (xs : List Change) (y : Change) → list_any (is_live_by q) xs ≡ false → is_live_by q y ≡ false → list_any (is_live_by q) (xs ++ y ∷ []) ≡ false
none-push q [] y h e = ap (λ b. b || false) e
none-push q (x ∷ xs) y h e =
    let parts = neither (is_live_by q x) (list_any (is_live_by q) xs) h in
    ap (λ b. b || list_any (is_live_by q) (xs ++ y ∷ [])) parts.0 ∙ none-push q xs y parts.1 e

-- a judgement keeps the turns
pub turn-judged : (y : Change) (xs : List Change) → is_in_turn xs ≡ true → is_in_turn (without_undone y.who xs ++ y ∷ []) ≡ true
turn-judged y [] h = turn y [] (λ _. refl) refl
turn-judged y (x ∷ xs) h = by (turn-judged y xs (turn_rest x xs h)) (not (is_undone_by y.who x)) refl
  where
    by : is_in_turn (without_undone y.who xs ++ y ∷ []) ≡ true → (b : Bool) → not (is_undone_by y.who x) ≡ b → is_in_turn (cond b (x ∷ without_undone y.who xs) (without_undone y.who xs) ++ y ∷ []) ≡ true
    by rest false e = rest
    by rest true e = turn x (without_undone y.who xs ++ y ∷ []) (λ dead.
        none-push x.who (without_undone y.who xs) y (none-filter x.who (λ z. not (is_undone_by y.who z)) xs (turn_first x xs h dead))
        (others dead e y.live)) rest
      where
        others : x.live ≡ false → not (is_undone_by y.who x) ≡ true → (l : Bool) → (l && is_by x.who y) ≡ false
        others dead e false = refl
        others dead e true = laws.symm y.who x.who ∙ sym (ap (λ b. not b && is_by y.who x) dead) ∙ not-true (is_undone_by y.who x) e
