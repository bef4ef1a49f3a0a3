-- The places of names in a list of different names.
use Rattle.std.proofs.Common.{◌≡◌, ℕ, zero, suc, ◌<◌, ◌≤◌, ◌+◌, List, [], ◌∷◌, ◌++◌, true, false, Some, None, refl, ap, sym, ◌∙◌, arith, length, get_or, position}
use Rattle.std.specs.Prelude.{Bool, cond, ◌||◌, not, nat_lt, is_some}
use Rattle.std.specs.List.{list_any, position_or_len}
use Rattle.std.specs.Str.{bytes_eq}
use Rattle.std.proofs.lemmas.Bool.Decides.{nat_tests}
use Rattle.std.proofs.lemmas.Slice.Eq.{bytes_eq-Decides}
use Rattle.std.proofs.lemmas.List.{get_or_append_left}
use Rattle.std.proofs.Common.{length-append}
use Rattle.name_table.specs.Table.{name_at, AreDifferent}

lt_test : (m n : ℕ) → m < n → nat_lt m n ≡ true
lt_test m n h = grind (arith, nat_tests)

not_lt_test : (m : ℕ) → nat_lt m m ≡ false
not_lt_test m = grind (arith, nat_tests)

found_within : {A : Type 0} (test : A → Bool) (xs : List A) → list_any test xs ≡ true → position_or_len test xs < length xs
found_within test [] e = absurd (cc)
found_within test (x ∷ xs) e = at (test x) e (found_within test xs)
  where
    at : (b : Bool) → (b || list_any test xs) ≡ true → (list_any test xs ≡ true → position_or_len test xs < length xs) → cond (not b) (1 + position_or_len test xs) 0 < length (x ∷ xs)
    at true e h = omega arith
    at false e h = omega (arith, h e)

missing_len : {A : Type 0} (test : A → Bool) (xs : List A) → list_any test xs ≡ false → position_or_len test xs ≡ length xs
missing_len test [] e = refl
missing_len test (x ∷ xs) e = at (test x) e (missing_len test xs)
  where
    at : (b : Bool) → (b || list_any test xs) ≡ false → (list_any test xs ≡ false → position_or_len test xs ≡ length xs) → cond (not b) (1 + position_or_len test xs) 0 ≡ length (x ∷ xs)
    at true e h = absurd (cc)
    at false e h = omega (arith, h e)

found_position : {A : Type 0} (test : A → Bool) (xs : List A) → list_any test xs ≡ true → position test xs ≡ Some (position_or_len test xs)
found_position test xs e = ap (λ b. cond b (Some (position_or_len test xs)) None) (lt_test (position_or_len test xs) (length xs) (found_within test xs e))

-- what no element passes has no place
pub missing_position : {A : Type 0} (test : A → Bool) (xs : List A) → list_any test xs ≡ false → position test xs ≡ None
missing_position test xs e =
    ap (λ n. cond (nat_lt n (length xs)) (Some (position_or_len test xs)) None) (missing_len test xs e)
    ∙ ap (λ b. cond b (Some (position_or_len test xs)) None) (not_lt_test (length xs))

next : (n : ℕ) → 1 + n ≡ suc n
next n = omega arith

first_passes : {A : Type 0} (test : A → Bool) (xs : List A) (d : A) → list_any test xs ≡ true → test (get_or xs (position_or_len test xs) d) ≡ true
first_passes test [] d e = absurd (cc)
first_passes test (x ∷ xs) d e = at (test x) refl e (first_passes test xs d)
  where
    at : (b : Bool) → test x ≡ b → (b || list_any test xs) ≡ true → (list_any test xs ≡ true → test (get_or xs (position_or_len test xs) d) ≡ true) → test (get_or (x ∷ xs) (cond (not b) (1 + position_or_len test xs) 0) d) ≡ true
    at true p e h = p
    at false p e h = ap (λ k. test (get_or (x ∷ xs) k d)) (next (position_or_len test xs)) ∙ h e

-- no name of the list is this one
pub none_is : (name : List ℕ) (names : List (List ℕ)) → ((i : ℕ) → i < length names → name_at names i ≡ name → ⊥) → list_any (bytes_eq name) names ≡ false
none_is name [] h = refl
none_is name (x ∷ xs) h = at (bytes_eq name x) refl (none_is name xs (λ i l. h (suc i) (omega arith)))
  where
    at : (b : Bool) → bytes_eq name x ≡ b → list_any (bytes_eq name) xs ≡ false → (b || list_any (bytes_eq name) xs) ≡ false
    at true e rest = absurd (h zero (omega arith) (sym ((bytes_eq-Decides name x).0 e)))
    at false e rest = rest

there : (name : List ℕ) (names : List (List ℕ)) (i : ℕ) → i < length names → name_at names i ≡ name → list_any (bytes_eq name) names ≡ true
there name [] i l e = absurd (omega arith)
there name (x ∷ xs) zero l e = ap (λ b. b || list_any (bytes_eq name) xs) ((bytes_eq-Decides name x).1 (sym e))
there name (x ∷ xs) (suc i) l e = at (bytes_eq name x) (there name xs i (omega arith) e)
  where
    at : (b : Bool) → list_any (bytes_eq name) xs ≡ true → (b || list_any (bytes_eq name) xs) ≡ true
    at true h = refl
    at false h = h

-- the place of a name of the list
pub place_of_name : (name : List ℕ) (names : List (List ℕ)) (i : ℕ) → AreDifferent names → i < length names → name_at names i ≡ name → position (bytes_eq name) names ≡ Some i
place_of_name name names i different l e =
    let any = there name names i l e in
    let within = found_within (bytes_eq name) names any in
    let first = (bytes_eq-Decides name (name_at names (position_or_len (bytes_eq name) names))).0 (first_passes (bytes_eq name) names [] any) in
    found_position (bytes_eq name) names any ∙ ap (λ n. Some n) (different (position_or_len (bytes_eq name) names) i within l (sym first ∙ sym e))

-- the name that is put at the end
pub last_name : (names : List (List ℕ)) (name : List ℕ) → name_at (names ++ name ∷ []) (length names) ≡ name
last_name [] name = refl
last_name (x ∷ xs) name = last_name xs name

-- a name that is not in the list is none of its names
pub is_none : (name : List ℕ) (names : List (List ℕ)) (i : ℕ) → list_any (bytes_eq name) names ≡ false → i < length names → name_at names i ≡ name → ⊥
is_none name names i none l e = let any = there name names i l e in absurd (cc)

-- names stay different with one more that was not there
pub different_more : (names : List (List ℕ)) (name : List ℕ) → AreDifferent names → list_any (bytes_eq name) names ≡ false → AreDifferent (names ++ name ∷ [])
different_more names name different none i j li lj e = by (nat_lt i (length names)) (nat_lt j (length names)) refl refl
  where
    size : length (names ++ name ∷ []) ≡ length names + 1
    size = length-append names (name ∷ [])

    inside : (k : ℕ) → k < length names → name_at (names ++ name ∷ []) k ≡ name_at names k
    inside k l = get_or_append_left names (name ∷ []) [] k l

    below : (k : ℕ) → nat_lt k (length names) ≡ true → k < length names
    below k t = grind (arith, nat_tests)

    last : (k : ℕ) → nat_lt k (length names) ≡ false → k < length (names ++ name ∷ []) → k ≡ length names
    last k t l = let s = size in let past : length names ≤ k = grind (arith, nat_tests) in omega (arith, s, past)

    at_last : (k : ℕ) → k ≡ length names → name_at (names ++ name ∷ []) k ≡ name
    at_last k s = ap (name_at (names ++ name ∷ [])) s ∙ last_name names name

    by : (b c : Bool) → nat_lt i (length names) ≡ b → nat_lt j (length names) ≡ c → i ≡ j
    by true true p q = different i j (below i p) (below j q) (sym (inside i (below i p)) ∙ e ∙ inside j (below j q))
    by true false p q = absurd (is_none name names i none (below i p) (sym (inside i (below i p)) ∙ e ∙ at_last j (last j q lj)))
    by false true p q = absurd (is_none name names j none (below j q) (sym (inside j (below j q)) ∙ sym e ∙ at_last i (last i p li)))
    by false false p q = last i p li ∙ sym (last j q lj)

-- an element has a place where one passes
pub some_position : {A : Type 0} (test : A → Bool) (xs : List A) → is_some (position test xs) ≡ list_any test xs
some_position test xs = by (list_any test xs) refl
  where
    by : (b : Bool) → list_any test xs ≡ b → is_some (position test xs) ≡ list_any test xs
    by true e = ap is_some (found_position test xs e) ∙ sym e
    by false e = ap is_some (missing_position test xs e) ∙ sym e

-- a name that has a place is in the list
pub is_there : (name : List ℕ) (names : List (List ℕ)) (i : ℕ) → position (bytes_eq name) names ≡ Some i → list_any (bytes_eq name) names ≡ true
is_there name names i e = sym (some_position (bytes_eq name) names) ∙ ap is_some e

-- a name that has none is not
pub not_there : (names : List (List ℕ)) (name : List ℕ) → position (bytes_eq name) names ≡ None → list_any (bytes_eq name) names ≡ false
not_there names name e = sym (some_position (bytes_eq name) names) ∙ ap is_some e

added_place : {A : Type 0} (test : A → Bool) (xs : List A) (x : A) → test x ≡ true → (list_any test (xs ++ x ∷ []) ≡ true) × (position_or_len test (xs ++ x ∷ []) ≡ position_or_len test xs)
added_place test [] x e = (rw e refl, rw e refl)
added_place test (y ∷ ys) x e = at (test y) (added_place test ys x e)
  where
    at : (b : Bool) → (list_any test (ys ++ x ∷ []) ≡ true) × (position_or_len test (ys ++ x ∷ []) ≡ position_or_len test ys) → ((b || list_any test (ys ++ x ∷ [])) ≡ true) × (cond (not b) (1 + position_or_len test (ys ++ x ∷ [])) 0 ≡ cond (not b) (1 + position_or_len test ys) 0)
    at true h = (refl, refl)
    at false h = (h.0, ap (λ n. 1 + n) h.1)

-- a name that was not there has the last place
pub last_position : (name : List ℕ) (names : List (List ℕ)) → list_any (bytes_eq name) names ≡ false → position (bytes_eq name) (names ++ name ∷ []) ≡ Some (length names)
last_position name names none =
    let more = added_place (bytes_eq name) names name ((bytes_eq-Decides name name).1 refl) in
    found_position (bytes_eq name) (names ++ name ∷ []) more.0 ∙ ap (λ n. Some n) (more.1 ∙ missing_len (bytes_eq name) names none)
