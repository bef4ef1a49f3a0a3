-- Names in the order in which they first stand.
use Rattle.std.proofs.Common.{◌≡◌, ℕ, List, [], ◌∷◌, ◌++◌, true, false, cond, refl, ap, sym, ◌∙◌}
use Rattle.std.specs.Prelude.{Bool, not, ◌||◌, filter}
use Rattle.std.specs.List.{list_any, AllByRecursion, IsDistinct as AllDiffer}
use Rattle.std.specs.Str.{bytes_eq}
use Rattle.std.specs.Cmp.{IsEquivalence}
use Rattle.std.proofs.lemmas.Cmp.{nat_list_eq_equiv}
use Rattle.small_lemmas.proofs.Tests.{neither}
use Rattle.file_rows.specs.Rows.{first_seen}

pub laws : IsEquivalence bytes_eq
laws = nat_list_eq_equiv

abbrev pub others : List ℕ → List ℕ → Bool
others name other = not (bytes_eq name other)

-- the names with one more at their end, where it is not among them
abbrev pub add_name : List (List ℕ) → List ℕ → List (List ℕ)
add_name [] n = n ∷ []
add_name (x ∷ xs) n = cond (bytes_eq n x) (x ∷ xs) (x ∷ add_name xs n)

filter-cond : (p : List ℕ → Bool) (b : Bool) (xs ys : List (List ℕ)) → filter p (cond b xs ys) ≡ cond b (filter p xs) (filter p ys)
filter-cond p true xs ys = refl
filter-cond p false xs ys = refl

filtered : (b c d : Bool) (z n : List ℕ) (F G : List (List ℕ)) → bytes_eq n z ≡ b → (b ≡ true → d ≡ c) → G ≡ cond d F (add_name F n) → cond b (cond (not c) (z ∷ F) F) (cond (not c) (z ∷ G) G) ≡ cond d (cond (not c) (z ∷ F) F) (add_name (cond (not c) (z ∷ F) F) n)
filtered true true d z n F G e f g = sym (ap (λ d. cond d F (add_name F n)) (f refl))
filtered true false d z n F G e f g = sym (ap (λ d. cond d (z ∷ F) (add_name (z ∷ F) n)) (f refl) ∙ ap (λ b. cond b (z ∷ F) (z ∷ add_name F n)) e)
filtered false true d z n F G e f g = g
filtered false false true z n F G e f g = ap (λ xs. z ∷ xs) g
filtered false false false z n F G e f g = ap (λ xs. z ∷ xs) g ∙ sym (ap (λ b. cond b (z ∷ F) (z ∷ add_name F n)) e)

filter-add_name : (y n : List ℕ) (zs : List (List ℕ)) → filter (others y) (add_name zs n) ≡ cond (bytes_eq y n) (filter (others y) zs) (add_name (filter (others y) zs) n)
filter-add_name y n [] = by (bytes_eq y n)
  where
    by : (b : Bool) → cond (not b) (n ∷ []) [] ≡ cond b [] (n ∷ [])
    by true = refl
    by false = refl
filter-add_name y n (z ∷ zs) =
    filter-cond (others y) (bytes_eq n z) (z ∷ zs) (z ∷ add_name zs n)
    ∙ filtered (bytes_eq n z) (bytes_eq y z) (bytes_eq y n) z n (filter (others y) zs) (filter (others y) (add_name zs n)) refl
    (λ e. laws.symm y n ∙ laws.congr n z y e ∙ laws.symm z y) (filter-add_name y n zs)

-- one more name
pub first_seen-append : (xs : List (List ℕ)) (n : List ℕ) → first_seen (xs ++ n ∷ []) ≡ add_name (first_seen xs) n
first_seen-append [] n = refl
first_seen-append (y ∷ xs) n =
    ap (λ zs. y ∷ filter (others y) zs) (first_seen-append xs n) ∙ ap (λ zs. y ∷ zs) (filter-add_name y n (first_seen xs))
    ∙ by (bytes_eq y n) (bytes_eq n y) (laws.symm y n) (filter (others y) (first_seen xs))
  where
    by : (b c : Bool) → b ≡ c → (F : List (List ℕ)) → y ∷ cond b F (add_name F n) ≡ cond c (y ∷ F) (y ∷ add_name F n)
    by true c e F = ap (λ c. cond c (y ∷ F) (y ∷ add_name F n)) e
    by false c e F = ap (λ c. cond c (y ∷ F) (y ∷ add_name F n)) e

-- no name stands twice
abbrev pub IsDistinct : List (List ℕ) → Type 0
IsDistinct [] = Unit {0}
IsDistinct (x ∷ xs) = (list_any (bytes_eq x) xs ≡ false) × IsDistinct xs

-- a name that is not left out is found as before
any-others : (n y : List ℕ) (zs : List (List ℕ)) → bytes_eq n y ≡ false → list_any (bytes_eq n) (filter (others y) zs) ≡ list_any (bytes_eq n) zs
any-others n y [] ne = refl
any-others n y (z ∷ zs) ne = by (any-others n y zs ne) (bytes_eq y z) refl
  where
    by : list_any (bytes_eq n) (filter (others y) zs) ≡ list_any (bytes_eq n) zs → (b : Bool) → bytes_eq y z ≡ b → list_any (bytes_eq n) (cond (not (bytes_eq y z)) (z ∷ filter (others y) zs) (filter (others y) zs)) ≡ (bytes_eq n z || list_any (bytes_eq n) zs)
    by rest true e =
        ap (λ b. list_any (bytes_eq n) (cond (not b) (z ∷ filter (others y) zs) (filter (others y) zs))) e ∙ rest
        ∙ sym (ap (λ b. b || list_any (bytes_eq n) zs) (laws.symm n z ∙ sym (laws.congr y z n e) ∙ laws.symm y n ∙ ne))
    by rest false e =
        ap (λ b. list_any (bytes_eq n) (cond (not b) (z ∷ filter (others y) zs) (filter (others y) zs))) e ∙ ap (λ b. bytes_eq n z || b) rest

pub list_any-first_seen : (n : List ℕ) (xs : List (List ℕ)) → list_any (bytes_eq n) (first_seen xs) ≡ list_any (bytes_eq n) xs
list_any-first_seen n [] = refl
list_any-first_seen n (x ∷ xs) = by (list_any-first_seen n xs) (bytes_eq n x) refl
  where
    by : list_any (bytes_eq n) (first_seen xs) ≡ list_any (bytes_eq n) xs → (b : Bool) → bytes_eq n x ≡ b → (bytes_eq n x || list_any (bytes_eq n) (filter (others x) (first_seen xs))) ≡ (bytes_eq n x || list_any (bytes_eq n) xs)
    by rest true e = ap (λ b. b || list_any (bytes_eq n) (filter (others x) (first_seen xs))) e ∙ sym (ap (λ b. b || list_any (bytes_eq n) xs) e)
    by rest false e = ap (λ b. bytes_eq n x || b) (any-others n x (first_seen xs) e ∙ rest)

none-others : (y : List ℕ) (zs : List (List ℕ)) → list_any (bytes_eq y) (filter (others y) zs) ≡ false
none-others y [] = refl
none-others y (z ∷ zs) = by (none-others y zs) (bytes_eq y z) refl
  where
    by : list_any (bytes_eq y) (filter (others y) zs) ≡ false → (b : Bool) → bytes_eq y z ≡ b → list_any (bytes_eq y) (cond (not (bytes_eq y z)) (z ∷ filter (others y) zs) (filter (others y) zs)) ≡ false
    by rest true e = ap (λ b. list_any (bytes_eq y) (cond (not b) (z ∷ filter (others y) zs) (filter (others y) zs))) e ∙ rest
    by rest false e =
        ap (λ b. list_any (bytes_eq y) (cond (not b) (z ∷ filter (others y) zs) (filter (others y) zs))) e
        ∙ ap (λ b. b || list_any (bytes_eq y) (filter (others y) zs)) e ∙ rest

none-filter : (n : List ℕ) (p : List ℕ → Bool) (zs : List (List ℕ)) → list_any (bytes_eq n) zs ≡ false → list_any (bytes_eq n) (filter p zs) ≡ false
none-filter n p [] e = refl
none-filter n p (z ∷ zs) e =
    let parts = neither (bytes_eq n z) (list_any (bytes_eq n) zs) e in
    by parts.0 (none-filter n p zs parts.1) (p z)
  where
    by : bytes_eq n z ≡ false → list_any (bytes_eq n) (filter p zs) ≡ false → (b : Bool) → list_any (bytes_eq n) (cond b (z ∷ filter p zs) (filter p zs)) ≡ false
    by here rest true = ap (λ b. b || list_any (bytes_eq n) (filter p zs)) here ∙ rest
    by here rest false = rest

IsDistinct-filter : (p : List ℕ → Bool) (zs : List (List ℕ)) → IsDistinct zs → IsDistinct (filter p zs)
IsDistinct-filter p [] d = tt
IsDistinct-filter p (z ∷ zs) d = by (IsDistinct-filter p zs d.1) (p z)
  where
    by : IsDistinct (filter p zs) → (b : Bool) → IsDistinct (cond b (z ∷ filter p zs) (filter p zs))
    by rest true = (none-filter z p zs d.0, rest)
    by rest false = rest

pub IsDistinct-first_seen : (xs : List (List ℕ)) → IsDistinct (first_seen xs)
IsDistinct-first_seen [] = tt
IsDistinct-first_seen (x ∷ xs) = (none-others x (first_seen xs), IsDistinct-filter (others x) (first_seen xs) (IsDistinct-first_seen xs))

none_equal : (x : List ℕ) (xs : List (List ℕ)) → list_any (bytes_eq x) xs ≡ false → AllByRecursion (λ y. bytes_eq x y ≡ false) xs
none_equal x [] e = tt
none_equal x (y ∷ ys) e =
    let parts = neither (bytes_eq x y) (list_any (bytes_eq x) ys) e in
    (parts.0, none_equal x ys parts.1)

-- the same, in the words of the library
pub all_differ : (xs : List (List ℕ)) → IsDistinct xs → AllDiffer bytes_eq xs
unfolding AllDiffer
all_differ [] d = tt
all_differ (x ∷ xs) d = (none_equal x xs d.0, all_differ xs d.1)

any-push : (x n : List ℕ) (xs : List (List ℕ)) → list_any (bytes_eq x) xs ≡ false → bytes_eq x n ≡ false → list_any (bytes_eq x) (xs ++ n ∷ []) ≡ false
any-push x n [] e f = ap (λ b. b || false) f
any-push x n (y ∷ ys) e f =
    let parts = neither (bytes_eq x y) (list_any (bytes_eq x) ys) e in
    ap (λ b. b || list_any (bytes_eq x) (ys ++ n ∷ [])) parts.0 ∙ any-push x n ys parts.1 f

-- one more name that is not there yet
pub IsDistinct-push : (xs : List (List ℕ)) (n : List ℕ) → IsDistinct xs → list_any (bytes_eq n) xs ≡ false → IsDistinct (xs ++ n ∷ [])
IsDistinct-push [] n d e = (refl, tt)
IsDistinct-push (x ∷ xs) n d e =
    let parts = neither (bytes_eq n x) (list_any (bytes_eq n) xs) e in
    (any-push x n xs d.0 (laws.symm x n ∙ parts.0), IsDistinct-push xs n d.1 parts.1)
