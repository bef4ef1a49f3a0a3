-- Names that are gathered, each once.
use Rattle.std.proofs.Common.{◌≡◌, ℕ, zero, suc, ◌+◌, ◌≤◌, Bool, true, false, true≢false, cond, List, [], ◌∷◌, ◌++◌, length, refl, ap, ap₂, sym, ◌∙◌, subst, append_assoc, length-append, take, map, get_or, ◌<◌, arith}
use Rattle.std.specs.Prelude.{flat_map, slice_get, Some, position, IsPermutation}
use Rattle.std.proofs.lemmas.List.Quantifiers.{position-Some}
use Rattle.std.proofs.lemmas.List.Sorted.{All-permutation, length_permutation, list_any-IsPermutation}
use Rattle.std.proofs.lemmas.List.{append-nil, take_more, get_or_append_left, map-append}
use Rattle.std.proofs.lemmas.Grind.{flat_map-append}
use Rattle.std.proofs.lemmas.Option.{slice_get_within, get_or_from_slice_get}
use Rattle.desk_model.proofs.Nested.{take-there}
use Rattle.std.specs.Prelude.{◌||◌, All}
use Rattle.std.specs.List.{list_any, AllByRecursion, IsDistinct}
use Rattle.std.specs.Str.{bytes_eq}
use Rattle.std.proofs.lemmas.List.Folds.{list_any-append}
use Rattle.std.proofs.lemmas.List.Elements.{All-push, All-head, All-tail, All-from_recursion, All-weaker}
use Rattle.std.proofs.lemmas.Map.Keys.{IsDistinct-push, IsDistinct-head, IsDistinct-tail}
use Rattle.std.proofs.lemmas.Map.Steps.{list_any_congr}
use Rattle.desk_model.specs.Name.{is_name}
use Rattle.desk_model.proofs.Names.{same_name}
use Rattle.file_rows.proofs.Seen.{laws}
use Rattle.topic_universe.specs.Names.{with_name, with_names, AreDistinctNames, AddsNames, numbered_names}

pub with_names-append : (names xs ys : List (List ℕ)) → with_names names (xs ++ ys) ≡ with_names (with_names names xs) ys
with_names-append names [] ys = refl
with_names-append names (x ∷ xs) ys = with_names-append (with_name names x) xs ys

or-false : (a : Bool) → a || false ≡ a
or-false true = refl
or-false false = refl

or-assoc : (a b c : Bool) → (a || b) || c ≡ a || (b || c)
or-assoc true b c = refl
or-assoc false b c = refl

or-absorbs : (a b : Bool) → (b ≡ true → a ≡ true) → a ≡ a || b
or-absorbs true b h = refl
or-absorbs false true h = absurd (true≢false (sym (h refl)))
or-absorbs false false h = refl

-- ---- membership
any-with_name : (names : List (List ℕ)) (n m : List ℕ) → list_any (bytes_eq m) (with_name names n) ≡ list_any (bytes_eq m) names || bytes_eq m n
any-with_name names n m = go (list_any (bytes_eq n) names) refl
  where
    go : (b : Bool) → list_any (bytes_eq n) names ≡ b → list_any (bytes_eq m) (cond b names (names ++ n ∷ [])) ≡ list_any (bytes_eq m) names || bytes_eq m n
    go true e = or-absorbs (list_any (bytes_eq m) names) (bytes_eq m n) (λ is. list_any_congr laws m n names is ∙ e)
    go false e = list_any-append (bytes_eq m) names (n ∷ []) ∙ ap (λ b. list_any (bytes_eq m) names || b) (or-false (bytes_eq m n))

pub any-with_names : (names more : List (List ℕ)) (m : List ℕ) → list_any (bytes_eq m) (with_names names more) ≡ list_any (bytes_eq m) names || list_any (bytes_eq m) more
any-with_names names [] m = sym (or-false (list_any (bytes_eq m) names))
any-with_names names (n ∷ more) m =
    any-with_names (with_name names n) more m
    ∙ ap (λ b. b || list_any (bytes_eq m) more) (any-with_name names n m)
    ∙ or-assoc (list_any (bytes_eq m) names) (bytes_eq m n) (list_any (bytes_eq m) more)

-- ---- gathered names differ
pub AreNames-nil : AreDistinctNames []
unfolding IsDistinct
AreNames-nil = record { named = λ k d lt. absurd (omega arith); distinct = tt }

pub AreNames-with_name : (names : List (List ℕ)) (n : List ℕ) → AreDistinctNames names → is_name n ≡ true → AreDistinctNames (with_name names n)
AreNames-with_name names n are is = go (list_any (bytes_eq n) names) refl
  where
    go : (b : Bool) → list_any (bytes_eq n) names ≡ b → AreDistinctNames (cond b names (names ++ n ∷ []))
    go true e = are
    go false e = record { named = All-push (λ name. is_name name ≡ true) names n are.named is; distinct = IsDistinct-push laws names n are.distinct e }

-- ---- how many they are
length-with_name : (names : List (List ℕ)) (n : List ℕ) → length (with_name names n) ≤ length names + 1
length-with_name names n = go (list_any (bytes_eq n) names)
  where
    go : (b : Bool) → length (cond b names (names ++ n ∷ [])) ≤ length names + 1
    go true = omega arith
    go false = omega (arith, length-append names (n ∷ []))

pub length-with_names : (names more : List (List ℕ)) → length (with_names names more) ≤ length names + length more
length-with_names names [] = omega arith
length-with_names names (n ∷ more) = let rest = length-with_names (with_name names n) more in let first = length-with_name names n in omega (arith, rest, first)

-- ---- names that differ are added as they are
lacks-all : (n m : List ℕ) (xs : List (List ℕ)) → AllByRecursion (λ y. bytes_eq n y ≡ false) xs → list_any (bytes_eq m) xs ≡ true → bytes_eq m n ≡ false
lacks-all n m xs apart is = go (bytes_eq m n) refl
  where
    none : (ys : List (List ℕ)) → AllByRecursion (λ y. bytes_eq n y ≡ false) ys → list_any (bytes_eq n) ys ≡ false
    none [] h = refl
    none (y ∷ ys) h = rw (h.0) (none ys h.1)

    go : (b : Bool) → bytes_eq m n ≡ b → bytes_eq m n ≡ false
    go false e = e
    go true e = absurd (true≢false (sym is ∙ list_any_congr laws m n xs e ∙ none xs apart))

pub added-whole : (names xs : List (List ℕ)) → IsDistinct bytes_eq xs → ((m : List ℕ) → list_any (bytes_eq m) xs ≡ true → list_any (bytes_eq m) names ≡ false) → with_names names xs ≡ names ++ xs
added-whole names [] distinct apart = sym (append-nil names)
added-whole names (x ∷ xs) distinct apart =
    let here : list_any (bytes_eq x) (x ∷ xs) ≡ true = ap (λ b. b || list_any (bytes_eq x) xs) (laws.refl x) in
    let new : with_name names x ≡ names ++ x ∷ [] = ap (λ b. cond b names (names ++ x ∷ [])) (apart x here) in
    let later : (m : List ℕ) → list_any (bytes_eq m) xs ≡ true → list_any (bytes_eq m) (names ++ x ∷ []) ≡ false = λ m is.
    let there : list_any (bytes_eq m) (x ∷ xs) ≡ true = grind (arith, is) in
    list_any-append (bytes_eq m) names (x ∷ [])
    ∙ ap (λ b. b || list_any (bytes_eq m) (x ∷ [])) (apart m there)
    ∙ or-false (bytes_eq m x)
    ∙ lacks-all x m xs (IsDistinct-head bytes_eq x xs distinct) is
    in
    ap (λ s. with_names s xs) new ∙ added-whole (names ++ x ∷ []) xs (IsDistinct-tail bytes_eq x xs distinct) later ∙ append_assoc names (x ∷ []) xs

pub AreNames-with_names : (names more : List (List ℕ)) → AreDistinctNames names → All (λ name. is_name name ≡ true) more → AreDistinctNames (with_names names more)
AreNames-with_names names [] are all = are
AreNames-with_names names (n ∷ more) are all =
    AreNames-with_names (with_name names n) more (AreNames-with_name names n are (All-head (λ name. is_name name ≡ true) n more all)) (All-tail (λ name. is_name name ≡ true) n more all)

-- a name that is not there yet goes to the end
pub added_new : (names : List (List ℕ)) (n : List ℕ) → list_any (bytes_eq n) names ≡ false → with_name names n ≡ names ++ n ∷ []
added_new names n new = ap (λ b. cond b names (names ++ n ∷ [])) new

-- a name of names that differ is not among those before it
pub fresh : (xs : List (List ℕ)) (i : ℕ) (n : List ℕ) → IsDistinct bytes_eq xs → slice_get xs i ≡ Some n → list_any (bytes_eq n) (take i xs) ≡ false
fresh [] i n distinct got = absurd (cc)
fresh (x ∷ xs) zero n distinct got = refl
fresh (x ∷ xs) (suc i) n distinct got =
    let at : get_or xs i [] ≡ n = get_or_from_slice_get xs i n [] got in
    let apart : bytes_eq x (get_or xs i []) ≡ false = All-from_recursion (λ y. bytes_eq x y ≡ false) xs (IsDistinct-head bytes_eq x xs distinct) i [] (slice_get_within xs i n got) in
    let here : bytes_eq n x ≡ false = laws.symm n x ∙ ap (bytes_eq x) (sym at) ∙ apart in
    rw here (fresh xs i n (IsDistinct-tail bytes_eq x xs distinct) got)

-- ---- steps of loops
pub gather_step : (start xs : List (List ℕ)) (i : ℕ) (n : List ℕ) (names names' : List (List ℕ)) → slice_get xs i ≡ Some n → names ≡ with_names start (take i xs) → names' ≡ with_name names n → names' ≡ with_names start (take (i + 1) xs)
gather_step start xs i n names names' got so_far new =
    new ∙ ap (λ s. with_name s n) so_far ∙ sym (with_names-append start (take i xs) (n ∷ [])) ∙ ap (with_names start) (sym (take-there xs i n got))

-- ---- names keep their numbers
kept_one : (names : List (List ℕ)) (x : List ℕ) (n : ℕ) → n < length names → get_or (with_name names x) n [] ≡ get_or names n []
kept_one names x n lt = go (list_any (bytes_eq x) names)
  where
    go : (b : Bool) → get_or (cond b names (names ++ x ∷ [])) n [] ≡ get_or names n []
    go true = refl
    go false = get_or_append_left names (x ∷ []) [] n lt

longer_one : (names : List (List ℕ)) (x : List ℕ) → length names ≤ length (with_name names x)
longer_one names x = go (list_any (bytes_eq x) names)
  where
    go : (b : Bool) → length names ≤ length (cond b names (names ++ x ∷ []))
    go true = omega arith
    go false = omega (arith, length-append names (x ∷ []))

longer_all : (names more : List (List ℕ)) → length names ≤ length (with_names names more)
longer_all names [] = omega arith
longer_all names (x ∷ more) = let rest = longer_all (with_name names x) more in let first = longer_one names x in omega (arith, rest, first)

kept_all : (names more : List (List ℕ)) (n : ℕ) → n < length names → get_or (with_names names more) n [] ≡ get_or names n []
kept_all names [] n lt = refl
kept_all names (x ∷ more) n lt = let longer = longer_one names x in kept_all (with_name names x) more n (omega (arith, lt, longer)) ∙ kept_one names x n lt

-- numbers that are kept stand for the same names
pub renamed : (old new : List (List ℕ)) (numbers : List ℕ) → ((n : ℕ) → n < length old → get_or new n [] ≡ get_or old n []) → All (λ n. n < length old) numbers → numbered_names new numbers ≡ numbered_names old numbers
renamed old new [] kept within = refl
renamed old new (n ∷ numbers) kept within =
    ap₂ (λ (name : List ℕ) (names : List (List ℕ)). name ∷ names) (kept n (All-head (λ n. n < length old) n numbers within)) (renamed old new numbers kept (All-tail (λ n. n < length old) n numbers within))

-- one more number
pub number_step : (names names' : List (List ℕ)) (ranked : List (List ℕ)) (numbers numbers' : List ℕ) (i n : ℕ) (name : List ℕ) → names' ≡ with_name names name → All (λ n. n < length names) numbers → numbered_names names numbers ≡ take i ranked →
    slice_get ranked i ≡ Some name → position (bytes_eq name) names' ≡ Some n → numbers' ≡ numbers ++ n ∷ [] → All (λ n. n < length names') numbers' × (numbered_names names' numbers' ≡ take (i + 1) ranked)
number_step names names' ranked numbers numbers' i n name added within so_far got place pushed =
    let found = position-Some (bytes_eq name) names' n [] place in
    let longer : length names ≤ length names' = subst (λ (ns : List (List ℕ)). length names ≤ length ns) (sym added) (longer_one names name) in
    let kept : (k : ℕ) → k < length names → get_or names' k [] ≡ get_or names k [] = λ k lt. ap (λ ns. get_or ns k []) added ∙ kept_one names name k lt in
    let before : All (λ n. n < length names') numbers = All-weaker (λ n. n < length names) (λ n. n < length names') (λ n lt. omega (arith, lt, longer)) numbers within in
    let step = λ (n : ℕ). get_or names' n [] in (
      subst (All (λ n. n < length names')) (sym pushed) (All-push (λ n. n < length names') numbers n before found.0),
      ap (map step) pushed ∙ map-append step numbers (n ∷ []) ∙ ap₂ (λ ns x. ns ++ x ∷ []) (renamed names names' numbers kept within ∙ so_far) (sym (same_name name (step n) found.1)) ∙ sym (take-there ranked i name got),
    )

-- ---- gathering
pub Gathers-none : (names : List (List ℕ)) → AreDistinctNames names → AddsNames names [] names
Gathers-none names are = record {
  names = are;
  same = λ m. ap (list_any (bytes_eq m)) (sym (append-nil names));
  longer = omega arith;
  few = omega arith;
  kept = λ n lt. refl;
}

pub Gathers-then : (a b c xs ys : List (List ℕ)) → AddsNames a xs b → AddsNames b ys c → AddsNames a (xs ++ ys) c
Gathers-then a b c xs ys first then = record {
  names = then.names;
  same = λ m.
      then.same m ∙ list_any-append (bytes_eq m) b ys ∙ ap (λ x. x || list_any (bytes_eq m) ys) (first.same m)
      ∙ sym (list_any-append (bytes_eq m) (a ++ xs) ys) ∙ ap (list_any (bytes_eq m)) (append_assoc a xs ys);
  longer = let x = first.longer in let y = then.longer in omega (arith, x, y);
  few = let x = first.few in let y = then.few in let joined = length-append xs ys in omega (arith, x, y, joined);
  kept = λ n lt. then.kept n (let x = first.longer in omega (arith, x, lt)) ∙ first.kept n lt;
}

-- names that are added in another order gather the same
pub Gathers-moved : (old ranked more new : List (List ℕ)) → AreDistinctNames old → All (λ name. is_name name ≡ true) more → IsPermutation more ranked → new ≡ with_names old ranked → AddsNames old more new
Gathers-moved old ranked more new are all moved is = subst (AddsNames old more) (sym is) (record {
  names = AreNames-with_names old ranked are (All-permutation (λ name. is_name name ≡ true) more ranked moved all);
  same = λ m.
      any-with_names old ranked m ∙ ap (λ b. list_any (bytes_eq m) old || b) (sym (list_any-IsPermutation (bytes_eq m) more ranked moved)) ∙ sym (list_any-append (bytes_eq m) old more);
  longer = longer_all old ranked;
  few = let short = length-with_names old ranked in let long = length_permutation more ranked moved in omega (arith, short, long);
  kept = kept_all old ranked;
})

-- one more of what is gathered
pub flat_more : {X : Type 0} (f : X → List (List ℕ)) (xs : List X) (i : ℕ) (x : X) → i < length xs → x ≡ get_or xs i x → flat_map f (take (i + 1) xs) ≡ flat_map f (take i xs) ++ f x
flat_more f xs i x lt is =
    let taken : take (i + 1) xs ≡ take i xs ++ x ∷ [] = take_more xs i x lt ∙ ap (λ y. take i xs ++ y ∷ []) (sym is) in
    ap (flat_map f) taken ∙ flat_map-append f (take i xs) (x ∷ []) ∙ ap (λ ys. flat_map f (take i xs) ++ ys) (append-nil (f x))
