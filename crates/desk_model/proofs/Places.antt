-- Documents with their ranks, in order of the ranks and ascending by document.
use Rattle.std.proofs.Common.{◌≡◌, ◌≢◌, ℕ, zero, suc, ◌+◌, ◌<◌, ◌≤◌, Bool, true, false, cond, nat_eq, List, [], ◌∷◌, ◌++◌, length, get_or, Option, Some, None, Ok, Err, refl, ap, sym, ◌∙◌, arith}
use Rattle.std.specs.List.{AllByRecursion, Contains, IsDistinct, position_from}
use Rattle.std.specs.List.Sorted.{IsPermutation, IsNonDecreasingBy, IsBinarySearchResult}
use Rattle.std.specs.Ordering.{nat_cmp, ordering_index}
use Rattle.std.proofs.lemmas.Cmp.{ranked}
use Rattle.std.proofs.lemmas.Bool.Decides.{nat_tests}
use Rattle.std.proofs.lemmas.List.Elements.{All-from_recursion, recursion_from_All, Contains-get_or}
use Rattle.std.proofs.lemmas.Map.Keys.{IsDistinct-IsPermutation, IsDistinct-head, IsDistinct-tail}
use Rattle.std.proofs.lemmas.List.Sorted.{Contains-permutation, IsPermutation-sym, IsNonDecreasingBy-from_default}
use Rattle.desk_model.specs.Placed.{lookup, IsAscending, placed_from, KeepsPlaces}
use Rattle.desk_model.specs.declared.placed.Placed.{Placed}

abbrev pub nothing : Placed
nothing = record { doc = 0; rank = 0 }

-- ---- what a list by rank says
pub lookup-placed_from : (n : ℕ) (docs : List ℕ) (doc : ℕ) → lookup (placed_from n docs) doc ≡ position_from (λ each. nat_eq each doc) n docs
lookup-placed_from n [] doc = refl
lookup-placed_from n (d ∷ docs) doc = ap (λ rest. cond (nat_eq d doc) (Some n) rest) (lookup-placed_from (n + 1) docs doc)

pub placed_from-push : (n : ℕ) (docs : List ℕ) (doc : ℕ) → placed_from n (docs ++ doc ∷ []) ≡ placed_from n docs ++ record { doc = doc; rank = n + length docs } ∷ []
placed_from-push n [] doc = ap (λ (r : ℕ). let p : Placed = record { doc = doc; rank = r } in p ∷ []) (omega arith)
placed_from-push n (d ∷ docs) doc =
    let step : n + 1 + length docs ≡ n + suc (length docs) = omega arith in
    let first : Placed = record { doc = d; rank = n } in
    ap (λ rest. first ∷ rest) (placed_from-push (n + 1) docs doc ∙ ap (λ (r : ℕ). let p : Placed = record { doc = doc; rank = r } in placed_from (n + 1) docs ++ p ∷ []) step)

abbrev same_doc : Placed → Placed → Bool
same_doc x y = nat_eq x.doc y.doc

apart_placed : (d n : ℕ) (docs : List ℕ) → AllByRecursion (λ y. nat_eq d y ≡ false) docs → AllByRecursion (λ (p : Placed). nat_eq d p.doc ≡ false) (placed_from n docs)
apart_placed d n [] h = tt
apart_placed d n (x ∷ docs) h = (h.0, apart_placed d (n + 1) docs h.1)

distinct_placed : (n : ℕ) (docs : List ℕ) → IsDistinct nat_eq docs → IsDistinct same_doc (placed_from n docs)
unfolding IsDistinct
distinct_placed n [] h = tt
distinct_placed n (d ∷ docs) h = (apart_placed d (n + 1) docs h.0, distinct_placed (n + 1) docs h.1)

-- ---- what a list ascending by document says
-- documents ascend from place to place
pub ascending_far : (es : List Placed) (i j : ℕ) (d : Placed) → IsAscending es → i < j → j < length es → (get_or es i d).doc < (get_or es j d).doc
ascending_far [] i j d h lt in_range = absurd (omega arith)
ascending_far (e ∷ es) zero zero d h lt in_range = absurd (omega arith)
ascending_far (e ∷ es) zero (suc j) d h lt in_range = All-from_recursion (λ (f : Placed). e.doc < f.doc) es h.0 j d (omega arith)
ascending_far (e ∷ es) (suc i) zero d h lt in_range = absurd (omega arith)
ascending_far (e ∷ es) (suc i) (suc j) d h lt in_range = ascending_far es i j d h.1 (omega arith) (omega arith)

-- the entry at a place is what is found for its document
pub lookup_at : (es : List Placed) (k : ℕ) (d : Placed) → IsAscending es → k < length es → lookup es (get_or es k d).doc ≡ Some (get_or es k d).rank
lookup_at [] k d h in_range = absurd (omega arith)
lookup_at (e ∷ es) zero d h in_range = grind (arith, nat_tests)
lookup_at (e ∷ es) (suc k) d h in_range =
    let before : e.doc < (get_or es k d).doc = All-from_recursion (λ (f : Placed). e.doc < f.doc) es h.0 k d (omega arith) in
    let rest : lookup es (get_or es k d).doc ≡ Some (get_or es k d).rank = lookup_at es k d h.1 (omega arith) in
    let apart : nat_eq e.doc (get_or es k d).doc ≡ false = grind (arith, nat_tests) in
    rw apart rest

-- a document of no entry is not found
pub lookup_none : (es : List Placed) (doc : ℕ) → ((k : ℕ) → k < length es → (get_or es k nothing).doc ≢ doc) → lookup es doc ≡ None
lookup_none [] doc h = refl
lookup_none (e ∷ es) doc h =
    let here : e.doc ≢ doc = h 0 (omega arith) in
    let apart : nat_eq e.doc doc ≡ false = grind (arith, nat_tests) in
    rw apart (lookup_none es doc (λ k lt. h (suc k) (omega arith)))

placed_same : (d d' r r' : ℕ) → d ≡ d' → r ≡ r' → let x : Placed = record { doc = d; rank = r } in let y : Placed = record { doc = d'; rank = r' } in x ≡ y
placed_same d d' r r' p q = ap (λ (n : ℕ). let x : Placed = record { doc = n; rank = r } in x) p ∙ ap (λ (n : ℕ). let x : Placed = record { doc = d'; rank = n } in x) q

-- an entry that is found stands in the list
found_in : (es : List Placed) (doc r : ℕ) → lookup es doc ≡ Some r → Contains es (record { doc = doc; rank = r })
found_in [] doc r h = absurd (cc)
found_in (e ∷ es) doc r h = go (nat_eq e.doc doc) refl (found_in es doc r)
  where
    go : (b : Bool) → nat_eq e.doc doc ≡ b → (lookup es doc ≡ Some r → Contains es (record { doc = doc; rank = r })) → Contains (e ∷ es) (record { doc = doc; rank = r })
    go true t later =
        let ranked : e.rank ≡ r = grind (arith, h) in
        let same : e.doc ≡ doc = grind (arith, nat_tests) in
        (0, omega arith, placed_same e.doc doc e.rank r same ranked)
    go false t later =
        let rest : lookup es doc ≡ Some r = rw t at h in
        let found = later rest in
        (suc found.0, omega (arith, found.1), found.2)

-- no entry of a list has a document that is not found
missed : (es : List Placed) (doc : ℕ) (e : Placed) → lookup es doc ≡ None → Contains es e → e.doc ≢ doc
missed [] doc e h (k, lt, is) same = omega arith
missed (x ∷ es) doc e h (k, lt, is) same = go (nat_eq x.doc doc) refl k lt is (λ rest inside. missed es doc e rest inside same)
  where
    go : (b : Bool) → nat_eq x.doc doc ≡ b → (k : ℕ) → k < length (x ∷ es) → get_or (x ∷ es) k e ≡ e → (lookup es doc ≡ None → Contains es e → ⊥) → ⊥
    go true t k lt is later = let bad : Some x.rank ≡ None = rw t at h in cc
    go false t zero lt is later =
        let doc_is : x.doc ≡ doc = ap (λ (p : Placed). p.doc) is ∙ same in
        let equal : nat_eq x.doc doc ≡ true = grind (arith, nat_tests) in cc
    go false t (suc k) lt is later =
        let rest : lookup es doc ≡ None = rw t at h in
        later rest (k, omega arith, is)

-- an ascending list of the entries of another finds what the other finds
pub lookup-permuted : (xs ys : List Placed) → IsPermutation xs ys → IsAscending ys → (doc : ℕ) → lookup ys doc ≡ lookup xs doc
lookup-permuted xs ys moved up doc = go (lookup xs doc) refl
  where
    go : (o : Option ℕ) → lookup xs doc ≡ o → lookup ys doc ≡ o
    go (Some r) e =
        let wanted : Placed = record { doc = doc; rank = r } in
        let there : Contains ys wanted = Contains-permutation xs ys wanted moved (found_in xs doc r e) in
        let hit = lookup_at ys there.0 wanted up there.1 in
        rw there.2 at hit
    go None e = lookup_none ys doc (λ k lt same.
        missed xs doc (get_or ys k nothing) e (Contains-permutation ys xs (get_or ys k nothing) (IsPermutation-sym xs ys moved) (Contains-get_or ys k nothing lt)) same)

-- entries with different documents in order of their documents ascend
pub ascending_from : (es : List Placed) → IsDistinct same_doc es → IsNonDecreasingBy (λ (p : Placed). p.doc) es → IsAscending es
ascending_from [] h up = tt
ascending_from (e ∷ es) h up = (
  recursion_from_All (λ (f : Placed). e.doc < f.doc) es (λ k d lt.
      let le : e.doc ≤ (get_or es k d).doc = up 0 (suc k) d (omega arith) (omega arith) in
      let apart : nat_eq e.doc (get_or es k d).doc ≡ false = All-from_recursion (λ (f : Placed). nat_eq e.doc f.doc ≡ false) es (IsDistinct-head same_doc e es h) k d lt in
      grind (arith, nat_tests)),
  ascending_from es (IsDistinct-tail same_doc e es h) (λ i j d le lt. up (suc i) (suc j) d (omega arith) (omega arith)),
)

flips : (x y : Placed) → same_doc x y ≡ same_doc y x
flips x y = grind (arith, nat_tests)

-- the entries of a ranking, put in order of their documents
pub keeps_places : (docs : List ℕ) (by_doc : List Placed) → length docs ≤ 10000 → IsDistinct nat_eq docs → IsPermutation (placed_from 1 docs) by_doc → IsAscending by_doc → KeepsPlaces docs by_doc
keeps_places docs by_doc short distinct moved up = record {
  short = short;
  distinct = distinct;
  ascending = up;
  looked_up = λ doc. lookup-permuted (placed_from 1 docs) by_doc moved up doc ∙ lookup-placed_from 1 docs doc;
}

pub sorted_ascends : (docs : List ℕ) (by_doc : List Placed) → IsDistinct nat_eq docs → IsPermutation (placed_from 1 docs) by_doc → IsNonDecreasingBy (λ (p : Placed). p.doc) by_doc → IsAscending by_doc
sorted_ascends docs by_doc distinct moved up =
    ascending_from by_doc (IsDistinct-IsPermutation same_doc flips (placed_from 1 docs) by_doc moved (distinct_placed 1 docs distinct)) up

-- ---- a binary search
module _ (es : List Placed) (up : IsAscending es) (doc : ℕ) where
  comparisons_rise : IsNonDecreasingBy (λ (p : Placed). ordering_index (nat_cmp p.doc doc)) es
  comparisons_rise = IsNonDecreasingBy-from_default (λ (p : Placed). ordering_index (nat_cmp p.doc doc)) es nothing (λ i j le lt. go i j le lt)
    where
      go : (i j : ℕ) → i ≤ j → j < length es → ordering_index (nat_cmp (get_or es i nothing).doc doc) ≤ ordering_index (nat_cmp (get_or es j nothing).doc doc)
      go i j le lt =
          let far : i < j → (get_or es i nothing).doc < (get_or es j nothing).doc = λ below. ascending_far es i j nothing up below lt in
          let same : i ≡ j → (get_or es i nothing).doc ≡ (get_or es j nothing).doc = λ (e : i ≡ j). ap (λ (n : ℕ). (get_or es n nothing).doc) e in
          grind (arith, nat_tests, far, same)

  pub found_rank : (at : ℕ) → at < length es → IsBinarySearchResult (λ (p : Placed). nat_cmp p.doc doc) es (Ok at) → lookup es doc ≡ Some (get_or es at nothing).rank
  found_rank at lt equal =
      let same : (get_or es at nothing).doc ≡ doc = ranked _ doc _ (sym (equal nothing)) in
      rw (← same) (lookup_at es at nothing up lt)

  pub no_rank : (at : ℕ) → at ≤ length es → IsBinarySearchResult (λ (p : Placed). nat_cmp p.doc doc) es (Err at) → lookup es doc ≡ None
  no_rank at le parted = lookup_none es doc (λ k lt same.
      let parts = parted comparisons_rise in
      let below : k < at → (get_or es k nothing).doc < doc = λ below. ranked _ doc _ (sym (parts.0 k nothing (omega arith) below)) in
      let above : at ≤ k → doc < (get_or es k nothing).doc = λ above. ranked _ doc _ (sym (parts.1 k nothing above lt)) in
      grind (arith, below, above))
