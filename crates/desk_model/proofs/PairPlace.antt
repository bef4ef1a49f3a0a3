-- Going over the pairs of a list one by one.
use Rattle.std.proofs.Common.{◌≡◌, ℕ, zero, suc, ◌+◌, ◌<◌, ◌≤◌, Bool, true, false, List, [], ◌∷◌, ◌++◌, length, drop, Option, Some, None, refl, ap, ◌∙◌, arith}
use Rattle.std.specs.Prelude.{slice_get, nat_lt}
use Rattle.std.proofs.lemmas.Bool.Decides.{nat_tests}
use Rattle.std.proofs.lemmas.List.{drop_more}
use Rattle.std.proofs.lemmas.Option.{slice_get_within}
use Rattle.desk_model.proofs.Nested.{get_or-there}
use Rattle.desk_model.specs.Pairs.{pairs_of, pairs_with, pairs_from, places_after}
use Rattle.desk_model.specs.declared.pairs.PairPlaces.{PairPlaces}

-- the places of a pair among n, or those after the last pair
pub record ArePlaces (n : ℕ) (at : PairPlaces) : Type 0 where
  pub order : at.first < at.second
  pub within : at.second ≤ n
  pub last : at.second ≡ n → at.first + 1 ≡ n

pub drop-past : {X : Type 0} (xs : List X) (i : ℕ) → length xs ≤ i → drop i xs ≡ []
drop-past [] zero h = refl
drop-past [] (suc i) h = refl
drop-past (x ∷ xs) zero h = absurd (omega arith)
drop-past (x ∷ xs) (suc i) h = drop-past xs i (omega arith)

pub drop-there : {X : Type 0} (xs : List X) (i : ℕ) (x : X) → slice_get xs i ≡ Some x → drop i xs ≡ x ∷ drop (i + 1) xs
drop-there xs i x e = drop_more xs i x (slice_get_within xs i x e) ∙ ap (λ y. y ∷ drop (i + 1) xs) (get_or-there xs i x x e)

-- an element at each place below the length
pub there : {X : Type 0} (xs : List X) (i : ℕ) → i < length xs → (x : X) × (slice_get xs i ≡ Some x)
there [] i h = absurd (omega arith)
there (x ∷ xs) zero h = (x, refl)
there (x ∷ xs) (suc i) h = there xs i (omega arith)

-- the first pair is the first of all
pub pairs_from-start : {X : Type 0} (xs : List X) (at : PairPlaces) → at.first ≡ 0 → at.second ≡ 1 → pairs_from at xs ≡ pairs_of xs
pairs_from-start [] at f s = rw f refl
pairs_from-start (x ∷ xs) at f s = rw (f, s) refl

module _ {X : Type 0} (xs : List X) (at : PairPlaces) where
  next_here : (x y : X) (places : PairPlaces) → places.first ≡ at.first → places.second ≡ at.second + 1 → slice_get xs at.first ≡ Some x → slice_get xs at.second ≡ Some y → pairs_from at xs ≡ (x, y) ∷ pairs_from places xs
  next_here x y places pf ps f s = rw (pf, ps, f, drop-there xs at.second y s) refl

  next_there : (x y z : X) (places : PairPlaces) → places.first ≡ at.first + 1 → places.second ≡ at.first + 1 + 1 → slice_get xs at.first ≡ Some x → slice_get xs at.second ≡ Some y → slice_get xs (at.first + 1) ≡ Some z →
      length xs ≤ at.second + 1 → pairs_from at xs ≡ (x, y) ∷ pairs_from places xs
  next_there x y z places pf ps f s t end =
      let none : drop (at.second + 1) xs ≡ [] = drop-past xs (at.second + 1) end in
      rw (pf, ps, f, t, drop-there xs at.second y s, none, drop-there xs (at.first + 1) z t) refl

  -- after the last pair there is none
  pub pairs_from-end : ArePlaces (length xs) at → at.second ≡ length xs → pairs_from at xs ≡ []
  pairs_from-end placed e =
      let first : drop at.second xs ≡ [] = drop-past xs at.second (omega arith) in
      let second : drop (at.first + 1) xs ≡ [] = drop-past xs (at.first + 1) (omega (arith, placed.last e)) in
      rw (first, second) (none (slice_get xs at.first))
    where
      none : (o : Option X) → pairs_with o [] ++ pairs_of [] ≡ []
      none None = refl
      none (Some x) = refl

  -- the pair at the places comes first, and then those from the places after it on
  pub pairs_from-next : (x y : X) → ArePlaces (length xs) at → slice_get xs at.first ≡ Some x → slice_get xs at.second ≡ Some y → pairs_from at xs ≡ (x, y) ∷ pairs_from (places_after (length xs) at) xs
  pairs_from-next x y placed f s = go (nat_lt (at.second + 1) (length xs)) refl
    where
      within : at.second < length xs
      within = slice_get_within xs at.second y s

      go : (b : Bool) → nat_lt (at.second + 1) (length xs) ≡ b → pairs_from at xs ≡ (x, y) ∷ pairs_from (places_after (length xs) at) xs
      go true t = rw t (next_here x y (record { first = at.first; second = at.second + 1 }) refl refl f s)
      go false t =
          let end : length xs ≤ at.second + 1 = grind (arith, nat_tests) in
          let third = there xs (at.first + 1) (omega (arith, within, placed.order)) in
          rw t (next_there x y third.0 (record { first = at.first + 1; second = at.first + 2 }) refl (omega arith) f s third.1 end)

pub places_after-placed : (n : ℕ) (at : PairPlaces) → ArePlaces n at → at.second < n → ArePlaces n (places_after n at)
places_after-placed n at placed lt = go (nat_lt (at.second + 1) n) refl
  where
    go : (b : Bool) → nat_lt (at.second + 1) n ≡ b → ArePlaces n (places_after n at)
    go true t =
        let more : at.second + 1 < n = grind (arith, nat_tests) in
        rw t (record { order = omega (arith, placed.order); within = omega arith; last = λ e. omega arith })
    go false t =
        let end : n ≤ at.second + 1 = grind (arith, nat_tests) in
        rw t (record { order = omega arith; within = omega (arith, placed.order); last = λ e. omega arith })

-- what stands at a place and after it
pub there_from : {X : Type 0} (xs : List X) (i : ℕ) (x : X) (rest : List X) → drop i xs ≡ x ∷ rest → (slice_get xs i ≡ Some x) × (drop (i + 1) xs ≡ rest)
there_from [] zero x rest e = absurd (cc)
there_from [] (suc i) x rest e = absurd (cc)
there_from (y ∷ xs) zero x rest e = let p : y ≡ x = cc in let q : xs ≡ rest = cc in (ap Some p, q)
there_from (y ∷ xs) (suc i) x rest e =
    let later = there_from xs i x rest e in
    let step : suc i + 1 ≡ suc (i + 1) = omega arith in
    (later.0, ap (λ n. drop n (y ∷ xs)) step ∙ later.1)
