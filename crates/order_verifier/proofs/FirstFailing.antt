-- The first place of a list whose item fails.
use Rattle.std.proofs.Common.{◌≡◌, ℕ, zero, suc, ◌+◌, ◌<◌, List, [], ◌∷◌, length, map, take, Some, refl, sym, subst, arith, ℤ, ◌+ℤ◌}
use Rattle.std.specs.Prelude.{slice_get}
use Rattle.std.specs.List.{AllByRecursion, AllZip, zip}
use Rattle.std.proofs.lemmas.Int.{ints}
use Rattle.small_lemmas.proofs.Lists.{all_there}
use Rattle.desk_model.specs.Verdict.{whole_sum}
use Rattle.order_verifier.specs.Refusal.{IsFirstFailing}

-- of those before a place, of one of them
all_before : {X : Type 0} (P : X → Type 0) (xs : List X) (n i : ℕ) (x : X) → AllByRecursion P (take n xs) → i < n → slice_get xs i ≡ Some x → P x
all_before P xs zero i x h lt e = absurd (omega arith)
all_before P [] (suc n) i x h lt e = absurd (cc)
all_before P (y ∷ xs) (suc n) zero x h lt e = let same : y ≡ x = cc in subst P same h.0
all_before P (y ∷ xs) (suc n) (suc i) x h lt e = all_before P xs n i x h.1 (omega arith) e

-- and one more
all_next : {X : Type 0} (P : X → Type 0) (xs : List X) (i : ℕ) (x : X) → AllByRecursion P (take i xs) → slice_get xs i ≡ Some x → P x → AllByRecursion P (take (suc i) xs)
all_next P [] i x h e p = absurd (cc)
all_next P (y ∷ xs) zero x h e p = let same : y ≡ x = cc in (subst P (sym same) p, tt)
all_next P (y ∷ xs) (suc i) x h e p = (h.0, all_next P xs i x h.1 e p)

pub all_more : {X : Type 0} (P : X → Type 0) (xs : List X) (i : ℕ) (x : X) → AllByRecursion P (take i xs) → slice_get xs i ≡ Some x → P x → AllByRecursion P (take (i + 1) xs)
all_more P xs i x h e p = let next : suc i ≡ i + 1 = omega arith in subst (λ k. AllByRecursion P (take k xs)) next (all_next P xs i x h e p)

module _ {X : Type 0} (Holds Fails : X → Type 0) (apart : (x : X) → Holds x → Fails x → ⊥) (xs : List X) where
  -- where all hold, none is the first to fail
  pub none_fails : (i : ℕ) → AllByRecursion Holds xs → IsFirstFailing Holds Fails xs i → ⊥
  none_fails i all h = apart h.item (all_there Holds xs i h.item all h.there) h.fails

  -- there is one first place at most
  pub one_first : (i j : ℕ) → IsFirstFailing Holds Fails xs i → IsFirstFailing Holds Fails xs j → i ≡ j
  one_first i j h k =
      let below : i < j → ⊥ = λ lt. apart h.item (all_before Holds xs j i h.item k.before lt h.there) h.fails in
      let above : j < i → ⊥ = λ lt. apart k.item (all_before Holds xs i j k.item h.before lt k.there) k.fails in
      grind (arith, below, above)

-- a first one that fails does not hold
pub not_held : {X : Type 0} (Holds Fails : X → Type 0) → ((x : X) → Holds x → Fails x → ⊥) → (xs : List X) (i : ℕ) → IsFirstFailing Holds Fails xs i → IsFirstFailing Holds (λ x. Holds x → ⊥) xs i
not_held Holds Fails apart xs i h = record { before = h.before; item = h.item; there = h.there; fails = λ k. apart h.item k h.fails }

-- ---- two lists side by side
module _ {A B X : Type 0} (R : A → B → Type 0) (f : X → A) where
  -- a relation of two lists, as a fact of their pairs, and back
  pub pairs_all : (xs : List X) (ys : List B) → AllZip R (map f xs) ys → AllByRecursion (λ (p : X × B). AllZip R (f p.0 ∷ []) (p.1 ∷ [])) (zip xs ys)
  pairs_all [] [] h = tt
  pairs_all [] (y ∷ ys) h = absurd h
  pairs_all (x ∷ xs) [] h = absurd h
  pairs_all (x ∷ xs) (y ∷ ys) h = ((h.0, tt), pairs_all xs ys h.1)

  pub all_pairs : (xs : List X) (ys : List B) → length xs ≡ length ys → AllByRecursion (λ (p : X × B). AllZip R (f p.0 ∷ []) (p.1 ∷ [])) (zip xs ys) → AllZip R (map f xs) ys
  all_pairs [] [] e h = tt
  all_pairs [] (y ∷ ys) e h = absurd (omega arith)
  all_pairs (x ∷ xs) [] e h = absurd (omega arith)
  all_pairs (x ∷ xs) (y ∷ ys) e h = (h.0.0, all_pairs xs ys (omega (arith, e)) h.1)

module _ {X : Type 0} (P Q : X → Type 0) where
  pub both : (xs : List X) → AllByRecursion P xs → AllByRecursion Q xs → AllByRecursion (λ x. P x × Q x) xs
  both [] h k = tt
  both (x ∷ xs) h k = ((h.0, k.0), both xs h.1 k.1)

  pub firsts : (xs : List X) → AllByRecursion (λ x. P x × Q x) xs → AllByRecursion P xs
  firsts [] h = tt
  firsts (x ∷ xs) h = (h.0.0, firsts xs h.1)

  pub seconds : (xs : List X) → AllByRecursion (λ x. P x × Q x) xs → AllByRecursion Q xs
  seconds [] h = tt
  seconds (x ∷ xs) h = (h.0.1, seconds xs h.1)

-- ---- sums of numbers that stand beside a list
abbrev pub SumsTo : {X : Type 0} → (ℤ → X → Type 0) → List X → ℤ → Type 0
SumsTo R xs z = (numbers : List ℤ) × AllZip R numbers xs × (z ≡ whole_sum numbers)

sums_next : {X : Type 0} (R : ℤ → X → Type 0) (xs : List X) (i : ℕ) (x : X) (z w : ℤ) → slice_get xs i ≡ Some x → SumsTo R (take i xs) z → R w x → SumsTo R (take (suc i) xs) (z +ℤ w)
sums_next R [] i x z w at h r = absurd (cc)
sums_next R (y ∷ xs) zero x z w at ([], h, is) r =
    let here : x ≡ y = cc in (w ∷ [], (subst (R w) here r, tt), omega (arith, ints, is))
sums_next R (y ∷ xs) zero x z w at (n ∷ ns, h, is) r = absurd h
sums_next R (y ∷ xs) (suc i) x z w at ([], h, is) r = absurd h
sums_next R (y ∷ xs) (suc i) x z w at (n ∷ ns, h, is) r =
    let rest = sums_next R xs i x (whole_sum ns) w at (ns, h.1, refl) r in
    let sum : whole_sum ns +ℤ w ≡ whole_sum rest.0 = rest.2 in
    (n ∷ rest.0, (h.0, rest.1), omega (arith, ints, is, sum))

pub sums_more : {X : Type 0} (R : ℤ → X → Type 0) (xs : List X) (i : ℕ) (x : X) (z w : ℤ) → slice_get xs i ≡ Some x → SumsTo R (take i xs) z → R w x → SumsTo R (take (i + 1) xs) (z +ℤ w)
sums_more R xs i x z w at h r = let next : suc i ≡ i + 1 = omega arith in subst (λ k. SumsTo R (take k xs) (z +ℤ w)) next (sums_next R xs i x z w at h r)
