-- Sums over topics, place by place: a topic more, and one that is taken off and put back.
use Rattle.std.proofs.Common.{◌≡◌, ℕ, zero, suc, List, [], ◌∷◌, ◌++◌, map, length, Some, refl, ap, sym, ◌∙◌, arith}
use Rattle.std.specs.Prelude.{slice_get, slice_set}
use Rattle.std.specs.List.{AllByRecursion}
use Rattle.pair_table.specs.Kept.{each_with, sums_by}

pub length-each : {T C : Type 0} (f : T → C → T) (s : List T) (a : List C) → length a ≡ length s → length (each_with f s a) ≡ length s
length-each f [] a e = refl
length-each f (x ∷ s) [] e = absurd (omega (arith, e))
length-each f (x ∷ s) (a ∷ more) e = let rest = length-each f s more (omega (arith, e)) in omega (arith, rest)

-- a fact of each sum with its number
pub all_each : {T C : Type 0} (f : T → C → T) (P R : T → Type 0) (Q : C → Type 0) → ((t : T) (c : C) → P t → Q c → R (f t c)) → (s : List T) (a : List C) → AllByRecursion P s → AllByRecursion Q a → AllByRecursion R (each_with f s a)
all_each f P R Q step [] a h k = tt
all_each f P R Q step (x ∷ s) [] h k = tt
all_each f P R Q step (x ∷ s) (a ∷ more) h k = (step x a h.0 k.0, all_each f P R Q step s more h.1 k.1)

-- lists that are made from one list
pub each_made : {A T C : Type 0} (f : T → C → T) (g : A → T) (h : A → C) (xs : List A) → each_with f (map g xs) (map h xs) ≡ map (λ x. f (g x) (h x)) xs
each_made f g h [] = refl
each_made f g h (x ∷ xs) = ap (λ l. f (g x) (h x) ∷ l) (each_made f g h xs)

module _ {T C : Type 0} (add off : T → C → T) (commutes : (t : T) (a b : C) → add (add t a) b ≡ add (add t b) a) (cancels : (t : T) (a : C) → off (add t a) a ≡ t)
    (exchanges : (t : T) (a b : C) → off (add t a) b ≡ add (off t b) a) where
  each_commutes : (s : List T) (a b : List C) → each_with add (each_with add s a) b ≡ each_with add (each_with add s b) a
  each_commutes [] a b = refl
  each_commutes (x ∷ s) [] [] = refl
  each_commutes (x ∷ s) [] (b ∷ bs) = refl
  each_commutes (x ∷ s) (a ∷ more) [] = refl
  each_commutes (x ∷ s) (a ∷ more) (b ∷ bs) = ap (λ v. v ∷ each_with add (each_with add s more) bs) (commutes x a b) ∙ ap (λ l. add (add x b) a ∷ l) (each_commutes s more bs)

  each_cancels : (s : List T) (a : List C) → length a ≡ length s → each_with off (each_with add s a) a ≡ s
  each_cancels [] a e = refl
  each_cancels (x ∷ s) [] e = absurd (omega (arith, e))
  each_cancels (x ∷ s) (a ∷ more) e = ap (λ v. v ∷ each_with off (each_with add s more) more) (cancels x a) ∙ ap (λ l. x ∷ l) (each_cancels s more (omega (arith, e)))

  each_exchanges : (s : List T) (a b : List C) → each_with off (each_with add s a) b ≡ each_with add (each_with off s b) a
  each_exchanges [] a b = refl
  each_exchanges (x ∷ s) [] [] = refl
  each_exchanges (x ∷ s) [] (b ∷ bs) = refl
  each_exchanges (x ∷ s) (a ∷ more) [] = refl
  each_exchanges (x ∷ s) (a ∷ more) (b ∷ bs) = ap (λ v. v ∷ each_with off (each_with add s more) bs) (exchanges x a b) ∙ ap (λ l. add (off x b) a ∷ l) (each_exchanges s more bs)

  -- one topic more
  pub sums_more : (none : List T) (ts : List (List C)) (c : List C) → sums_by add none (ts ++ c ∷ []) ≡ each_with add (sums_by add none ts) c
  sums_more none [] c = refl
  sums_more none (t ∷ ts) c = ap (λ s. each_with add s t) (sums_more none ts c) ∙ each_commutes (sums_by add none ts) c t

  pub length-sums : (none : List T) (ts : List (List C)) → AllByRecursion (λ c. length c ≡ length none) ts → length (sums_by add none ts) ≡ length none
  length-sums none [] h = refl
  length-sums none (t ∷ ts) h = let rest = length-sums none ts h.1 in length-each add (sums_by add none ts) t (h.0 ∙ sym rest) ∙ rest

  -- one topic with other numbers
  pub sums_renewed : (none : List T) (ts : List (List C)) (k : ℕ) (old new : List C) → AllByRecursion (λ c. length c ≡ length none) ts → slice_get ts k ≡ Some old →
      sums_by add none (slice_set ts k new) ≡ each_with add (each_with off (sums_by add none ts) old) new
  sums_renewed none [] k old new h e = absurd (cc)
  sums_renewed none (t ∷ ts) zero old new h e =
      let same : t ≡ old = cc in
      ap (λ s. each_with add s new) (sym (each_cancels (sums_by add none ts) t (h.0 ∙ sym (length-sums none ts h.1))) ∙ ap (λ c. each_with off (each_with add (sums_by add none ts) t) c) same)
  sums_renewed none (t ∷ ts) (suc k) old new h e =
      let s = sums_by add none ts in
      ap (λ l. each_with add l t) (sums_renewed none ts k old new h.1 e) ∙ each_commutes (each_with off s old) new t ∙ ap (λ l. each_with add l new) (sym (each_exchanges s t old))

-- sums of numbers that are made for each place, topic by topic
pub sums_made : {A T C X : Type 0} (add : T → C → T) (F : List X → A → T) (g : X → A → C) (ps : List A) → ((x : X) (xs : List X) (p : A) → add (F xs p) (g x p) ≡ F (x ∷ xs) p) → (xs : List X) →
    sums_by add (map (F []) ps) (map (λ x. map (g x) ps) xs) ≡ map (F xs) ps
sums_made add F g ps step [] = refl
sums_made {A = A} {T = T} add F g ps step (x ∷ xs) =
    ap (λ s. each_with add s (map (g x) ps)) (sums_made add F g ps step xs) ∙ each_made add (F xs) (g x) ps ∙ agree ps
  where
    agree : (qs : List A) → map (λ p. add (F xs p) (g x p)) qs ≡ map (F (x ∷ xs)) qs
    agree [] = refl
    agree (q ∷ qs) = ap (λ v. v ∷ map (λ p. add (F xs p) (g x p)) qs) (step x xs q) ∙ ap (λ l. F (x ∷ xs) q ∷ l) (agree qs)

-- how large sums are
pub sums_sized : {T C : Type 0} (add : T → C → T) (P : ℕ → T → Type 0) (Q : C → Type 0) → ((n : ℕ) (t : T) (c : C) → P n t → Q c → P (suc n) (add t c)) → (none : List T) (ts : List (List C)) →
    AllByRecursion (P 0) none → AllByRecursion (AllByRecursion Q) ts → AllByRecursion (P (length ts)) (sums_by add none ts)
sums_sized add P Q step none [] h k = h
sums_sized add P Q step none (t ∷ ts) h k = all_each add (P (length ts)) (P (suc (length ts))) Q (step (length ts)) (sums_by add none ts) t (sums_sized add P Q step none ts h k.1) k.0
