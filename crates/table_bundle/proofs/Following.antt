-- Claims that are held pair by pair ascend.
use Rattle.std.proofs.Common.{◌≡◌, ◌≢◌, ℕ, zero, suc, ◌+◌, ◌<◌, ◌≤◌, ◌⊎◌, inl, inr, List, [], ◌∷◌, ◌++◌, length, map, Option, Some, None, refl, sym, subst, ◌∙◌, arith}
use Rattle.std.specs.Prelude.{flat_map}
use Rattle.std.specs.List.{AllZip, range_with_len}
use Rattle.desk_model.specs.Pairs.{pairs_of}
use Rattle.line_forms.specs.Rows.{AllFollow}
use Rattle.order_bundle.specs.Bundle.{IsClaimAfter, IsEvidenceOn, IsLaterPair, MayFollow, last_pair, pair_of}
use Rattle.order_bundle.specs.declared.bundle.PairClaim.{PairClaim}
use Rattle.order_bundle.specs.declared.bundle.TopicNames.{TopicNames}
use Rattle.order_bundle.specs.declared.places.UnorderedPair.{UnorderedPair}
use Rattle.table_bundle.specs.Bundles.{if_held}

abbrev ordered : ℕ × ℕ → UnorderedPair
ordered p = record { smaller = p.0; greater = p.1 }

abbrev next : Option UnorderedPair → ℕ × ℕ → Option UnorderedPair
next _ p = Some (ordered p)

abbrev Follows : Option UnorderedPair → ℕ × ℕ → Type 0
Follows last p = MayFollow last (ordered p)

-- pairs that ascend, each after the one before it
abbrev Ascend : Option UnorderedPair → List (ℕ × ℕ) → Type 0
Ascend last pairs = AllFollow next Follows last pairs

later_trans : (p q r : UnorderedPair) → IsLaterPair p q → IsLaterPair q r → IsLaterPair p r
later_trans p q r (inl a) (inl b) = inl (omega (arith, a, b))
later_trans p q r (inl a) (inr b) = inl (omega (arith, a, b.0))
later_trans p q r (inr a) (inl b) = inl (omega (arith, a.0, b))
later_trans p q r (inr a) (inr b) = inr (a.0 ∙ b.0, omega (arith, a.1, b.1))

may_follow : (last : Option UnorderedPair) (q r : UnorderedPair) → MayFollow last q → IsLaterPair q r → MayFollow last r
may_follow None q r h k = tt
may_follow (Some p) q r h k = later_trans p q r h k

-- a pair may be left out
skipped : (last : Option UnorderedPair) (p : ℕ × ℕ) (pairs : List (ℕ × ℕ)) → Follows last p → Ascend (Some (ordered p)) pairs → Ascend last pairs
skipped last p [] h up = tt
skipped last p (q ∷ pairs) h up = (may_follow last (ordered p) (ordered q) h up.0, up.1)

-- ---- the pairs of a range
-- the last pair is of an earlier first number, or of this one with an earlier second
abbrev IsBefore : ℕ → ℕ → Option UnorderedPair → Type 0
IsBefore a s None = Unit {0}
IsBefore a s (Some p) = (p.smaller < a) ⊎ ((p.smaller ≡ a) × (p.greater < s))

follows_here : (a s : ℕ) (last : Option UnorderedPair) → IsBefore a s last → Follows last (a, s)
follows_here a s None h = tt
follows_here a s (Some p) h = h

row_ascends : (a s n : ℕ) (rest : List (ℕ × ℕ)) → ((l : Option UnorderedPair) → IsBefore (a + 1) 0 l → Ascend l rest) → (last : Option UnorderedPair) → IsBefore a s last → Ascend last (map (λ y. (a, y)) (range_with_len s n) ++ rest)
row_ascends a s zero rest f last h = f last (past last h)
  where
    past : (l : Option UnorderedPair) → IsBefore a s l → IsBefore (a + 1) 0 l
    past None h = tt
    past (Some p) (inl lt) = inl (omega (arith, lt))
    past (Some p) (inr at) = inl (omega (arith, at.0))
row_ascends a s (suc n) rest f last h = (follows_here a s last h, row_ascends a (s + 1) n rest f (Some (ordered (a, s))) (inr (refl, omega arith)))

range_ascends : (a n : ℕ) (last : Option UnorderedPair) → IsBefore a 0 last → Ascend last (pairs_of (range_with_len a n))
range_ascends a zero last h = tt
range_ascends a (suc n) last h = row_ascends a (a + 1) n (pairs_of (range_with_len (a + 1) n)) (λ l k. range_ascends (a + 1) n l k) last (later last h)
  where
    later : (l : Option UnorderedPair) → IsBefore a 0 l → IsBefore a (a + 1) l
    later None h = tt
    later (Some p) (inl lt) = inl lt
    later (Some p) (inr at) = absurd (omega (arith, at.1))

-- ---- claims
-- a claim that is held is on its pair
pub record IsOnPair (runs : ℕ) (topics : List TopicNames) (pair : ℕ × ℕ) (c : PairClaim) : Type 0 where
  pub first : c.first < runs
  pub second : c.second < runs
  pub different : c.first ≢ c.second
  pub on : pair_of c.first c.second ≡ record { smaller = pair.0; greater = pair.1 }
  pub evidence : IsEvidenceOn topics c.evidence

abbrev pub IsHeldOnPair : ℕ → List TopicNames → ℕ × ℕ → Option PairClaim → Type 0
IsHeldOnPair runs topics pair None = Unit {0}
IsHeldOnPair runs topics pair (Some c) = IsOnPair runs topics pair c

module _ (runs : ℕ) (topics : List TopicNames) where
  follow : (last : Option UnorderedPair) (pairs : List (ℕ × ℕ)) (held : List (Option PairClaim)) → Ascend last pairs → AllZip (IsHeldOnPair runs topics) pairs held → AllFollow last_pair (IsClaimAfter runs topics) last (flat_map if_held held)
  follow last [] [] up on = tt
  follow last [] (c ∷ held) up on = absurd on
  follow last (p ∷ pairs) [] up on = absurd on
  follow last (p ∷ pairs) (None ∷ held) up on = follow last pairs held (skipped last p pairs up.0 up.1) on.1
  follow last (p ∷ pairs) (Some c ∷ held) up on = (
    (
      record {
        first_known = on.0.first;
        second_known = on.0.second;
        different = on.0.different;
        later = subst (MayFollow last) (sym on.0.on) up.0;
      },
      on.0.evidence,
    ),
    subst (λ q. AllFollow last_pair (IsClaimAfter runs topics) (Some q) (flat_map if_held held)) (sym on.0.on) (follow (Some (ordered p)) pairs held up.1 on.1),
  )

  pub claims_follow : (n : ℕ) (held : List (Option PairClaim)) → AllZip (IsHeldOnPair runs topics) (pairs_of (range_with_len 0 n)) held → AllFollow last_pair (IsClaimAfter runs topics) None (flat_map if_held held)
  claims_follow n held on = follow None (pairs_of (range_with_len 0 n)) held (range_ascends 0 n None tt) on

-- no more than there are pairs
pub length-held : (held : List (Option PairClaim)) → length (flat_map if_held held) ≤ length held
length-held [] = omega arith
length-held (None ∷ held) = let rest = length-held held in omega (arith, rest)
length-held (Some c ∷ held) = let rest = length-held held in omega (arith, rest)
