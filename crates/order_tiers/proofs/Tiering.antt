-- Tiers.
use Rattle.std.proofs.Common.{◌≡◌, ◌≢◌, ◌⊎◌, ℕ, zero, suc, ◌+◌, ◌<◌, ◌≤◌, max, Bool, List, length, set, arith, refl, ap, sym, subst, ◌∙◌, inl, inr}
use Rattle.std.proofs.lemmas.Bool.{cases_lt}
use Rattle.std.proofs.lemmas.Grind.{get_or-set_at}
use Rattle.std.proofs.lemmas.List.{length-set, get_or-set_other}
use Rattle.small_lemmas.proofs.Numbers.{same_or_not, less_or_last}
use Rattle.order_tiers.specs.Chains.{IsCertifiedAbove, IsAmongRuns}
use Rattle.order_tiers.specs.Rows.{has, AboveBy, IsStrictOrder, HaveTiersBelow, count_above}
use Rattle.order_tiers.specs.Tiers.{IsNextTier, IsTierOf, AreTiers, tier_in}
use Rattle.order_tiers.proofs.Chaining.{direct, least, last_pair}
use Rattle.order_tiers.proofs.Counting.{count_within, fewer_above}
use Rattle.order_tiers.proofs.Writing.{is_run}

-- ---- each run has one tier
module _ (Over : ℕ → ℕ → Type 0) (runs : ℕ) (t u : ℕ → ℕ) (h : AreTiers Over runs t) (k : AreTiers Over runs u) where
  -- where tiers below are the same
  one_step : (b : ℕ) → b < runs → ((a : ℕ) → a < runs → t a < t b → t a ≡ u a) → t b ≡ u b
  one_step b lt again =
      elim (h b lt).reached [
        | inl top ↦ elim (k b lt).reached [
          | inl other ↦ top.0 ∙ sym other.0
          | inr other ↦ absurd (top.1 other.above other.within other.over)
        ]
        | inr next ↦ elim (k b lt).reached [
          | inl top ↦ absurd (top.1 next.above next.within next.over)
          | inr other ↦
              let less = (h b lt).greater other.above other.within other.over in
              let more = (k b lt).greater next.above next.within next.over in
              let here = next.next in
              let there = other.next in
              let first = again next.above next.within (omega (arith, here)) in
              let second = again other.above other.within less in
              omega (arith, less, more, here, there, first, second)
        ]
      ]

  up_to : (n b : ℕ) → b < runs → t b < n → t b ≡ u b
  up_to zero b lt small = absurd (omega (arith, small))
  up_to (suc n) b lt small = one_step b lt (λ a within less. up_to n a within (omega (arith, small, less)))

  pub one_tier : (b : ℕ) → b < runs → t b ≡ u b
  one_tier b lt = up_to (t b + 1) b lt (omega arith)

-- tiers of one relation are those of another that holds of the same runs
pub same_tiers : (Over Other : ℕ → ℕ → Type 0) (runs : ℕ) (t : ℕ → ℕ) → ((a b : ℕ) → Over a b → Other a b) → ((a b : ℕ) → Other a b → Over a b) → AreTiers Over runs t → AreTiers Other runs t
same_tiers Over Other runs t there back h b lt = record {
  greater = λ a in_a o. (h b lt).greater a in_a (back a b o);
  reached = elim (h b lt).reached [
    | inl top ↦ inl (top.0, λ a in_a o. top.1 a in_a (back a b o))
    | inr next ↦ inr (record { above = next.above; within = next.within; over = there next.above b next.over; next = next.next })
  ];
}

-- ---- tiers by pairs alone
abbrev pub ReachesByPair : (ℕ → ℕ → Type 0) → (ℕ → ℕ) → ℕ → Type 0
ReachesByPair Above tier b = ((tier b ≡ 1) × ((a : ℕ) → Above a b → ⊥)) ⊎ ((a : ℕ) × Above a b × (tier b ≡ tier a + 1))

pub by_pairs : (Above : ℕ → ℕ → Type 0) (runs : ℕ) (tier : ℕ → ℕ) → IsAmongRuns Above runs → ((a b : ℕ) → Above a b → tier a < tier b) → ((b : ℕ) → b < runs → ReachesByPair Above tier b) → AreTiers (IsCertifiedAbove Above) runs tier
by_pairs Above runs tier within rises reaches b lt = record {
  greater = λ a _ certified. least Above (λ x y. tier x < tier y) (λ x y z l m. omega (arith, l, m)) rises a b certified;
  reached = elim (reaches b lt) [
    | inl top ↦ inl (top.0, λ a _ certified. let last = last_pair Above a b certified in top.1 last.above last.pair)
    | inr above ↦ inr (record { above = above.0; within = (within above.0 b above.1).0; over = direct Above above.0 b above.1; next = above.2 })
  ];
}

-- ---- one more run looked at
pub tier_none : (Over : ℕ → ℕ → Type 0) (t : ℕ → ℕ) (b : ℕ) → IsTierOf Over 0 t b 1
tier_none Over t b = record { greater = λ a lt over. absurd (omega (arith, lt)); reached = inl (refl, λ a lt over. omega (arith, lt)) }

module _ (Over : ℕ → ℕ → Type 0) (n : ℕ) (t : ℕ → ℕ) (b tier : ℕ) (h : IsTierOf Over n t b tier) where
  wider : IsNextTier Over n t b tier → IsNextTier Over (n + 1) t b tier
  wider next = let within = next.within in record { above = next.above; within = omega (arith, within); over = next.over; next = next.next }

  pub tier_kept : (Over n b → ⊥) → IsTierOf Over (n + 1) t b tier
  tier_kept not_ = record {
    greater = λ a lt o. elim (less_or_last a n lt) [ inl before ↦ h.greater a before o | inr last ↦ absurd (not_ (subst (λ x. Over x b) last o)) ];
    reached = elim h.reached [
      | inl top ↦ inl (top.0, λ a lt o. elim (less_or_last a n lt) [ inl before ↦ top.1 a before o | inr last ↦ not_ (subst (λ x. Over x b) last o) ])
      | inr next ↦ inr (wider next)
    ];
  }

  pub tier_raised : (new : ℕ) → new ≡ max tier (t n + 1) → Over n b → IsTierOf Over (n + 1) t b new
  tier_raised new is over = record {
    greater = λ a lt o. elim (less_or_last a n lt) [ inl before ↦ let low = h.greater a before o in omega (arith, low, is) | inr last ↦ let same : t a ≡ t n = ap t last in omega (arith, same, is) ];
    reached = elim (cases_lt (t n + 1) tier) [
      | inl less ↦ elim h.reached [
        | inl top ↦ absurd (let one = top.0 in omega (arith, one, less))
        | inr next ↦ let here : tier ≡ new = omega (arith, is, less) in inr (subst (IsNextTier Over (n + 1) t b) here (wider next))
      ]
      | inr more ↦ inr (record { above = n; within = omega arith; over = over; next = omega (arith, is, more) })
    ];
  }

-- all rows looked at
pub tier_of_rows : (rows : List (List Bool)) (t : ℕ → ℕ) (n b tier : ℕ) → length rows ≤ n → IsTierOf (AboveBy rows) n t b tier → IsTierOf (AboveBy rows) (length rows) t b tier
tier_of_rows rows t n b tier past h = record {
  greater = λ a lt over. h.greater a (omega (arith, lt, past)) over;
  reached = elim h.reached [
    | inl top ↦ inl (top.0, λ a lt over. top.1 a (omega (arith, lt, past)) over)
    | inr next ↦ inr (record { above = next.above; within = is_run rows next.above b next.over; over = next.over; next = next.next })
  ];
}

-- a run's tier is at most 1 more than the greatest bound of those above it
pub tier_small : (rows : List (List Bool)) (tiers : List ℕ) (b tier : ℕ) → IsStrictOrder rows → ((a : ℕ) → a < length rows → tier_in tiers a ≤ count_above rows a + 1) → IsTierOf (AboveBy rows) (length rows) (tier_in tiers) b tier → tier ≤ count_above rows b + 1
tier_small rows tiers b tier strict small h = elim h.reached [
  | inl top ↦ let one = top.0 in omega (arith, one)
  | inr next ↦ let fewer = fewer_above rows next.above b strict next.over in let low = small next.above next.within in let is = next.next in omega (arith, fewer, low, is)
]

-- all tiers, once each number of runs above has had its turn
pub tiers_all : (rows : List (List Bool)) (tiers : List ℕ) (count : ℕ) → length rows < count → HaveTiersBelow rows tiers count → AreTiers (AboveBy rows) (length rows) (tier_in tiers)
tiers_all rows tiers count past h b lt = h.each b lt (let most = count_within (λ row. has row b) rows in omega (arith, most, past))

-- ---- the runs with so many runs above them, one by one
-- a run has its turn: fewer runs are above it, or as many, and it comes before
abbrev pub HasTurn : List (List Bool) → ℕ → ℕ → ℕ → Type 0
HasTurn rows count run b = (count_above rows b < count) ⊎ ((count_above rows b ≡ count) × (b < run))

pub record IsFilling (rows : List (List Bool)) (tiers : List ℕ) (count run : ℕ) : Type 0 where
  pub long : length tiers ≡ length rows
  pub each : (b : ℕ) → b < length rows → HasTurn rows count run b → IsTierOf (AboveBy rows) (length rows) (tier_in tiers) b (tier_in tiers b)
  pub small : (b : ℕ) → b < length rows → tier_in tiers b ≤ count_above rows b + 1

pub filling_none : (rows : List (List Bool)) (tiers : List ℕ) (count : ℕ) → HaveTiersBelow rows tiers count → IsFilling rows tiers count 0
filling_none rows tiers count h = record {
  long = h.long;
  each = λ b lt turn. elim turn [ inl fewer ↦ h.each b lt fewer | inr later ↦ absurd (let none = later.1 in omega (arith, none)) ];
  small = h.small;
}

pub filling_all : (rows : List (List Bool)) (tiers : List ℕ) (count run : ℕ) → length rows ≤ run → IsFilling rows tiers count run → HaveTiersBelow rows tiers (count + 1)
filling_all rows tiers count run past h = record {
  long = h.long;
  each = λ b lt fewer. h.each b lt (elim (less_or_last (count_above rows b) count fewer) [ inl less ↦ inl less | inr same ↦ inr (same, omega (arith, lt, past)) ]);
  small = h.small;
}

module _ (rows : List (List Bool)) (tiers : List ℕ) (count run : ℕ) (strict : IsStrictOrder rows) (lt : run < length rows) (h : IsFilling rows tiers count run) where
  pub filling_kept : count_above rows run ≢ count → IsFilling rows tiers count (run + 1)
  filling_kept apart = record {
    long = h.long;
    each = λ b within turn. h.each b within (elim turn [
      | inl fewer ↦ inl fewer
      | inr same ↦ inr (same.0, elim (less_or_last b run same.1) [ inl before ↦ before | inr last ↦ absurd (apart (ap (count_above rows) (sym last) ∙ same.0)) ])
    ]);
    small = h.small;
  }

  module _ (tier : ℕ) (here : count_above rows run ≡ count) (is : IsTierOf (AboveBy rows) (length rows) (tier_in tiers) run tier) where
    after : List ℕ
    after = set tiers run tier

    at_run : tier_in after run ≡ tier
    unfolding after
    at_run = let long = h.long in get_or-set_at tiers run run tier 0 refl (omega (arith, lt, long))

    elsewhere : (b : ℕ) → b ≢ run → tier_in after b ≡ tier_in tiers b
    unfolding after
    elsewhere b apart = get_or-set_other tiers run b tier 0 apart

    -- a run above one that has had its turn is not the run of this turn
    other_run : (a b : ℕ) → AboveBy rows a b → HasTurn rows count (run + 1) b → a ≢ run
    other_run a b over turn e =
        let fewer = fewer_above rows a b strict over in
        let same : count_above rows a ≡ count = ap (count_above rows) e ∙ here in
        elim turn [ inl less ↦ omega (arith, fewer, same, less) | inr as_many ↦ let at = as_many.0 in omega (arith, fewer, same, at) ]

    -- its tier is that by the written tiers
    stays : (b value : ℕ) → HasTurn rows count (run + 1) b → IsTierOf (AboveBy rows) (length rows) (tier_in tiers) b value → IsTierOf (AboveBy rows) (length rows) (tier_in after) b value
    stays b value turn t = record {
      greater = λ a within over. let low = t.greater a within over in let same = elsewhere a (other_run a b over turn) in omega (arith, low, same);
      reached = elim t.reached [
        | inl top ↦ inl top
        | inr next ↦
            let same = elsewhere next.above (other_run next.above b next.over turn) in
            let is_next = next.next in
            inr (record { above = next.above; within = next.within; over = next.over; next = omega (arith, is_next, same) })
      ];
    }

    earlier : (b : ℕ) → b ≢ run → HasTurn rows count (run + 1) b → HasTurn rows count run b
    earlier b apart turn = elim turn [
      | inl fewer ↦ inl fewer
      | inr same ↦ inr (same.0, elim (less_or_last b run same.1) [ inl before ↦ before | inr last ↦ absurd (apart last) ])
    ]

    pub filling_more : IsFilling rows (set tiers run tier) count (run + 1)
    unfolding after
    filling_more = record {
      long = length-set tiers run tier ∙ h.long;
      each = λ b within turn. elim (same_or_not b run) [
        | inl same ↦
            subst (λ (x : ℕ). HasTurn rows count (run + 1) x → IsTierOf (AboveBy rows) (length rows) (tier_in after) x (tier_in after x)) (sym same)
            (λ turn_here. subst (IsTierOf (AboveBy rows) (length rows) (tier_in after) run) (sym at_run) (stays run tier turn_here is)) turn
        | inr apart ↦ subst (IsTierOf (AboveBy rows) (length rows) (tier_in after) b) (sym (elsewhere b apart)) (stays b (tier_in tiers b) turn (h.each b within (earlier b apart turn)))
      ];
      small = λ b within. elim (same_or_not b run) [
        | inl same ↦
            let low = tier_small rows tiers run tier strict h.small is in
            let counted : count_above rows b ≡ count_above rows run = ap (count_above rows) same in
            let value : tier_in after b ≡ tier = ap (tier_in after) same ∙ at_run in
            omega (arith, low, counted, value)
        | inr apart ↦ let low = h.small b within in let value = elsewhere b apart in omega (arith, low, value)
      ];
    }
