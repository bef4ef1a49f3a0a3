-- Whether a line of a bundle shows a part that fits its place can be tested.
use Rattle.std.proofs.Common.{◌≡◌, ◌≢◌, ℕ, ◌<◌, ◌≤◌, List, [], ◌∷◌, ◌++◌, refl, ap, sym, ◌∙◌, inl, inr, arith, pos, Option, Some, None}
use Rattle.std.specs.Prelude.{codes, decimal}
use Rattle.std.specs.Fmt.{signed_decimal}
use Rattle.std.proofs.lemmas.Bool.{cases_eq}
use Rattle.line_forms.proofs.Cuts.{above_free, above_less, free_parts}
use Rattle.line_forms.proofs.Shown.{decimal_above}
use Rattle.line_forms.proofs.Tested.{Found, Known, at_most, below, both, cut_known, numbers_found, other, range_known, same_list, signed_found, two_known, word_found}
use Rattle.order_certificate.specs.Places.{claim_line}
use Rattle.order_certificate.specs.declared.places.Claim.{Claim}
use Rattle.order_certificate.specs.declared.places.Claim.TheVariants as claimed
use Rattle.order_bundle.specs.Bundle.{AreRunsOfClaim, IsClaimCount, IsLaterPair, IsLowerBound, AreBothBounds, IsRunCount, MayFollow, both_bounds_line, bound_line, pair_of, pick_line, runs_text}
use Rattle.order_bundle.specs.Depths.{IsDepth, depth_line}
use Rattle.order_bundle.specs.Places.{IsPick}
use Rattle.order_bundle.specs.Places.{head_line, version_line}
use Rattle.order_bundle.specs.declared.any_certificate.Version.{Version}
use Rattle.order_bundle.specs.declared.any_certificate.Version.TheVariants as version
use Rattle.order_bundle.specs.declared.bundle.Bound.{Bound}
use Rattle.order_bundle.specs.declared.places.ClaimHead.{ClaimHead}
use Rattle.order_bundle.specs.declared.places.UnorderedPair.{UnorderedPair}
use Rattle.order_bundle.proofs.ClaimRows.{FitsHead}

pub version_found : (line : List ℕ) → Found version_line (λ _. Unit {0}) line
version_found line = elim (same_list line (codes "desk-certificate 1")) [
  | inl e ↦ inl (version.One, tt, e)
  | inr one ↦ elim (same_list line (codes "desk-certificate 2")) [ inl e ↦ inl (version.Many, tt, e) | inr many ↦ inr (λ v _. by one many v) ]
]
  where
    by : line ≢ codes "desk-certificate 1" → line ≢ codes "desk-certificate 2" → (v : Version) → line ≢ version_line v
    by one many version.One e = one e
    by one many version.Many e = many e

pub depth_found : (line : List ℕ) → Found depth_line IsDepth line
depth_found line = numbers_found depth_line IsDepth 10001 (range_known 10000) (λ d fits. omega (arith, fits)) line

pub run_count_found : (line : List ℕ) → Found (λ n. codes "runs " ++ decimal n) IsRunCount line
run_count_found line = numbers_found (λ n. codes "runs " ++ decimal n) IsRunCount 257 (λ n. both (at_most 2 n) (at_most n 256)) (λ n fits. omega (arith, fits)) line

pub claim_count_found : (line : List ℕ) → Found (λ n. codes "claims " ++ decimal n) IsClaimCount line
claim_count_found line = numbers_found (λ n. codes "claims " ++ decimal n) IsClaimCount 32641 (λ n. at_most n 32640) (λ n le. omega arith) line

pub list_count_found : (word line : List ℕ) → Found (λ n. word ++ decimal n) (λ n. n ≤ 25000000) line
list_count_found word line = numbers_found (λ n. word ++ decimal n) (λ n. n ≤ 25000000) 25000001 (λ n. at_most n 25000000) (λ n le. omega arith) line

pub pick_found : (docs least : ℕ) (line : List ℕ) → Found pick_line (IsPick docs least) line
pick_found docs least line = numbers_found pick_line (IsPick docs least) docs (λ k. both (at_most least k) (below k docs)) (λ k fits. fits.1) line

pub bound_found : (line : List ℕ) → Found bound_line IsLowerBound line
bound_found line = word_found (codes "bound ") (λ (b : Bound). signed_decimal b.low) IsLowerBound
    (λ text. elim (signed_found text) [ inl h ↦ inl (record { low = h.0; high = pos 0 }, (h.1, refl), h.2) | inr never ↦ inr (λ b fits e. never b.low fits.0 e) ]) line

pub both_bounds_found : (line : List ℕ) → Found both_bounds_line AreBothBounds line
both_bounds_found line = word_found (codes "bound ") (λ (b : Bound). signed_decimal b.low ++ 32 ∷ signed_decimal b.high) AreBothBounds
    (λ text. elim (two_known text) [ inl h ↦ inl (record { low = h.0; high = h.1 }, (h.2, h.3), h.4) | inr never ↦ inr (λ b fits e. never b.low b.high fits.0 fits.1 e) ]) line

-- ---- the line of a claim
later_known : (p q : UnorderedPair) → Known (IsLaterPair p q)
later_known p q = elim (below p.smaller q.smaller) [
  | inl lt ↦ inl (inl lt)
  | inr not_less ↦ elim (both (cases_eq p.smaller q.smaller) (below p.greater q.greater)) [
    | inl h ↦ inl (inr h)
    | inr never ↦ inr (by not_less never)
  ]
]
  where
    by : (p.smaller < q.smaller → ⊥) → ((p.smaller ≡ q.smaller) × (p.greater < q.greater) → ⊥) → IsLaterPair p q → ⊥
    by not_less never (inl lt) = not_less lt
    by not_less never (inr h) = never h

follow_known : (last : Option UnorderedPair) (q : UnorderedPair) → Known (MayFollow last q)
follow_known None q = inl tt
follow_known (Some p) q = later_known p q

runs_known : (runs : ℕ) (last : Option UnorderedPair) (first second : ℕ) → Known (AreRunsOfClaim runs last first second)
runs_known runs last first second = elim (both (below first runs) (both (below second runs) (both (other (cases_eq first second)) (follow_known last (pair_of first second))))) [
  | inl h ↦ inl (record { first_known = h.0; second_known = h.1.0; different = h.1.1.0; later = h.1.1.1 })
  | inr never ↦ inr (λ are. never (are.first_known, (are.second_known, (are.different, are.later))))
]

-- the numbers of two runs, where both are below a limit
abbrev Two : ℕ → Option UnorderedPair → ℕ × ℕ → Type 0
Two runs last p = AreRunsOfClaim runs last p.0 p.1

two_found : (runs : ℕ) (last : Option UnorderedPair) (text : List ℕ) → Found (λ (p : ℕ × ℕ). runs_text p.0 p.1) (Two runs last) text
two_found runs last text = elim (cut_known 32 text) [
  | inl h ↦ elim (numbers_found decimal (λ a. (b : ℕ) × AreRunsOfClaim runs last a b × (h.1 ≡ decimal b)) runs (second h.1) (λ a fits. fits.1.first_known) h.0) [
    | inl k ↦ inl ((k.0, k.1.0), k.1.1, h.3 ∙ ap (λ z. z ++ 32 ∷ h.1) k.2 ∙ ap (λ z. decimal k.0 ++ 32 ∷ z) k.1.2)
    | inr never ↦ inr (λ p fits e.
        let parts = free_parts 32 h.0 (decimal p.0) h.1 (decimal p.1) h.2 (above_free 32 (decimal p.0) (above_less 32 47 (decimal p.0) (omega arith) (decimal_above p.0))) (sym h.3 ∙ e) in
        never p.0 (p.1, fits, parts.1) parts.0)
  ]
  | inr never ↦ inr (λ p fits e. never (decimal p.0) (decimal p.1) e)
]
  where
    second : (rest : List ℕ) (a : ℕ) → Known ((b : ℕ) × AreRunsOfClaim runs last a b × (rest ≡ decimal b))
    second rest a = elim (numbers_found decimal (AreRunsOfClaim runs last a) runs (runs_known runs last a) (λ b fits. fits.second_known) rest) [
      | inl h ↦ inl h
      | inr never ↦ inr (λ h. never h.0 h.1 h.2)
    ]

abbrev head_of : Claim → ℕ × ℕ → ClaimHead
head_of claim p = record { claim = claim; first = p.0; second = p.1 }

-- a claim of one kind
kind_found : (runs : ℕ) (last : Option UnorderedPair) (claim : Claim) (line : List ℕ) → Found (λ (p : ℕ × ℕ). (claim_line claim ++ 32 ∷ []) ++ runs_text p.0 p.1) (Two runs last) line
kind_found runs last claim line = word_found (claim_line claim ++ 32 ∷ []) (λ (p : ℕ × ℕ). runs_text p.0 p.1) (Two runs last) (two_found runs last) line

-- a line makes no claim of a kind
abbrev Never : ℕ → Option UnorderedPair → List ℕ → Claim → Type 0
Never runs last line claim = (p : ℕ × ℕ) → Two runs last p → line ≢ (claim_line claim ++ 32 ∷ []) ++ runs_text p.0 p.1

pub head_found : (runs : ℕ) (last : Option UnorderedPair) (line : List ℕ) → Found head_line (FitsHead runs last) line
head_found runs last line = elim (kind_found runs last claimed.Above line) [
  | inl h ↦ inl (head_of claimed.Above h.0, h.1, h.2)
  | inr above ↦ elim (kind_found runs last claimed.Equal line) [
    | inl h ↦ inl (head_of claimed.Equal h.0, h.1, h.2)
    | inr equal ↦ elim (kind_found runs last claimed.Open line) [ inl h ↦ inl (head_of claimed.Open h.0, h.1, h.2) | inr open_ ↦ inr (λ h. by above equal open_ h.claim h.first h.second) ]
  ]
]
  where
    by : Never runs last line claimed.Above → Never runs last line claimed.Equal → Never runs last line claimed.Open → (claim : Claim) (first second : ℕ) → AreRunsOfClaim runs last first second → line ≢ claim_line claim ++ 32 ∷ runs_text first second
    by above equal open_ claimed.Above first second fits e = above (first, second) fits e
    by above equal open_ claimed.Equal first second fits e = equal (first, second) fits e
    by above equal open_ claimed.Open first second fits e = open_ (first, second) fits e
