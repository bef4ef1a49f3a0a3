-- The share of a document that two runs have, by two tests.
use Rattle.std.proofs.Common.{◌≡◌, ℕ, ◌-◌, ◌<◌, ◌≤◌, Bool, true, false, ◌&&◌, nat_le, nat_lt, Option, Some, None, ℤ, pos, neg_ℤ, ◌+ℤ◌, ◌-ℤ◌, ◌≤ℤ◌, arith, refl, ap, sym, subst, ◌∙◌, inl, inr}
use Rattle.std.specs.Prelude.{if◌then◌else◌, int_lt}
use Rattle.std.proofs.lemmas.Int.{ints}
use Rattle.std.proofs.lemmas.Bool.{cases_lt, lt-ltb, le-ltb, le-leb, lt-leb}
use Rattle.small_lemmas.proofs.Tests.{positive, not_positive, negative, not_negative}
use Rattle.measure_laws.specs.Powers.{low_weight, high_weight}
use Rattle.measure_laws.specs.Shares.{low_share, high_share}
use Rattle.measure_laws.proofs.BiasedSizes.{weights_order}
use Rattle.rbp.specs.Walk.{correction, share_of}
use Rattle.desk_model.specs.declared.types.Mark.{Mark}
use Rattle.desk_model.specs.declared.types.Mark.TheVariants.{Unjudged, Relevant, Other}

raised : (b : Bool) (l h : ℕ) (z : ℤ) → int_lt z (pos 0) ≡ b → z ≡ pos l -ℤ pos h → (if b then pos 0 else z) ≡ pos (l - h)
raised true l h z t e = let below = negative z t in omega (arith, ints, below, e)
raised false l h z t e = let above = not_negative z t in omega (arith, ints, above, e)

lowered : (b : Bool) (l h : ℕ) (z : ℤ) → int_lt (pos 0) z ≡ b → z ≡ pos h -ℤ pos l → (if b then pos 0 else z) ≡ neg_ℤ (pos (l - h))
lowered true l h z t e = let above = positive z t in omega (arith, ints, above, e)
lowered false l h z t e = let below = not_positive z t in omega (arith, ints, below, e)

low_tested : (x y l h : ℕ) (z : ℤ) → (x ≡ y → l ≤ h) → z ≡ pos l -ℤ pos h →
    (if nat_le x y && int_lt z (pos 0) then pos 0 else z) ≡ (if nat_lt x y then pos (l - h) else if nat_lt y x then pos l -ℤ pos h else pos 0)
low_tested x y l h z level e = elim (cases_lt x y) [
  | inl less ↦ rw (le-leb x y (omega arith), lt-ltb x y less) (raised (int_lt z (pos 0)) l h z refl e)
  | inr more ↦ elim (cases_lt y x) [
    | inl less ↦ rw (lt-leb x y less, le-ltb x y more, lt-ltb y x less) e
    | inr same ↦
        let none : pos (l - h) ≡ pos 0 = let within = level (omega arith) in omega (arith, ints, within) in
        rw (le-leb x y same, le-ltb x y more, le-ltb y x same) (raised (int_lt z (pos 0)) l h z refl e ∙ none)
  ]
]

high_tested : (x y l h : ℕ) (z : ℤ) → (x ≡ y → l ≤ h) → z ≡ pos h -ℤ pos l →
    (if nat_le y x && int_lt (pos 0) z then pos 0 else z) ≡ (if nat_lt x y then pos h -ℤ pos l else if nat_lt y x then neg_ℤ (pos (l - h)) else pos 0)
high_tested x y l h z level e = elim (cases_lt x y) [
  | inl less ↦ rw (lt-leb y x less, lt-ltb x y less) e
  | inr more ↦ elim (cases_lt y x) [
    | inl less ↦ rw (le-leb y x (omega arith), le-ltb x y more, lt-ltb y x less) (lowered (int_lt (pos 0) z) l h z refl e)
    | inr same ↦
        let none : neg_ℤ (pos (l - h)) ≡ pos 0 = let within = level (omega arith) in omega (arith, ints, within) in
        rw (le-leb y x more, le-ltb x y more, le-ltb y x same) (lowered (int_lt (pos 0) z) l h z refl e ∙ none)
  ]
]

-- weights of one rank
level_weights : (top bottom x y : ℕ) → 0 < bottom → x ≡ y → low_weight top bottom (Some x) ≤ high_weight top bottom (Some y)
level_weights top bottom x y h e = omega (arith, weights_order top bottom (Some x) h, ap (λ r. high_weight top bottom (Some r)) e)

pub low_is : (top bottom x y : ℕ) (z : ℤ) → 0 < bottom → z ≡ pos (low_weight top bottom (Some x)) -ℤ pos (high_weight top bottom (Some y)) →
    (if nat_le x y && int_lt z (pos 0) then pos 0 else z) ≡ low_share top bottom (Some x) (Some y)
low_is top bottom x y z h e = low_tested x y (low_weight top bottom (Some x)) (high_weight top bottom (Some y)) z (level_weights top bottom x y h) e

pub high_is : (top bottom x y : ℕ) (z : ℤ) → 0 < bottom → z ≡ pos (high_weight top bottom (Some x)) -ℤ pos (low_weight top bottom (Some y)) →
    (if nat_le y x && int_lt (pos 0) z then pos 0 else z) ≡ high_share top bottom (Some x) (Some y)
high_is top bottom x y z h e =
    high_tested x y (low_weight top bottom (Some y)) (high_weight top bottom (Some x)) z
    (λ same. omega (arith, level_weights top bottom y x h (omega arith))) e

-- a number that may be put to 0 stays as small
pub part_small : (b : Bool) (z : ℤ) (m : ℕ) → neg_ℤ (pos m) ≤ℤ z → z ≤ℤ pos m → (neg_ℤ (pos m) ≤ℤ (if b then pos 0 else z)) × ((if b then pos 0 else z) ≤ℤ pos m)
part_small true z m h k = (omega (arith, ints), omega (arith, ints))
part_small false z m h k = (h, k)

-- ---- what it adds beyond its two ranks alone
pub relevant_more : (share : Option ℕ → Option ℕ → ℤ) (picked : Option ℕ → Option ℕ → Bool) (mark : Mark) (x y : Option ℕ) (s a z : ℤ) → mark ≡ Relevant →
    s ≡ share x y → a ≡ share x None +ℤ share None y → z ≡ s -ℤ a → z ≡ correction share picked mark x y
relevant_more share picked mark x y s a z m es ea ez =
    let here : z ≡ share x y -ℤ (share x None +ℤ share None y) = omega (arith, ints, es, ea, ez) in
    subst (λ (k : Mark). z ≡ correction share picked k x y) (sym m) here

pub unjudged_more : (share : Option ℕ → Option ℕ → ℤ) (picked : Option ℕ → Option ℕ → Bool) (mark : Mark) (x y : Option ℕ) (s p n z : ℤ) → mark ≡ Unjudged →
    s ≡ share x y → p ≡ (if picked x y then s else pos 0) → n ≡ share_of share picked Unjudged x None +ℤ share_of share picked Unjudged None y → z ≡ p -ℤ n → z ≡ correction share picked mark x y
unjudged_more share picked mark x y s p n z m es ep en ez =
    let counted : p ≡ share_of share picked Unjudged x y = ep ∙ ap (λ t. if picked x y then t else pos 0) es in
    let here : z ≡ correction share picked Unjudged x y = ez ∙ ap (λ t. t -ℤ n) counted ∙ ap (λ t. share_of share picked Unjudged x y -ℤ t) en in
    subst (λ (k : Mark). z ≡ correction share picked k x y) (sym m) here

pub other_more : (share : Option ℕ → Option ℕ → ℤ) (picked : Option ℕ → Option ℕ → Bool) (mark : Mark) (x y : Option ℕ) → mark ≡ Other → pos 0 ≡ correction share picked mark x y
other_more share picked mark x y m = subst (λ (k : Mark). pos 0 ≡ correction share picked k x y) (sym m) refl
