-- What a document of two runs adds to the sums of shares beyond what its ranks alone add.
use Rattle.std.proofs.Common.{◌≡◌, ℕ, zero, suc, ◌+◌, ◌-◌, ◌*◌, ◌/◌, ◌<◌, ◌≤◌, Bool, true, false, min, Option, Some, None, ℤ, pos, neg_ℤ, ◌+ℤ◌, ◌-ℤ◌, arith, refl, ap, ◌∙◌, sym}
use Rattle.std.specs.Prelude.{if◌then◌else◌}
use Rattle.std.proofs.Math.Nat.{mul-le-mul_left, mul-le-mul_right}
use Rattle.std.proofs.lemmas.Bool.Decides.{nat_tests}
use Rattle.std.proofs.lemmas.Int.{ints}
use Rattle.std.proofs.lemmas.Nat.{div_below}
use Rattle.desk_model.specs.Completion.{picked_value}
use Rattle.desk_model.specs.declared.types.Mark.{Mark}
use Rattle.desk_model.specs.declared.types.Mark.TheVariants.{Unjudged, Relevant}
use Rattle.measure_laws.specs.Powers.{ceil_div, high_power, low_weight, high_weight}
use Rattle.measure_laws.specs.Ranks.{comes_before}
use Rattle.measure_laws.specs.Shares.{low_share, high_share}
use Rattle.measure_laws.proofs.BiasedEnds.{Standing, stands, ahead, behind, level, one_first}
use Rattle.measure_laws.proofs.BiasedSizes.{weights_order}
use Rattle.rbp.specs.Added.{IsAdded, IsUpTo, added, least_low, least_high, most_low, most_high}
use Rattle.rbp.specs.Walk.{share_of, is_in_least, is_in_most, correction}
use Rattle.rbp.specs.declared.by_ranks.Added.{Added}
use Rattle.rbp.proofs.Walk.{AreAlone, ends, alone_in_least_low, alone_in_least_high, alone_in_most_low, alone_in_most_high}

-- ---- weights rounded up fall from rank to rank
ceil_rises : (m n b : ℕ) → m ≤ n → 0 < b → ceil_div m b ≤ ceil_div n b
ceil_rises m n zero h k = absurd (omega arith)
ceil_rises m n (suc b) h k =
    let more : n + b < ((n + b) / suc b + 1) * suc b = omega arith in
    let ends : ceil_div n (suc b) ≡ (n + b) / suc b = ap (λ t. (n + t) / suc b) (omega arith) in
    let starts : ceil_div m (suc b) ≡ (m + b) / suc b = ap (λ t. (m + t) / suc b) (omega arith) in
    omega (arith, ends, starts, div_below (m + b) (suc b) (suc ((n + b) / suc b)) (omega arith) (omega (arith, more, h)))

ceil_within : (n a b : ℕ) → a ≤ b → 0 < b → ceil_div (n * a) b ≤ n
ceil_within n a zero h k = absurd (omega arith)
ceil_within n a (suc b) h k =
    let less : n * a ≤ n * suc b = mul-le-mul_left n h in
    let starts : ceil_div (n * a) (suc b) ≡ (n * a + b) / suc b = ap (λ t. (n * a + t) / suc b) (omega arith) in
    omega (arith, starts, div_below (n * a + b) (suc b) (suc n) (omega arith) (omega (arith, less)))

high_powers_fall : (a b i k : ℕ) → a ≤ b → 0 < b → high_power a b (k + i) ≤ high_power a b i
unfolding high_power
high_powers_fall a b i zero h l = let e : 0 + i ≡ i = omega arith in omega (arith, ap (high_power a b) e)
high_powers_fall a b i (suc k) h l =
    let e : suc k + i ≡ suc (k + i) = omega arith in
    omega (arith, ap (high_power a b) e, ceil_within (high_power a b (k + i)) a b h l, high_powers_fall a b i k h l)

high_weights_fall : (a b x y : ℕ) → a ≤ b → 0 < b → 1 ≤ y → y ≤ x → high_weight a b (Some x) ≤ high_weight a b (Some y)
high_weights_fall a b x y h l first le =
    let e : (x - y) + (y - 1) ≡ x - 1 = omega arith in
    let falls : high_power a b (x - 1) ≤ high_power a b (y - 1) = omega (arith, high_powers_fall a b (y - 1) (x - y) h l, ap (high_power a b) e) in
    ceil_rises (high_power a b (x - 1) * (b - a)) (high_power a b (y - 1) * (b - a)) b (mul-le-mul_right (b - a) falls) l

-- a document that is not ahead of another has no greater weight
not_ahead : (a b : ℕ) (x : Option ℕ) (y : ℕ) → a ≤ b → 0 < b → 1 ≤ y → comes_before x (Some y) ≡ false → high_weight a b x ≤ high_weight a b (Some y)
not_ahead a b None y h l first e = omega arith
not_ahead a b (Some x) y h l first e = let le : y ≤ x = grind (arith, nat_tests) in high_weights_fall a b x y h l first le

-- ---- the sums of one document, by its weights and by which of its ranks comes first
abbrev IsOrder : Bool → Bool → Type 0
IsOrder b c = b ≡ true → c ≡ false

least_lo_is : (lx hx ly hy : ℕ) (b c : Bool) → IsOrder b c → pos (if c then lx else hy) ≡ (if c then (ends lx hx ly hy b c).0 else pos 0) -ℤ (pos 0 +ℤ neg_ℤ (pos hy))
least_lo_is lx hx ly hy true true k = let bad : true ≡ false = k refl in absurd (cc)
least_lo_is lx hx ly hy true false k = omega (arith, ints)
least_lo_is lx hx ly hy false true k = omega (arith, ints)
least_lo_is lx hx ly hy false false k = omega (arith, ints)

least_hi_is : (lx hx ly hy : ℕ) (b c : Bool) → IsOrder b c → pos (if c then min hx ly else ly) ≡ (if c then (ends lx hx ly hy b c).1 else pos 0) -ℤ (pos 0 +ℤ neg_ℤ (pos ly))
least_hi_is lx hx ly hy true true k = let bad : true ≡ false = k refl in absurd (cc)
least_hi_is lx hx ly hy true false k = omega (arith, ints)
least_hi_is lx hx ly hy false true k = omega (arith, ints)
least_hi_is lx hx ly hy false false k = omega (arith, ints)

most_lo_is : (lx hx ly hy : ℕ) (b c : Bool) → neg_ℤ (pos (if b then min lx hy else lx)) ≡ (if b then (ends lx hx ly hy b c).0 else pos 0) -ℤ (pos lx +ℤ neg_ℤ (pos 0))
most_lo_is lx hx ly hy true c = omega (arith, ints)
most_lo_is lx hx ly hy false c = omega (arith, ints)

most_hi_is : (lx hx ly hy : ℕ) (b c : Bool) → neg_ℤ (pos (if b then ly else hx)) ≡ (if b then (ends lx hx ly hy b c).1 else pos 0) -ℤ (pos hx +ℤ neg_ℤ (pos 0))
most_hi_is lx hx ly hy true c = omega (arith, ints)
most_hi_is lx hx ly hy false c = omega (arith, ints)

relevant_lo_is : (lx hx ly hy : ℕ) (b c : Bool) → IsOrder b c → (b ≡ false → c ≡ false → lx ≤ hy) → pos (if c then 0 else hy - lx) ≡ (ends lx hx ly hy b c).0 -ℤ (pos lx +ℤ neg_ℤ (pos hy))
relevant_lo_is lx hx ly hy true true k h = let bad : true ≡ false = k refl in absurd (cc)
relevant_lo_is lx hx ly hy true false k h = omega (arith, ints)
relevant_lo_is lx hx ly hy false true k h = omega (arith, ints)
relevant_lo_is lx hx ly hy false false k h = let le = h refl refl in omega (arith, ints, le)

relevant_hi_is : (lx hx ly hy : ℕ) (b c : Bool) → IsOrder b c → (b ≡ false → c ≡ false → ly ≤ hx) → neg_ℤ (pos (if b then 0 else hx - ly)) ≡ (ends lx hx ly hy b c).1 -ℤ (pos hx +ℤ neg_ℤ (pos ly))
relevant_hi_is lx hx ly hy true true k h = let bad : true ≡ false = k refl in absurd (cc)
relevant_hi_is lx hx ly hy true false k h = omega (arith, ints)
relevant_hi_is lx hx ly hy false true k h = omega (arith, ints)
relevant_hi_is lx hx ly hy false false k h = let le = h refl refl in omega (arith, ints, le)

-- a number chosen by a test
pub chosen : (t u : Bool) (m n i j r : ℕ) → r ≡ (if t then m else n) → t ≡ u → m ≡ i → n ≡ j → r ≡ (if u then i else j)
chosen t u m n i j r e f g h = e ∙ ap (λ b. if b then m else n) f ∙ ap (λ k. if u then k else n) g ∙ ap (λ k. if u then i else k) h

-- ---- which rank comes first
even : (x y : Option ℕ) → comes_before x y ≡ false → comes_before y x ≡ false → x ≡ y
even x y h k = at (stands x y)
  where
    at : Standing x y → x ≡ y
    at (ahead e f) = let bad : true ≡ false = sym e ∙ h in absurd (cc)
    at (behind e f) = let bad : true ≡ false = sym f ∙ k in absurd (cc)
    at (level e f g) = g

-- what ranks alone add is a weight
by_weights : (share : Option ℕ → Option ℕ → ℤ) (picked : Option ℕ → Option ℕ → Bool) (p q : Bool) (v w : Option ℕ → ℕ) (mark : Mark) (x y : Option ℕ) → AreAlone share picked p q v w →
    share_of share picked mark x y -ℤ (pos (if picked_value p mark then v x else 0) +ℤ neg_ℤ (pos (if picked_value q mark then w y else 0))) ≡ correction share picked mark x y
by_weights share picked p q v w mark x y h =
    let term = share_of share picked mark x y in
    sym (ap (λ z. term -ℤ (z +ℤ share_of share picked mark None y)) (h.first mark x) ∙ ap (λ z. term -ℤ (pos (if picked_value p mark then v x else 0) +ℤ z)) (h.second mark y))

-- ---- what a document adds
module _ (top bottom : ℕ) (x : Option ℕ) (y : ℕ) (below : top < bottom) where
  abbrev b : Bool
  b = comes_before x (Some y)

  abbrev c : Bool
  c = comes_before (Some y) x

  abbrev lx : ℕ
  lx = low_weight top bottom x

  abbrev hx : ℕ
  hx = high_weight top bottom x

  abbrev ly : ℕ
  ly = low_weight top bottom (Some y)

  abbrev hy : ℕ
  hy = high_weight top bottom (Some y)

  -- ---- no more than the weight of the second rank
  choice_most : (t : Bool) (m n k : ℕ) → (t ≡ true → m ≤ k) → (t ≡ false → n ≤ k) → (if t then m else n) ≤ k
  choice_most true m n k h j = h refl
  choice_most false m n k h j = j refl

  unjudged_small : (s : Added) → 1 ≤ y → s.least_lo ≡ (if c then lx else hy) → s.least_hi ≡ (if c then min hx ly else ly) → s.most_lo ≡ (if b then min lx hy else lx) → s.most_hi ≡ (if b then ly else hx) → s.relevant_lo ≡ 0 → s.relevant_hi ≡ 0 → IsUpTo hy s
  unjudged_small s first p q u v m n =
      let lows = weights_order top bottom (Some y) (omega (arith, below)) in
      let lows_x = weights_order top bottom x (omega (arith, below)) in
      let highs : b ≡ false → hx ≤ hy = not_ahead top bottom x y (omega (arith, below)) (omega (arith, below)) first in
      let not_first : c ≡ true → b ≡ false = one_first (Some y) x in
      record {
        least_lo = omega (arith, p, choice_most c lx hy hy (λ e. omega (arith, highs (not_first e), lows_x)) (λ e. omega arith));
        least_hi = omega (arith, q, choice_most c (min hx ly) ly hy (λ e. omega (arith, lows)) (λ e. omega (arith, lows)));
        most_lo = omega (arith, u, choice_most b (min lx hy) lx hy (λ e. omega arith) (λ e. omega (arith, highs e, lows_x)));
        most_hi = omega (arith, v, choice_most b ly hx hy (λ e. omega (arith, lows)) highs);
        relevant_lo = omega (arith, m);
        relevant_hi = omega (arith, n);
      }

  relevant_small : (s : Added) → 1 ≤ y → s.least_lo ≡ 0 → s.least_hi ≡ 0 → s.most_lo ≡ 0 → s.most_hi ≡ 0 → s.relevant_lo ≡ (if c then 0 else hy - lx) → s.relevant_hi ≡ (if b then 0 else hx - ly) → IsUpTo hy s
  relevant_small s first p q u v m n =
      let highs : b ≡ false → hx ≤ hy = not_ahead top bottom x y (omega (arith, below)) (omega (arith, below)) first in
      record {
        least_lo = omega (arith, p);
        least_hi = omega (arith, q);
        most_lo = omega (arith, u);
        most_hi = omega (arith, v);
        relevant_lo = omega (arith, m, choice_most c 0 (hy - lx) hy (λ e. omega arith) (λ e. omega arith));
        relevant_hi = omega (arith, n, choice_most b 0 (hx - ly) hy (λ e. omega arith) (λ e. omega (arith, highs e)));
      }

  pub unjudged_is : (s : Added) → 1 ≤ y → s.least_lo ≡ (if c then lx else hy) → s.least_hi ≡ (if c then min hx ly else ly) → s.most_lo ≡ (if b then min lx hy else lx) → s.most_hi ≡ (if b then ly else hx) → s.relevant_lo ≡ 0 → s.relevant_hi ≡ 0 →
      IsAdded top bottom Unjudged x (Some y) s
  unjudged_is s first p q u v m n =
      let one : least_low s ≡ pos (if c then lx else hy) = ap pos (omega (arith, p, m)) in
      let two : least_high s ≡ pos (if c then min hx ly else ly) = omega (arith, ints, n, ap pos q) in
      let three : most_low s ≡ neg_ℤ (pos (if b then min lx hy else lx)) = omega (arith, ints, m, ap (λ k. neg_ℤ (pos k)) u) in
      let four : most_high s ≡ neg_ℤ (pos (if b then ly else hx)) = ap (λ k. neg_ℤ (pos k)) (omega (arith, v, n)) in
      record {
        least_lo = one ∙ least_lo_is lx hx ly hy b c (one_first x (Some y)) ∙ by_weights (low_share top bottom) is_in_least false true (low_weight top bottom) (high_weight top bottom) Unjudged x (Some y) (alone_in_least_low top bottom);
        least_hi = two ∙ least_hi_is lx hx ly hy b c (one_first x (Some y)) ∙ by_weights (high_share top bottom) is_in_least false true (high_weight top bottom) (low_weight top bottom) Unjudged x (Some y) (alone_in_least_high top bottom);
        most_lo = three ∙ most_lo_is lx hx ly hy b c ∙ by_weights (low_share top bottom) is_in_most true false (low_weight top bottom) (high_weight top bottom) Unjudged x (Some y) (alone_in_most_low top bottom);
        most_hi = four ∙ most_hi_is lx hx ly hy b c ∙ by_weights (high_share top bottom) is_in_most true false (high_weight top bottom) (low_weight top bottom) Unjudged x (Some y) (alone_in_most_high top bottom);
        small = unjudged_small s first p q u v m n;
      }

  pub relevant_is : (s : Added) → 1 ≤ y → s.least_lo ≡ 0 → s.least_hi ≡ 0 → s.most_lo ≡ 0 → s.most_hi ≡ 0 → s.relevant_lo ≡ (if c then 0 else hy - lx) → s.relevant_hi ≡ (if b then 0 else hx - ly) →
      IsAdded top bottom Relevant x (Some y) s
  relevant_is s first p q u v m n =
      let low_level : b ≡ false → c ≡ false → lx ≤ hy = λ e f. omega (arith, weights_order top bottom x (omega (arith, below)), ap (high_weight top bottom) (even x (Some y) e f)) in
      let high_level : b ≡ false → c ≡ false → ly ≤ hx = λ e f. omega (arith, weights_order top bottom (Some y) (omega (arith, below)), ap (high_weight top bottom) (even x (Some y) e f)) in
      let lower = relevant_lo_is lx hx ly hy b c (one_first x (Some y)) low_level in
      let upper = relevant_hi_is lx hx ly hy b c (one_first x (Some y)) high_level in
      let one : least_low s ≡ pos (if c then 0 else hy - lx) = ap pos (omega (arith, p, m)) in
      let two : least_high s ≡ neg_ℤ (pos (if b then 0 else hx - ly)) = omega (arith, ints, q, ap (λ k. neg_ℤ (pos k)) n) in
      let three : most_low s ≡ pos (if c then 0 else hy - lx) = omega (arith, ints, u, ap pos m) in
      let four : most_high s ≡ neg_ℤ (pos (if b then 0 else hx - ly)) = ap (λ k. neg_ℤ (pos k)) (omega (arith, v, n)) in
      record {
        least_lo = one ∙ lower ∙ by_weights (low_share top bottom) is_in_least false true (low_weight top bottom) (high_weight top bottom) Relevant x (Some y) (alone_in_least_low top bottom);
        least_hi = two ∙ upper ∙ by_weights (high_share top bottom) is_in_least false true (high_weight top bottom) (low_weight top bottom) Relevant x (Some y) (alone_in_least_high top bottom);
        most_lo = three ∙ lower ∙ by_weights (low_share top bottom) is_in_most true false (low_weight top bottom) (high_weight top bottom) Relevant x (Some y) (alone_in_most_low top bottom);
        most_hi = four ∙ upper ∙ by_weights (high_share top bottom) is_in_most true false (high_weight top bottom) (low_weight top bottom) Relevant x (Some y) (alone_in_most_high top bottom);
        small = relevant_small s first p q u v m n;
      }

-- ---- sums of several
pub up_to_more : (n m k : ℕ) (s t : Added) → k ≡ n + m → IsUpTo n s → IsUpTo m t → IsUpTo k (added s t)
up_to_more n m k s t e h j = record {
  least_lo = omega (arith, e, h.least_lo, j.least_lo);
  least_hi = omega (arith, e, h.least_hi, j.least_hi);
  most_lo = omega (arith, e, h.most_lo, j.most_lo);
  most_hi = omega (arith, e, h.most_hi, j.most_hi);
  relevant_lo = omega (arith, e, h.relevant_lo, j.relevant_lo);
  relevant_hi = omega (arith, e, h.relevant_hi, j.relevant_hi);
}

pub up_to_wider : (n m : ℕ) (s : Added) → n ≤ m → IsUpTo n s → IsUpTo m s
up_to_wider n m s le h = record {
  least_lo = omega (arith, le, h.least_lo);
  least_hi = omega (arith, le, h.least_hi);
  most_lo = omega (arith, le, h.most_lo);
  most_hi = omega (arith, le, h.most_hi);
  relevant_lo = omega (arith, le, h.relevant_lo);
  relevant_hi = omega (arith, le, h.relevant_hi);
}

pub least_low_added : (s t : Added) → least_low (added s t) ≡ least_low s +ℤ least_low t
least_low_added s t = omega (arith, ints)

pub least_high_added : (s t : Added) → least_high (added s t) ≡ least_high s +ℤ least_high t
least_high_added s t = omega (arith, ints)

pub most_low_added : (s t : Added) → most_low (added s t) ≡ most_low s +ℤ most_low t
most_low_added s t = omega (arith, ints)

pub most_high_added : (s t : Added) → most_high (added s t) ≡ most_high s +ℤ most_high t
most_high_added s t = omega (arith, ints)
