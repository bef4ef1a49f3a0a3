-- The ends of rank-biased precision under refined marks.
use Rattle.std.proofs.Common.{◌≡◌, ℕ, zero, suc, ◌+◌, ◌-◌, ◌*◌, ◌/◌, ◌^◌, ◌<◌, ◌≤◌, List, [], ◌∷◌, length, Bool, true, false, true≢false, ◌⊎◌, inl, inr, Option, Some, None, refl, ap, sym, subst, ◌∙◌, arith, map, min, if◌then◌else◌}
use Rattle.std.specs.Prelude.{ℤ, pos, ◌≤ℤ◌}
use Rattle.std.specs.List.{range_with_len}
use Rattle.std.proofs.lemmas.Int.{ints}
use Rattle.std.proofs.lemmas.Bool.Decides.{nat_tests}
use Rattle.std.proofs.Math.Nat.{mul-le-mul_left, mul-le-mul_right}
use Rattle.desk_model.specs.Mark.{mark_at}
use Rattle.desk_model.specs.Ranking.{rank}
use Rattle.desk_model.specs.Completion.{with_picked, picked_value}
use Rattle.desk_model.specs.Score.{gained}
use Rattle.desk_model.specs.Verdict.{whole_sum}
use Rattle.desk_model.specs.declared.types.Mark.{Mark}
use Rattle.desk_model.specs.declared.types.Mark.TheVariants.{Unjudged, Relevant, Other}
use Rattle.measure_laws.specs.Ranks.{comes_before}
use Rattle.measure_laws.specs.Powers.{low_power, high_power, low_weight, high_weight}
use Rattle.measure_laws.specs.Shares.{low_share, biased_truth, biased_least_lo, biased_bound_lo, biased_bound_hi, high_worth}
use Rattle.measure_laws.proofs.BiasedEnds.{Standing, stands, ahead, behind, level}
use Rattle.measure_laws.proofs.BiasedSizes.{weights_order}
use Rattle.std.proofs.lemmas.Nat.{div_below}
use Rattle.std.proofs.lemmas.Bool.{cases_lt}
use Rattle.measure_laws.specs.Refinement.{MayBecome, AreRefinedBy}
use Rattle.measure_laws.proofs.Refined.{length-refined, becomes_at}

-- a term of a sum grows where an unjudged document that it holds has no positive share, and one that it lacks no negative one
term : (m n : Mark) (pick : Bool) (share : ℤ) → MayBecome m n → (pick ≡ true → share ≤ℤ pos 0) → (pick ≡ false → pos 0 ≤ℤ share) →
    (if picked_value pick m then share else pos 0) ≤ℤ (if picked_value pick n then share else pos 0)
term Unjudged Unjudged pick share s h k = at (picked_value pick Unjudged)
  where
    at : (b : Bool) → (if b then share else pos 0) ≤ℤ (if b then share else pos 0)
    at true = omega (arith, ints)
    at false = omega (arith, ints)
term Unjudged Relevant true share s h k = omega (arith, ints)
term Unjudged Relevant false share s h k = k refl
term Unjudged Other true share s h k = h refl
term Unjudged Other false share s h k = omega (arith, ints)
term Relevant n pick share s h k = subst (λ m. share ≤ℤ (if picked_value pick m then share else pos 0)) (sym s) (omega (arith, ints))
term Other n pick share s h k = subst (λ m. pos 0 ≤ℤ (if picked_value pick m then share else pos 0)) (sym s) (omega (arith, ints))

div_within : (n a b : ℕ) → a ≤ b → 0 < b → n * a / b ≤ n
div_within n a zero h k = absurd (omega arith)
div_within n a (suc b) h k =
    let less : n * a ≤ n * suc b = mul-le-mul_left n h in omega (arith, div_below (n * a) (suc b) (suc n) (omega arith) (omega (arith, less)))

div_rises : (m n b : ℕ) → m ≤ n → 0 < b → m / b ≤ n / b
div_rises m n zero h k = absurd (omega arith)
div_rises m n (suc b) h k =
    let more : n < (n / suc b + 1) * suc b = omega (arith, k) in
    omega (arith, div_below m (suc b) (suc (n / suc b)) (omega arith) (omega (arith, more)))

powers_fall : (a b i k : ℕ) → a ≤ b → 0 < b → low_power a b (k + i) ≤ low_power a b i
unfolding low_power
powers_fall a b i zero h l = let e : 0 + i ≡ i = omega arith in omega (arith, ap (low_power a b) e)
powers_fall a b i (suc k) h l =
    let e : suc k + i ≡ suc (k + i) = omega arith in
    omega (arith, ap (low_power a b) e, div_within (low_power a b (k + i)) a b h l, powers_fall a b i k h l)

-- a document that the other run ranks before has there the greater weight
favoured : (a b : ℕ) (x y : Option ℕ) → a ≤ b → 0 < b → comes_before y x ≡ true → low_weight a b x ≤ high_weight a b y
favoured a b None y h k e = omega arith
favoured a b (Some i) None h k e = absurd (cc)
favoured a b (Some i) (Some j) h k e =
    let lt : j < i = grind (arith, nat_tests) in
    let far : (i - j) + (j - 1) ≡ i - 1 ⊎ (j ≡ 0) = elim (cases_lt 0 j) [ inl some ↦ inl (omega arith) | inr none ↦ inr (omega arith) ] in
    let falls : low_power a b (i - 1) ≤ low_power a b (j - 1) =
    elim far [
      | inl one ↦ omega (arith, powers_fall a b (j - 1) (i - j) h k, ap (low_power a b) one)
      | inr none ↦ let start : j - 1 ≡ 0 = omega arith in let all : (i - 1) + 0 ≡ i - 1 = omega arith in omega (arith, powers_fall a b 0 (i - 1) h k, ap (low_power a b) all, ap (low_power a b) start)
    ] in
    let grown = mul-le-mul_right (b - a) falls in
    omega (arith, div_rises (low_power a b (i - 1) * (b - a)) (low_power a b (j - 1) * (b - a)) b grown k, weights_order a b (Some j) k)

behind_negative : (a b : ℕ) (x y : Option ℕ) → a ≤ b → 0 < b → comes_before y x ≡ true → low_share a b x y ≤ℤ pos 0
behind_negative a b x y h k e = at (stands x y)
  where
    at : Standing x y → low_share a b x y ≤ℤ pos 0
    at (ahead f g) = absurd (true≢false (sym e ∙ g))
    at (behind f g) = rw (f, g) (let less = favoured a b x y h k e in omega (arith, ints, less))
    at (level f g same) = absurd (true≢false (sym e ∙ g))

else_positive : (a b : ℕ) (x y : Option ℕ) → comes_before y x ≡ false → pos 0 ≤ℤ low_share a b x y
else_positive a b x y e = at (stands x y)
  where
    at : Standing x y → pos 0 ≤ℤ low_share a b x y
    at (ahead f g) = rw f (omega (arith, ints))
    at (behind f g) = absurd (true≢false (sym g ∙ e))
    at (level f g same) = rw (f, g) (omega (arith, ints))

sums_rise : (f g : ℕ → ℤ) (zs : List ℕ) → ((d : ℕ) → f d ≤ℤ g d) → whole_sum (map f zs) ≤ℤ whole_sum (map g zs)
sums_rise f g [] h = omega (arith, ints)
sums_rise f g (z ∷ zs) h = omega (arith, ints, h z, sums_rise f g zs h)

module _ (ms ns : List Mark) (h : AreRefinedBy ms ns) where
  pub least_rises : (a b : ℕ) (first second : List ℕ) → a ≤ b → 0 < b → biased_least_lo a b ms first second ≤ℤ biased_least_lo a b ns first second
  least_rises a b first second le some =
      let rises = sums_rise
      (λ doc. if biased_truth ms first second doc then low_share a b (rank first doc) (rank second doc) else pos 0)
      (λ doc. if biased_truth ns first second doc then low_share a b (rank first doc) (rank second doc) else pos 0)
      (range_with_len 0 (length ms))
      (λ doc. term (mark_at ms doc) (mark_at ns doc) (comes_before (rank second doc) (rank first doc)) (low_share a b (rank first doc) (rank second doc)) (becomes_at ms ns doc h)
      (behind_negative a b (rank first doc) (rank second doc) le some) (else_positive a b (rank first doc) (rank second doc))) in
      let whole = ap (λ n. whole_sum (map (λ doc. if biased_truth ns first second doc then low_share a b (rank first doc) (rank second doc) else pos 0) (range_with_len 0 n))) (length-refined ms ns h) in
      omega (arith, ints, rises, whole)

gains_rise : (worth : ℕ → ℕ) (r : ℕ) (s t : ℕ → Bool) (docs : List ℕ) → ((d : ℕ) → s d ≡ true → t d ≡ true) → gained worth r (map s docs) ≤ gained worth r (map t docs)
gains_rise worth r s t [] h = omega arith
gains_rise worth r s t (d ∷ docs) h = at (s d) refl (gains_rise worth (r + 1) s t docs h)
  where
    at : (b : Bool) → s d ≡ b → gained worth (r + 1) (map s docs) ≤ gained worth (r + 1) (map t docs) → (if b then worth r else 0) + gained worth (r + 1) (map s docs) ≤ (if t d then worth r else 0) + gained worth (r + 1) (map t docs)
    at true e rest = let same : (if t d then worth r else 0) ≡ worth r = ap (λ b. if b then worth r else 0) (h d e) in omega (arith, rest, same)
    at false e rest = omega (arith, rest)

relevant_stays : (m n : Mark) → MayBecome m n → picked_value false m ≡ true → picked_value false n ≡ true
relevant_stays Unjudged n s e = absurd (true≢false (sym e))
relevant_stays Relevant n s e = ap (picked_value false) s
relevant_stays Other n s e = absurd (true≢false (sym e))

other_stays : (m n : Mark) → MayBecome m n → picked_value true n ≡ true → picked_value true m ≡ true
other_stays Unjudged n s e = refl
other_stays Relevant n s e = refl
other_stays Other n s e = absurd (true≢false (sym e ∙ ap (picked_value true) s))

module _ (ms ns : List Mark) (h : AreRefinedBy ms ns) (a b : ℕ) (docs : List ℕ) where
  pub bound_rises : biased_bound_lo a b ms docs ≤ biased_bound_lo a b ns docs
  bound_rises = gains_rise (λ r. low_weight a b (Some r)) 1 (with_picked ms (λ _. false)) (with_picked ns (λ _. false)) docs (λ d. relevant_stays (mark_at ms d) (mark_at ns d) (becomes_at ms ns d h))

  worth_falls : high_worth a b true ns docs ≤ high_worth a b true ms docs
  worth_falls = gains_rise (λ r. high_weight a b (Some r)) 1 (with_picked ns (λ _. true)) (with_picked ms (λ _. true)) docs (λ d. other_stays (mark_at ms d) (mark_at ns d) (becomes_at ms ns d h))

  pub bound_falls : biased_bound_hi a b ns docs ≤ biased_bound_hi a b ms docs
  bound_falls = capped (high_worth a b true ns docs) (high_worth a b true ms docs) (high_power a b (length docs)) worth_falls
    where
      capped : (m n p : ℕ) → m ≤ n → min (10 ^ 18) (m + p) ≤ min (10 ^ 18) (n + p)
      capped m n p le = omega (arith, le)
