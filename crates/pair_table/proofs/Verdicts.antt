-- What a verdict says of four sums.
use Rattle.std.proofs.Common.{◌≡◌, ℕ, ◌<◌, ◌≤◌, Bool, true, false, ℤ, pos, negsuc, ◌+ℤ◌, ◌≤ℤ◌, ◌<ℤ◌, inl, inr, refl, ap, ◌∙◌, arith}
use Rattle.std.specs.Prelude.{int_lt, int_le, ◌&&◌, ◌||◌, if◌then◌else◌}
use Rattle.std.specs.Ordering.{int_eq}
use Rattle.std.proofs.lemmas.Int.{ints}
use Rattle.std.proofs.lemmas.Bool.Decides.{nat_tests}
use Rattle.small_lemmas.proofs.Tests.{positive, not_positive, negative, not_negative}
use Rattle.desk_model.specs.Verdict.{verdict, differs}
use Rattle.desk_model.specs.declared.types.Totals.{Totals}
use Rattle.desk_model.specs.declared.types.Verdict.{Verdict}
use Rattle.desk_model.specs.declared.types.Verdict.TheVariants.{Above, Below, Equal, Open, Close}
use Rattle.pair_table.specs.Orders.{IsNearZero}

below_zero : (z : ℤ) → int_le (pos 0) z ≡ false → z <ℤ pos 0
below_zero (pos n) h = absurd (grind (arith, nat_tests, h))
below_zero (negsuc n) h = omega (arith, ints)

zero_is : (z : ℤ) → int_eq z (pos 0) ≡ true → z ≡ pos 0
zero_is (pos n) h = let k : n ≡ 0 = grind (arith, nat_tests, h) in ap pos k
zero_is (negsuc n) h = absurd (cc)

-- the first of four tests
choose : Bool → Bool → Bool → Bool → Verdict
choose above below equal open_ = if above then Above else if below then Below else if equal then Equal else if open_ then Open else Close

chosen_above : (a b e o : Bool) → choose a b e o ≡ Above → a ≡ true
unfolding choose
chosen_above true b e o h = refl
chosen_above false true e o h = absurd (cc)
chosen_above false false true o h = absurd (cc)
chosen_above false false false true h = absurd (cc)
chosen_above false false false false h = absurd (cc)

chosen_below : (a b e o : Bool) → choose a b e o ≡ Below → b ≡ true
unfolding choose
chosen_below true b e o h = absurd (cc)
chosen_below false true e o h = refl
chosen_below false false true o h = absurd (cc)
chosen_below false false false true h = absurd (cc)
chosen_below false false false false h = absurd (cc)

chosen_equal : (a b e o : Bool) → choose a b e o ≡ Equal → e ≡ true
unfolding choose
chosen_equal true b e o h = absurd (cc)
chosen_equal false true e o h = absurd (cc)
chosen_equal false false true o h = refl
chosen_equal false false false true h = absurd (cc)
chosen_equal false false false false h = absurd (cc)

chosen_open : (a b e o : Bool) → choose a b e o ≡ Open → o ≡ true
unfolding choose
chosen_open true b e o h = absurd (cc)
chosen_open false true e o h = absurd (cc)
chosen_open false false true o h = absurd (cc)
chosen_open false false false true h = refl
chosen_open false false false false h = absurd (cc)

chosen_close : (a b e o : Bool) → choose a b e o ≡ Close → (a ≡ false) × (b ≡ false) × (o ≡ false)
unfolding choose
chosen_close true b e o h = absurd (cc)
chosen_close false true e o h = absurd (cc)
chosen_close false false true o h = absurd (cc)
chosen_close false false false true h = absurd (cc)
chosen_close false false false false h = (refl, refl, refl)

both_true : (a b : Bool) → (a && b) ≡ true → (a ≡ true) × (b ≡ true)
both_true true true h = (refl, refl)
both_true true false h = absurd (cc)
both_true false b h = absurd (cc)

neither : (a b c : Bool) → ((a && b) || c) ≡ false → a ≡ true → b ≡ false
neither true true c h t = absurd (cc)
neither true false c h t = refl
neither false b c h t = absurd (cc)

module _ (t : Totals) where
  abbrev above_at : Bool
  above_at = int_lt (pos 0) t.least_lo

  abbrev below_at : Bool
  below_at = int_lt t.most_hi (pos 0)

  abbrev equal_at : Bool
  equal_at = int_eq t.least_lo (pos 0) && int_eq t.most_hi (pos 0)

  abbrev open_at : Bool
  open_at = differs t.least_hi t.most_lo

  pub above_says : verdict t ≡ Above → pos 0 <ℤ t.least_lo
  unfolding choose
  above_says h = positive t.least_lo (chosen_above above_at below_at equal_at open_at h)

  pub below_says : verdict t ≡ Below → t.most_hi <ℤ pos 0
  unfolding choose
  below_says h = negative t.most_hi (chosen_below above_at below_at equal_at open_at h)

  pub equal_says : verdict t ≡ Equal → (t.least_lo ≡ pos 0) × (t.most_hi ≡ pos 0)
  unfolding choose
  equal_says h =
      let both = both_true (int_eq t.least_lo (pos 0)) (int_eq t.most_hi (pos 0)) (chosen_equal above_at below_at equal_at open_at h) in
      (zero_is t.least_lo both.0, zero_is t.most_hi both.1)

  pub open_says : verdict t ≡ Open → differs t.least_hi t.most_lo ≡ true
  unfolding choose
  open_says h = chosen_open above_at below_at equal_at open_at h

  -- where the ends of the least sum, and those of the greatest, are that near to each other
  pub close_says : (width : ℕ) → t.least_hi ≤ℤ (t.least_lo +ℤ pos width) → t.most_hi ≤ℤ (t.most_lo +ℤ pos width) → verdict t ≡ Close → IsNearZero width t
  unfolding choose
  close_says width least most h =
      let no = chosen_close above_at below_at equal_at open_at h in
      let low : t.least_lo ≤ℤ pos 0 = not_positive t.least_lo no.0 in
      let high : pos 0 ≤ℤ t.most_hi = not_negative t.most_hi no.1 in
      go (int_lt t.least_hi (pos 0)) refl low high no.2
    where
      go : (b : Bool) → int_lt t.least_hi (pos 0) ≡ b → t.least_lo ≤ℤ pos 0 → pos 0 ≤ℤ t.most_hi → differs t.least_hi t.most_lo ≡ false → IsNearZero width t
      go true e low high shut =
          let under : t.most_lo <ℤ pos 0 = below_zero t.most_lo (neither (int_lt t.least_hi (pos 0)) (int_le (pos 0) t.most_lo) _ shut e) in
          inr (high, omega (arith, ints))
      go false e low high shut =
          let over : pos 0 ≤ℤ t.least_hi = not_negative t.least_hi e in
          inl (omega (arith, ints), low)

-- ---- the tests of a verdict, the other way
is_positive : (z : ℤ) → pos 0 <ℤ z → int_lt (pos 0) z ≡ true
is_positive (pos n) h = let k : 0 < n = omega (arith, ints, h) in grind (arith, nat_tests)
is_positive (negsuc n) h = absurd (omega (arith, ints, h))

is_not_positive : (z : ℤ) → z ≤ℤ pos 0 → int_lt (pos 0) z ≡ false
is_not_positive (pos n) h = let k : n ≤ 0 = omega (arith, ints, h) in grind (arith, nat_tests)
is_not_positive (negsuc n) h = refl

is_negative : (z : ℤ) → z <ℤ pos 0 → int_lt z (pos 0) ≡ true
is_negative (pos n) h = absurd (omega (arith, ints, h))
is_negative (negsuc n) h = refl

module _ (t : Totals) where
  pub verdict_above : pos 0 <ℤ t.least_lo → verdict t ≡ Above
  unfolding choose
  verdict_above h = ap (λ x. choose x (below_at t) (equal_at t) (open_at t)) (is_positive t.least_lo h)

  pub verdict_below : t.least_lo ≤ℤ pos 0 → t.most_hi <ℤ pos 0 → verdict t ≡ Below
  unfolding choose
  verdict_below h k =
      ap (λ x. choose x (below_at t) (equal_at t) (open_at t)) (is_not_positive t.least_lo h)
      ∙ ap (λ x. choose false x (equal_at t) (open_at t)) (is_negative t.most_hi k)

  pub verdict_equal : t.least_lo ≡ pos 0 → t.most_hi ≡ pos 0 → verdict t ≡ Equal
  unfolding choose
  verdict_equal h k =
      ap (λ z. choose (int_lt (pos 0) z) (below_at t) (int_eq z (pos 0) && int_eq t.most_hi (pos 0)) (open_at t)) h
      ∙ ap (λ z. choose false (int_lt z (pos 0)) (int_eq z (pos 0)) (open_at t)) k
