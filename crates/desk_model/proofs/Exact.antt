-- When ends are the extremes: bounds that hold in every completion, and are attained in some.
use Rattle.std.proofs.Common.{◌≡◌, ◌≢◌, ◌↔◌, ℕ, zero, suc, ◌+◌, ◌*◌, ◌<◌, ◌≤◌, List, [], ◌∷◌, map, ℤ, pos, negsuc, ◌≤ℤ◌, ◌<ℤ◌, arith, refl, sym, subst, ap, ◌∙◌}
use Rattle.std.specs.Prelude.{All}
use Rattle.std.specs.List.{AllZip, AllByRecursion}
use Rattle.std.proofs.Math.Nat.{mul-pos, le_of_mul-le-mul_right}
use Rattle.std.proofs.lemmas.Int.{ints}
use Rattle.std.proofs.lemmas.Bool.Decides.{nat_tests}
use Rattle.std.proofs.lemmas.List.Elements.{recursion_from_All}
use borrow.Author.Differences.{up, down, at_most_in as at_most_z}
use Rattle.desk_model.specs.Fraction.{Fraction, IsAtMost, IsAtLeast}
use Rattle.desk_model.specs.Order.{Topic, IsAlwaysAbove, AreAlwaysEqual}
use Rattle.desk_model.specs.Extremes.{InEvery, InSome, Ends, AreExtremes}
use Rattle.desk_model.specs.Enclosure.{AreExactEnds}
use Rattle.desk_model.specs.Verdict.{whole_sum, totals_of, verdict, IsExactVerdict}
use Rattle.desk_model.specs.declared.types.Mark.{Mark}
use Rattle.desk_model.specs.declared.types.MeasureName.{MeasureName}
use Rattle.desk_model.specs.declared.types.Totals.{Totals}
use Rattle.desk_model.specs.declared.types.Verdict.{Verdict}
use Rattle.desk_model.specs.declared.types.Verdict.TheVariants.{Above, Below, Equal, Open, Close}
use Rattle.desk_model.proofs.Fractions.{at_most_out, at_least_out}
use Rattle.desk_model.proofs.Completions.{some_completion}
use Rattle.desk_model.proofs.Topics.{score-den, total_scores-den, at_most_adds, at_least_adds, total_in_every, always_above, always_below, always_equal, not_always_above, not_always_below, equal_not_negative, equal_not_positive}

-- what is at most a difference is at most what is at least that difference
pub at_most_least : (z w : ℤ) (u : ℕ) (x y : Fraction) → 0 < x.den → 0 < y.den → IsAtMost z u x y → IsAtLeast w u x y → z ≤ℤ w
at_most_least z w u x y p q h k =
    let whole : 0 < x.den * y.den = mul-pos p q in
    let joined : (up z + down w) * (x.den * y.den) ≤ (up w + down z) * (x.den * y.den) = omega (arith, at_most_out z u x y h, at_least_out w u x y k) in
    at_most_z z w (le_of_mul-le-mul_right joined whole)

-- two numbers that bound unit times the difference in every completion, and are attained, are the extremes
pub exact_extremes : (m : MeasureName) (u : ℕ) (marks : List Mark) (a b : List ℕ) (low high : ℤ) →
    InEvery m marks a b (IsAtMost low u) → InSome m marks a b (IsAtLeast low u) → InEvery m marks a b (IsAtLeast high u) → InSome m marks a b (IsAtMost high u) →
    AreExtremes m u marks a b (record { least_lo = low; least_hi = low; most_lo = high; most_hi = high })
exact_extremes m u marks a b low high below low_at above high_at = record {
  least_lo = record {
    so = below;
    others = λ w h. at_most_least w low u _ _ (score-den m _ _ _ _) (score-den m _ _ _ _) (h low_at.0 low_at.1 low_at.2 low_at.3) low_at.4;
  };
  least_hi = record {
    so = low_at;
    others = λ w h. at_most_least low w u _ _ (score-den m _ _ _ _) (score-den m _ _ _ _) (below h.0 h.1 h.2 h.3) h.4;
  };
  most_hi = record {
    so = above;
    others = λ w h. at_most_least high w u _ _ (score-den m _ _ _ _) (score-den m _ _ _ _) high_at.4 (h high_at.0 high_at.1 high_at.2 high_at.3);
  };
  most_lo = record {
    so = high_at;
    others = λ w h. at_most_least w high u _ _ (score-den m _ _ _ _) (score-den m _ _ _ _) h.4 (above h.0 h.1 h.2 h.3);
  };
}

-- ---- the four ends of each topic, end by end
abbrev HaveExtremes : MeasureName → ℕ → ℕ → ℕ → List Ends → List Topic → Type 0
HaveExtremes m u a b ends topics = AllZip (λ e topic. AreExtremes m u topic.marks (topic.ranking a) (topic.ranking b) e) ends topics

each : (m : MeasureName) (u a b : ℕ) (fact : ℤ → Topic → Type 0) (end : Ends → ℤ) →
    ((e : Ends) (topic : Topic) → AreExtremes m u topic.marks (topic.ranking a) (topic.ranking b) e → fact (end e) topic) →
    (ends : List Ends) (topics : List Topic) → HaveExtremes m u a b ends topics → AllZip fact (map end ends) topics
each m u a b fact end f [] [] h = tt
each m u a b fact end f [] (t ∷ ts) h = absurd h
each m u a b fact end f (e ∷ es) [] h = absurd h
each m u a b fact end f (e ∷ es) (t ∷ ts) h = (f e t h.0, each m u a b fact end f es ts h.1)

same_sums : (first second : Ends → ℤ) (ends : List Ends) → AllByRecursion (λ e. first e ≡ second e) ends → whole_sum (map first ends) ≡ whole_sum (map second ends)
same_sums first second [] h = refl
same_sums first second (e ∷ es) h = let rest = same_sums first second es h.1 in let here = h.0 in omega (arith, ints, here, rest)

same_all : (first second : Ends → ℤ) (ends : List Ends) → All (λ e. first e ≡ second e) ends → whole_sum (map first ends) ≡ whole_sum (map second ends)
same_all first second ends h = same_sums first second ends (recursion_from_All (λ e. first e ≡ second e) ends h)

positive_or : (z : ℤ) → (z ≤ℤ pos 0 → ⊥) → pos 0 <ℤ z
positive_or (pos zero) h = absurd (h (omega (arith, ints)))
positive_or (pos (suc n)) h = omega (arith, ints)
positive_or (negsuc n) h = absurd (h (omega (arith, ints)))

negative_or : (z : ℤ) → (pos 0 ≤ℤ z → ⊥) → z <ℤ pos 0
negative_or (pos n) h = absurd (h (omega (arith, ints)))
negative_or (negsuc n) h = omega (arith, ints)

-- ---- where the extremes are whole numbers of units, their sums decide the order exactly
pub above_exactly : (m : MeasureName) (u a b : ℕ) (topics : List Topic) (ends : List Ends) → 0 < u → a ≢ b → AreExactEnds m u topics a b ends →
    (pos 0 <ℤ (totals_of ends).least_lo) ↔ IsAlwaysAbove m topics a b
above_exactly m u a b topics ends unit apart h = (
  λ positive. always_above m u a b topics _ (each m u a b _ (λ e. e.least_lo) (λ e t x. x.least_lo.so) ends topics h.extremes) positive,
  λ above. positive_or (totals_of ends).least_lo (λ low. not_always_above m u a b apart unit topics _ (each m u a b _ (λ e. e.least_hi) (λ e t x. x.least_hi.so) ends topics h.extremes)
      (subst (λ z. z ≤ℤ pos 0) (same_all (λ e. e.least_lo) (λ e. e.least_hi) ends h.least) low) above),
)

pub below_exactly : (m : MeasureName) (u a b : ℕ) (topics : List Topic) (ends : List Ends) → 0 < u → a ≢ b → AreExactEnds m u topics a b ends →
    ((totals_of ends).most_hi <ℤ pos 0) ↔ IsAlwaysAbove m topics b a
below_exactly m u a b topics ends unit apart h = (
  λ negative. always_below m u a b topics _ (each m u a b _ (λ e. e.most_hi) (λ e t x. x.most_hi.so) ends topics h.extremes) negative,
  λ below. negative_or (totals_of ends).most_hi (λ high. not_always_below m u a b apart unit topics _ (each m u a b _ (λ e. e.most_lo) (λ e t x. x.most_lo.so) ends topics h.extremes)
      (subst (λ z. pos 0 ≤ℤ z) (sym (same_all (λ e. e.most_lo) (λ e. e.most_hi) ends h.most)) high) below),
)

-- the sum of the least lower ends is at most that of the greatest upper ends
pub sums_in_order : (m : MeasureName) (u a b : ℕ) (topics : List Topic) (ends : List Ends) → HaveExtremes m u a b ends topics → (totals_of ends).least_lo ≤ℤ (totals_of ends).most_hi
sums_in_order m u a b topics ends h =
    let some = some_completion topics in
    at_most_least (totals_of ends).least_lo (totals_of ends).most_hi u _ _ (total_scores-den m a topics some.0) (total_scores-den m b topics some.0)
    (total_in_every (λ z. IsAtMost z u) (at_most_adds u) m a b _ topics some.0 (each m u a b _ (λ e. e.least_lo) (λ e t x. x.least_lo.so) ends topics h) some.1)
    (total_in_every (λ z. IsAtLeast z u) (at_least_adds u) m a b _ topics some.0 (each m u a b _ (λ e. e.most_hi) (λ e t x. x.most_hi.so) ends topics h) some.1)

-- two whole numbers, the smaller not negative and the greater not positive
both_zero : (z w : ℤ) → z ≤ℤ w → pos 0 ≤ℤ z → w ≤ℤ pos 0 → (z ≡ pos 0) × (w ≡ pos 0)
both_zero z w h low high = (omega (arith, ints), omega (arith, ints))

no_topics : (m : MeasureName) (u a b : ℕ) (ends : List Ends) → HaveExtremes m u a b ends [] → ((totals_of ends).least_lo ≡ pos 0) × ((totals_of ends).most_hi ≡ pos 0)
no_topics m u a b [] h = (refl, refl)
no_topics m u a b (e ∷ es) h = absurd h

equal_sums : (m : MeasureName) (u a b : ℕ) (topics : List Topic) (ends : List Ends) → a ≢ b → AreExactEnds m u topics a b ends → AreAlwaysEqual m topics a b →
    ((totals_of ends).least_lo ≡ pos 0) × ((totals_of ends).most_hi ≡ pos 0)
equal_sums m u a b [] ends apart h equal = no_topics m u a b ends h.extremes
equal_sums m u a b (t ∷ ts) ends apart h equal =
    let topics = t ∷ ts in
    let low = equal_not_negative m u a b apart topics _ (each m u a b _ (λ e. e.least_hi) (λ e t x. x.least_hi.so) ends topics h.extremes) equal (omega arith) in
    let high = equal_not_positive m u a b apart topics _ (each m u a b _ (λ e. e.most_lo) (λ e t x. x.most_lo.so) ends topics h.extremes) equal (omega arith) in
    both_zero (totals_of ends).least_lo (totals_of ends).most_hi (sums_in_order m u a b topics ends h.extremes)
    (subst (λ z. pos 0 ≤ℤ z) (sym (same_all (λ e. e.least_lo) (λ e. e.least_hi) ends h.least)) low)
    (subst (λ z. z ≤ℤ pos 0) (same_all (λ e. e.most_lo) (λ e. e.most_hi) ends h.most) high)

pub equal_exactly : (m : MeasureName) (u a b : ℕ) (topics : List Topic) (ends : List Ends) → 0 < u → a ≢ b → AreExactEnds m u topics a b ends →
    (((totals_of ends).least_lo ≡ pos 0) × ((totals_of ends).most_hi ≡ pos 0)) ↔ AreAlwaysEqual m topics a b
equal_exactly m u a b topics ends unit apart h = (
  λ zero_sums. always_equal m u a b topics _ _ unit (each m u a b _ (λ e. e.least_lo) (λ e t x. x.least_lo.so) ends topics h.extremes) (each m u a b _ (λ e. e.most_hi) (λ e t x. x.most_hi.so) ends topics h.extremes)
      (subst (λ z. pos 0 ≤ℤ z) (sym zero_sums.0) (omega (arith, ints))) (subst (λ z. z ≤ℤ pos 0) (sym zero_sums.1) (omega (arith, ints))),
  equal_sums m u a b topics ends apart h,
)

-- ---- the verdict of two sums, each with its two ends the same
pub record IsSigned (low high : ℤ) (v : Verdict) : Type 0 where
  pub above : (v ≡ Above) ↔ (pos 0 <ℤ low)
  pub below : (v ≡ Below) ↔ (high <ℤ pos 0)
  pub equal : (v ≡ Equal) ↔ ((low ≡ pos 0) × (high ≡ pos 0))
  pub never_close : v ≢ Close

two_sums : ℤ → ℤ → Totals
two_sums low high = record { least_lo = low; least_hi = low; most_lo = high; most_hi = high }

signed_above : (low high : ℤ) → low ≤ℤ high → pos 0 <ℤ low → IsSigned low high Above
signed_above low high h positive = record {
  above = (λ _. positive, λ _. refl);
  below = (λ (e : Above ≡ Below). absurd (cc), λ negative. absurd (omega (arith, ints)));
  equal = (λ (e : Above ≡ Equal). absurd (cc), λ zeros. absurd (omega (arith, ints, zeros.0)));
  never_close = λ (e : Above ≡ Close). cc;
}

signed_below : (low high : ℤ) → low ≤ℤ high → high <ℤ pos 0 → IsSigned low high Below
signed_below low high h negative = record {
  above = (λ (e : Below ≡ Above). absurd (cc), λ positive. absurd (omega (arith, ints)));
  below = (λ _. negative, λ _. refl);
  equal = (λ (e : Below ≡ Equal). absurd (cc), λ zeros. absurd (omega (arith, ints, zeros.1)));
  never_close = λ (e : Below ≡ Close). cc;
}

signed_equal : (low high : ℤ) → low ≡ pos 0 → high ≡ pos 0 → IsSigned low high Equal
signed_equal low high zero_low zero_high = record {
  above = (λ (e : Equal ≡ Above). absurd (cc), λ positive. absurd (omega (arith, ints)));
  below = (λ (e : Equal ≡ Below). absurd (cc), λ negative. absurd (omega (arith, ints)));
  equal = (λ _. (zero_low, zero_high), λ _. refl);
  never_close = λ (e : Equal ≡ Close). cc;
}

signed_open : (low high : ℤ) → low ≤ℤ pos 0 → pos 0 ≤ℤ high → (low ≡ pos 0 → high ≡ pos 0 → ⊥) → IsSigned low high Open
signed_open low high h k other = record {
  above = (λ (e : Open ≡ Above). absurd (cc), λ positive. absurd (omega (arith, ints)));
  below = (λ (e : Open ≡ Below). absurd (cc), λ negative. absurd (omega (arith, ints)));
  equal = (λ (e : Open ≡ Equal). absurd (cc), λ zeros. absurd (other zeros.0 zeros.1));
  never_close = λ (e : Open ≡ Close). cc;
}

signed_as : (low high : ℤ) (v w : Verdict) → v ≡ w → IsSigned low high w → IsSigned low high v
signed_as low high v w e h = subst (IsSigned low high) (sym e) h

signed : (low high : ℤ) → low ≤ℤ high → IsSigned low high (verdict (two_sums low high))
unfolding two_sums
signed (pos zero) (pos zero) h = signed_equal (pos 0) (pos 0) refl refl
signed (pos zero) (pos (suc n)) h = signed_as _ _ (verdict (two_sums (pos 0) (pos (suc n)))) Open (grind (arith, nat_tests)) (signed_open (pos 0) (pos (suc n)) (omega (arith, ints)) (omega (arith, ints)) (λ p q. absurd (omega (arith, ints, q))))
signed (pos (suc m)) (pos zero) h = absurd (omega (arith, ints))
signed (pos (suc m)) (pos (suc n)) h = signed_as _ _ (verdict (two_sums (pos (suc m)) (pos (suc n)))) Above (grind (arith, nat_tests)) (signed_above (pos (suc m)) (pos (suc n)) h (omega (arith, ints)))
signed (pos m) (negsuc n) h = absurd (omega (arith, ints))
signed (negsuc m) (pos zero) h = signed_open (negsuc m) (pos 0) (omega (arith, ints)) (omega (arith, ints)) (λ p q. absurd (omega (arith, ints, p)))
signed (negsuc m) (pos (suc n)) h = signed_as _ _ (verdict (two_sums (negsuc m) (pos (suc n)))) Open (grind (arith, nat_tests)) (signed_open (negsuc m) (pos (suc n)) (omega (arith, ints)) (omega (arith, ints)) (λ p q. absurd (omega (arith, ints, p))))
signed (negsuc m) (negsuc n) h = signed_below (negsuc m) (negsuc n) h (omega (arith, ints))

-- four sums of which two and two are the same
same_totals : (t : Totals) → t.least_lo ≡ t.least_hi → t.most_lo ≡ t.most_hi → verdict (two_sums t.least_lo t.most_hi) ≡ verdict t
unfolding two_sums
same_totals t e f =
    ap (λ z. verdict (record { least_lo = t.least_lo; least_hi = z; most_lo = t.most_hi; most_hi = t.most_hi })) e
    ∙ ap (λ z. verdict (record { least_lo = t.least_lo; least_hi = t.least_hi; most_lo = z; most_hi = t.most_hi })) (sym f)

both_ways : {P Q R : Type 0} → P ↔ Q → Q ↔ R → P ↔ R
both_ways f g = (λ p. g.0 (f.0 p), λ r. f.1 (g.1 r))

pub exact_verdict : (m : MeasureName) (u a b : ℕ) (topics : List Topic) (ends : List Ends) → 0 < u → a ≢ b → AreExactEnds m u topics a b ends → IsExactVerdict m topics a b (verdict (totals_of ends))
exact_verdict m u a b topics ends unit apart h =
    let low = (totals_of ends).least_lo in
    let high = (totals_of ends).most_hi in
    let same = same_totals (totals_of ends) (same_all (λ e. e.least_lo) (λ e. e.least_hi) ends h.least) (same_all (λ e. e.most_lo) (λ e. e.most_hi) ends h.most) in
    let s : IsSigned low high (verdict (totals_of ends)) = signed_as low high _ _ (sym same) (signed low high (sums_in_order m u a b topics ends h.extremes)) in
    record {
      above = both_ways s.above (above_exactly m u a b topics ends unit apart h);
      below = both_ways s.below (below_exactly m u a b topics ends unit apart h);
      equal = both_ways s.equal (equal_exactly m u a b topics ends unit apart h);
      never_close = s.never_close;
    }
