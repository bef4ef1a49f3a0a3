-- From whole numbers beside each topic's difference or score to the means of all topics.
use Rattle.std.proofs.Common.{◌≡◌, ◌≢◌, ℕ, zero, suc, ◌<◌, ◌*◌, Bool, cond, nat_eq, List, [], ◌∷◌, length, Option, Some, None, ℤ, pos, ◌+ℤ◌, ◌≤ℤ◌, ◌<ℤ◌, arith, ap, refl, sym}
use Rattle.std.specs.List.{AllZip}
use Rattle.std.proofs.lemmas.Int.{ints}
use Rattle.std.proofs.lemmas.Bool.{eq-eqb, ne_eqb}
use Rattle.desk_model.specs.Completion.{Completion}
use Rattle.desk_model.specs.Fraction.{Fraction, over, plus, total, IsAtMost, IsAtLeast}
use Rattle.desk_model.specs.Score.{score, reciprocal, first_true}
use Rattle.desk_model.specs.Order.{Topic, IsCompletion, run_score, run_scores, run_mean, IsAlwaysAbove, AreAlwaysEqual}
use Rattle.desk_model.specs.Extremes.{InEvery, InSome, InEveryScore, IsAtMostScore, IsAtLeastScore}
use Rattle.desk_model.specs.Enclosure.{AreLowEnds, AreHighEnds, AreLowBounds, AreHighBounds}
use Rattle.desk_model.specs.Verdict.{whole_sum}
use Rattle.desk_model.specs.declared.types.MeasureName.{MeasureName}
use Rattle.desk_model.specs.declared.types.MeasureName.TheVariants.{Precision, Recall, RPrecision, Reciprocal, Biased, AveragePrecision}
use Rattle.desk_model.proofs.Fractions.{AllPositive, at_most_step, at_least_step, at_most_in, at_least_in, total-den, below_from_at_most, below_from_at_least, not_below_from_at_least, not_below_from_at_most, same_from_bounds, not_positive_from_same, not_negative_from_same, mean_below, mean_below_out, mean_same, mean_same_out, at_most_mean, at_least_mean, at_most_one_mean, at_least_one_mean}

pub over-den : (n d : ℕ) → 0 < (over n d).den
over-den n zero = omega arith
over-den n (suc d) = omega arith

pub reciprocal-den : (place : Option ℕ) → 0 < (reciprocal place).den
reciprocal-den None = over-den 0 1
reciprocal-den (Some n) = over-den 1 n

-- every score has a positive denominator
pub score-den : (m : MeasureName) (n : ℕ) (truth : ℕ → Bool) (ranking : List ℕ) (tail : List Bool) → 0 < (score m n truth ranking tail).den
score-den (Precision k) n truth ranking tail = over-den _ _
score-den (Recall k) n truth ranking tail = over-den _ _
score-den RPrecision n truth ranking tail = over-den _ _
score-den Reciprocal n truth ranking tail = reciprocal-den (first_true truth ranking)
score-den (Biased a b) n truth ranking tail = over-den _ _
score-den AveragePrecision n truth ranking tail = over-den _ _

run_scores-den : (m : MeasureName) (r : ℕ) (topics : List Topic) (cs : List Completion) → AllPositive (run_scores m r topics cs)
run_scores-den m r [] cs = tt
run_scores-den m r (topic ∷ topics) [] = tt
run_scores-den m r (topic ∷ topics) (c ∷ cs) = (score-den m _ _ _ _, run_scores-den m r topics cs)

-- the sum of a run's scores has a positive denominator
pub total_scores-den : (m : MeasureName) (r : ℕ) (topics : List Topic) (cs : List Completion) → 0 < (total (run_scores m r topics cs)).den
total_scores-den m r topics cs = total-den (run_scores m r topics cs) (run_scores-den m r topics cs)

-- a run has one score for each topic
pub length-run_scores : (m : MeasureName) (r : ℕ) (topics : List Topic) (cs : List Completion) → IsCompletion topics cs → length (run_scores m r topics cs) ≡ length topics
length-run_scores m r [] [] h = refl
length-run_scores m r [] (c ∷ cs) h = absurd h
length-run_scores m r (topic ∷ topics) [] h = absurd h
length-run_scores m r (topic ∷ topics) (c ∷ cs) h = ap suc (length-run_scores m r topics cs h.1)

-- a relation of a whole number and two fractions that holds of their sums where it holds of the parts
pub record Adds (fact : ℤ → Fraction → Fraction → Type 0) : Type 0 where
  pub none : fact (pos 0) (total []) (total [])
  pub step : (z w : ℤ) (x y v t : Fraction) → fact z x y → fact w v t → fact (z +ℤ w) (plus x v) (plus y t)

pub at_most_adds : (u : ℕ) → Adds (λ z. IsAtMost z u)
at_most_adds u = record { none = at_most_in (pos 0) u (total []) (total []) (omega arith); step = λ z w. at_most_step z w u }

pub at_least_adds : (u : ℕ) → Adds (λ z. IsAtLeast z u)
at_least_adds u = record { none = at_least_in (pos 0) u (total []) (total []) (omega arith); step = λ z w. at_least_step z w u }

-- such a relation of each topic in every completion
pub total_in_every : (fact : ℤ → Fraction → Fraction → Type 0) → Adds fact → (m : MeasureName) (a b : ℕ) (zs : List ℤ) (topics : List Topic) (cs : List Completion) →
    AllZip (λ z topic. InEvery m topic.marks (topic.ranking a) (topic.ranking b) (fact z)) zs topics → IsCompletion topics cs →
    fact (whole_sum zs) (total (run_scores m a topics cs)) (total (run_scores m b topics cs))
total_in_every fact adds m a b [] [] [] h c = adds.none
total_in_every fact adds m a b [] [] (x ∷ xs) h c = absurd c
total_in_every fact adds m a b [] (t ∷ ts) cs h c = absurd h
total_in_every fact adds m a b (z ∷ zs) [] cs h c = absurd h
total_in_every fact adds m a b (z ∷ zs) (t ∷ ts) [] h c = absurd c
total_in_every fact adds m a b (z ∷ zs) (t ∷ ts) (x ∷ xs) h c =
    adds.step z (whole_sum zs) (run_score m a t x) (run_score m b t x) (total (run_scores m a ts xs)) (total (run_scores m b ts xs))
    (h.0 x.truth (x.tail a) (x.tail b) c.0) (total_in_every fact adds m a b zs ts xs h.1 c.1)

-- such a relation of each topic's scores of one run, beside zero
pub one_total_in_every : (fact : ℤ → Fraction → Fraction → Type 0) → Adds fact → (m : MeasureName) (r : ℕ) (zs : List ℤ) (topics : List Topic) (cs : List Completion) →
    AllZip (λ z topic. InEveryScore m topic.marks (topic.ranking r) (λ x. fact z x (over 0 1))) zs topics → IsCompletion topics cs →
    fact (whole_sum zs) (total (run_scores m r topics cs)) (over 0 1)
one_total_in_every fact adds m r [] [] [] h c = adds.none
one_total_in_every fact adds m r [] [] (x ∷ xs) h c = absurd c
one_total_in_every fact adds m r [] (t ∷ ts) cs h c = absurd h
one_total_in_every fact adds m r (z ∷ zs) [] cs h c = absurd h
one_total_in_every fact adds m r (z ∷ zs) (t ∷ ts) [] h c = absurd c
one_total_in_every fact adds m r (z ∷ zs) (t ∷ ts) (x ∷ xs) h c =
    adds.step z (whole_sum zs) (run_score m r t x) (over 0 1) (total (run_scores m r ts xs)) (over 0 1)
    (h.0 x.truth (x.tail r) c.0) (one_total_in_every fact adds m r zs ts xs h.1 c.1)

-- one tail for a and another for b
abbrev tails : ℕ → List Bool → List Bool → ℕ → List Bool
tails a tail_a tail_b r = cond (nat_eq r a) tail_a tail_b

-- such a relation of each topic in some completion holds of the sums in one completion of the judgements
pub total_in_some : (fact : ℤ → Fraction → Fraction → Type 0) → Adds fact → (m : MeasureName) (a b : ℕ) → a ≢ b → (zs : List ℤ) (topics : List Topic) →
    AllZip (λ z topic. InSome m topic.marks (topic.ranking a) (topic.ranking b) (fact z)) zs topics →
    (cs : List Completion) × IsCompletion topics cs × fact (whole_sum zs) (total (run_scores m a topics cs)) (total (run_scores m b topics cs))
total_in_some fact adds m a b apart [] [] h = ([], tt, adds.none)
total_in_some fact adds m a b apart [] (t ∷ ts) h = absurd h
total_in_some fact adds m a b apart (z ∷ zs) [] h = absurd h
total_in_some fact adds m a b apart (z ∷ zs) (t ∷ ts) h =
    let rest = total_in_some fact adds m a b apart zs ts h.1 in
    let x : Completion = record { truth = h.0.0; tail = tails a h.0.1 h.0.2 } in
    let first : run_score m a t x ≡ score m (length t.marks) h.0.0 (t.ranking a) h.0.1 = ap (score m (length t.marks) h.0.0 (t.ranking a)) (ap (λ v. cond v h.0.1 h.0.2) (eq-eqb a a refl)) in
    let second : run_score m b t x ≡ score m (length t.marks) h.0.0 (t.ranking b) h.0.2 = ap (score m (length t.marks) h.0.0 (t.ranking b)) (ap (λ v. cond v h.0.1 h.0.2) (ne_eqb b a (λ e. apart (sym e)))) in
    let here : fact z (run_score m a t x) (run_score m b t x) = rw (first, second) h.0.4 in
    (x ∷ rest.0, (h.0.3, rest.1), adds.step z (whole_sum zs) (run_score m a t x) (run_score m b t x) (total (run_scores m a ts rest.0)) (total (run_scores m b ts rest.0)) here rest.2)

-- a sum that is not zero is one of some topics
pub some_topic : (fact : ℤ → Topic → Type 0) (zs : List ℤ) (topics : List Topic) → AllZip fact zs topics → whole_sum zs ≢ pos 0 → 0 < length topics
some_topic fact [] topics h other = absurd (other refl)
some_topic fact (z ∷ zs) [] h other = absurd h
some_topic fact (z ∷ zs) (t ∷ ts) h other = omega arith

positive_other : (z : ℤ) → pos 0 <ℤ z → z ≢ pos 0
positive_other z h e = omega (arith, ints, h, e)

negative_other : (z : ℤ) → z <ℤ pos 0 → z ≢ pos 0
negative_other z h e = omega (arith, ints, h, e)

-- a positive sum of lower ends: a is always above b
pub always_above : (m : MeasureName) (u a b : ℕ) (topics : List Topic) (lows : List ℤ) → AreLowEnds m u topics a b lows → pos 0 <ℤ whole_sum lows → IsAlwaysAbove m topics a b
always_above m u a b topics lows h positive = record {
  in_every = λ cs c.
      let long_a = length-run_scores m a topics cs c in
      let long_b = length-run_scores m b topics cs c in
      mean_below (run_scores m b topics cs) (run_scores m a topics cs) (omega (arith, long_a, long_b)) (omega (arith, long_b, some_topic _ lows topics h (positive_other (whole_sum lows) positive)))
      (below_from_at_most (whole_sum lows) u _ _ positive (total_in_every (λ z. IsAtMost z u) (at_most_adds u) m a b lows topics cs h c) (total_scores-den m a topics cs) (total_scores-den m b topics cs));
}

-- a negative sum of upper ends: b is always above a
pub always_below : (m : MeasureName) (u a b : ℕ) (topics : List Topic) (highs : List ℤ) → AreHighEnds m u topics a b highs → whole_sum highs <ℤ pos 0 → IsAlwaysAbove m topics b a
always_below m u a b topics highs h negative = record {
  in_every = λ cs c.
      let long_a = length-run_scores m a topics cs c in
      let long_b = length-run_scores m b topics cs c in
      mean_below (run_scores m a topics cs) (run_scores m b topics cs) (omega (arith, long_a, long_b)) (omega (arith, long_a, some_topic _ highs topics h (negative_other (whole_sum highs) negative)))
      (below_from_at_least (whole_sum highs) u _ _ negative (total_in_every (λ z. IsAtLeast z u) (at_least_adds u) m a b highs topics cs h c) (total_scores-den m a topics cs) (total_scores-den m b topics cs));
}

-- lower ends with a sum from 0 and upper ends with a sum to 0: the two are always equal
pub always_equal : (m : MeasureName) (u a b : ℕ) (topics : List Topic) (lows highs : List ℤ) → 0 < u → AreLowEnds m u topics a b lows → AreHighEnds m u topics a b highs →
    pos 0 ≤ℤ whole_sum lows → whole_sum highs ≤ℤ pos 0 → AreAlwaysEqual m topics a b
always_equal m u a b topics lows highs unit h k low high = record {
  in_every = λ cs c.
      let long_a = length-run_scores m a topics cs c in
      let long_b = length-run_scores m b topics cs c in
      mean_same (run_scores m a topics cs) (run_scores m b topics cs) (omega (arith, long_a, long_b))
      (same_from_bounds (whole_sum lows) (whole_sum highs) u _ _ unit low high (total_in_every (λ z. IsAtMost z u) (at_most_adds u) m a b lows topics cs h c) (total_in_every (λ z. IsAtLeast z u) (at_least_adds u) m a b highs topics cs k c));
}

-- the sums beside the difference of the means
pub difference_low : (m : MeasureName) (u a b : ℕ) (topics : List Topic) (lows : List ℤ) → AreLowEnds m u topics a b lows → (cs : List Completion) → IsCompletion topics cs →
    IsAtMost (whole_sum lows) (u * length topics) (run_mean m a topics cs) (run_mean m b topics cs)
difference_low m u a b topics lows h cs c =
    at_most_mean (whole_sum lows) u (length topics) (run_scores m a topics cs) (run_scores m b topics cs) (length-run_scores m a topics cs c) (length-run_scores m b topics cs c)
    (total_in_every (λ z. IsAtMost z u) (at_most_adds u) m a b lows topics cs h c)

pub difference_high : (m : MeasureName) (u a b : ℕ) (topics : List Topic) (highs : List ℤ) → AreHighEnds m u topics a b highs → (cs : List Completion) → IsCompletion topics cs →
    IsAtLeast (whole_sum highs) (u * length topics) (run_mean m a topics cs) (run_mean m b topics cs)
difference_high m u a b topics highs h cs c =
    at_least_mean (whole_sum highs) u (length topics) (run_scores m a topics cs) (run_scores m b topics cs) (length-run_scores m a topics cs c) (length-run_scores m b topics cs c)
    (total_in_every (λ z. IsAtLeast z u) (at_least_adds u) m a b highs topics cs h c)

-- the sums beside the mean of one run
pub mean_low : (m : MeasureName) (u r : ℕ) (topics : List Topic) (lows : List ℤ) → AreLowBounds m u topics r lows → (cs : List Completion) → IsCompletion topics cs →
    IsAtMostScore (whole_sum lows) (u * length topics) (run_mean m r topics cs)
mean_low m u r topics lows h cs c =
    at_most_one_mean (whole_sum lows) u (length topics) (run_scores m r topics cs) (length-run_scores m r topics cs c) (one_total_in_every (λ z. IsAtMost z u) (at_most_adds u) m r lows topics cs h c)

pub mean_high : (m : MeasureName) (u r : ℕ) (topics : List Topic) (highs : List ℤ) → AreHighBounds m u topics r highs → (cs : List Completion) → IsCompletion topics cs →
    IsAtLeastScore (whole_sum highs) (u * length topics) (run_mean m r topics cs)
mean_high m u r topics highs h cs c =
    at_least_one_mean (whole_sum highs) u (length topics) (run_scores m r topics cs) (length-run_scores m r topics cs c) (one_total_in_every (λ z. IsAtLeast z u) (at_least_adds u) m r highs topics cs h c)

-- upper ends that are attained, with a sum that is not positive: a is not always above b
pub not_always_above : (m : MeasureName) (u a b : ℕ) → a ≢ b → 0 < u → (topics : List Topic) (highs : List ℤ) →
    AllZip (λ z topic. InSome m topic.marks (topic.ranking a) (topic.ranking b) (IsAtLeast z u)) highs topics → whole_sum highs ≤ℤ pos 0 → IsAlwaysAbove m topics a b → ⊥
not_always_above m u a b apart unit topics highs h low above =
    let some = total_in_some (λ z. IsAtLeast z u) (at_least_adds u) m a b apart highs topics h in
    let long_a = length-run_scores m a topics some.0 some.1 in
    let long_b = length-run_scores m b topics some.0 some.1 in
    not_below_from_at_least (whole_sum highs) u _ _ low unit some.2
    (mean_below_out (run_scores m b topics some.0) (run_scores m a topics some.0) (omega (arith, long_a, long_b)) (above.in_every some.0 some.1))

-- lower ends that are attained, with a sum that is not negative: b is not always above a
pub not_always_below : (m : MeasureName) (u a b : ℕ) → a ≢ b → 0 < u → (topics : List Topic) (lows : List ℤ) →
    AllZip (λ z topic. InSome m topic.marks (topic.ranking a) (topic.ranking b) (IsAtMost z u)) lows topics → pos 0 ≤ℤ whole_sum lows → IsAlwaysAbove m topics b a → ⊥
not_always_below m u a b apart unit topics lows h high below =
    let some = total_in_some (λ z. IsAtMost z u) (at_most_adds u) m a b apart lows topics h in
    let long_a = length-run_scores m a topics some.0 some.1 in
    let long_b = length-run_scores m b topics some.0 some.1 in
    not_below_from_at_most (whole_sum lows) u _ _ high unit some.2
    (mean_below_out (run_scores m a topics some.0) (run_scores m b topics some.0) (omega (arith, long_a, long_b)) (below.in_every some.0 some.1))

-- where two runs are always equal, an attained upper end is not negative and an attained lower end is not positive
pub equal_not_negative : (m : MeasureName) (u a b : ℕ) → a ≢ b → (topics : List Topic) (highs : List ℤ) →
    AllZip (λ z topic. InSome m topic.marks (topic.ranking a) (topic.ranking b) (IsAtLeast z u)) highs topics → AreAlwaysEqual m topics a b → 0 < length topics → pos 0 ≤ℤ whole_sum highs
equal_not_negative m u a b apart topics highs h equal topic =
    let some = total_in_some (λ z. IsAtLeast z u) (at_least_adds u) m a b apart highs topics h in
    let long_a = length-run_scores m a topics some.0 some.1 in
    let long_b = length-run_scores m b topics some.0 some.1 in
    not_negative_from_same (whole_sum highs) u _ _ (total_scores-den m a topics some.0) (total_scores-den m b topics some.0)
    (mean_same_out (run_scores m a topics some.0) (run_scores m b topics some.0) (omega (arith, long_a, long_b)) (omega (arith, long_a, topic)) (equal.in_every some.0 some.1)) some.2

pub equal_not_positive : (m : MeasureName) (u a b : ℕ) → a ≢ b → (topics : List Topic) (lows : List ℤ) →
    AllZip (λ z topic. InSome m topic.marks (topic.ranking a) (topic.ranking b) (IsAtMost z u)) lows topics → AreAlwaysEqual m topics a b → 0 < length topics → whole_sum lows ≤ℤ pos 0
equal_not_positive m u a b apart topics lows h equal topic =
    let some = total_in_some (λ z. IsAtMost z u) (at_most_adds u) m a b apart lows topics h in
    let long_a = length-run_scores m a topics some.0 some.1 in
    let long_b = length-run_scores m b topics some.0 some.1 in
    not_positive_from_same (whole_sum lows) u _ _ (total_scores-den m a topics some.0) (total_scores-den m b topics some.0)
    (mean_same_out (run_scores m a topics some.0) (run_scores m b topics some.0) (omega (arith, long_a, long_b)) (omega (arith, long_a, topic)) (equal.in_every some.0 some.1)) some.2
