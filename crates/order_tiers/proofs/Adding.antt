-- The least differences of two pairs, one after the other.
use Rattle.std.proofs.Common.{◌≡◌, ℕ, ◌+◌, ◌*◌, ◌<◌, ◌≤◌, List, [], ◌∷◌, length, ℤ, ◌+ℤ◌, ◌≤ℤ◌, arith, ap}
use Rattle.std.proofs.Math.Nat.{mul-le-mul_left, le_of_mul-le-mul_right}
use Rattle.std.proofs.lemmas.Int.{ints}
use borrow.Author.Differences.{up, down, sum_is_lem}
use Rattle.desk_model.specs.Extremes.{Ends, AreExtremes}
use Rattle.desk_model.specs.Fraction.{Fraction, IsAtMost}
use Rattle.desk_model.specs.Order.{Topic}
use Rattle.desk_model.specs.Score.{score}
use Rattle.desk_model.specs.declared.types.Mark.{Mark}
use Rattle.desk_model.specs.declared.types.MeasureName.{MeasureName}
use Rattle.desk_model.specs.declared.types.MeasureName.TheVariants.{Precision, Recall, RPrecision, Reciprocal, Biased, AveragePrecision}
use Rattle.desk_model.proofs.Fractions.{at_most_out, at_most_in}
use Rattle.desk_model.proofs.Topics.{score-den}
use Rattle.measure_laws.specs.Measures.{IsExactMeasure, unit_of}
use Rattle.measure_core.specs.Made.{HasEnds}
use Rattle.pair_table.specs.Numbers.{AreEndsOf}
use Rattle.order_tiers.proofs.Leads.{least_sum}

chain_step : (p n P N u x xd y yd v vd : ℕ) → 0 < yd →
    p * (xd * yd) + u * (y * xd) ≤ u * (x * yd) + n * (xd * yd) → P * (yd * vd) + u * (v * yd) ≤ u * (y * vd) + N * (yd * vd) →
    (p + P) * (xd * vd) + u * (v * xd) ≤ u * (x * vd) + (n + N) * (xd * vd)
chain_step p n P N u x xd y yd v vd positive h k =
    let joined : ((p + P) * (xd * vd) + u * (v * xd)) * yd ≤ (u * (x * vd) + (n + N) * (xd * vd)) * yd = omega (arith, mul-le-mul_left vd h, mul-le-mul_left xd k) in
    le_of_mul-le-mul_right joined positive

at_most_chain : (z w : ℤ) (u : ℕ) (x y v : Fraction) → 0 < y.den → IsAtMost z u x y → IsAtMost w u y v → IsAtMost (z +ℤ w) u x v
at_most_chain z w u x y v positive h k =
    let whole = x.den * v.den in
    let sums : (up (z +ℤ w) + (down z + down w)) * whole ≡ (down (z +ℤ w) + (up z + up w)) * whole = ap (λ s. s * whole) (omega (arith, sum_is_lem z w)) in
    let step = chain_step (up z) (down z) (up w) (down w) u x.num x.den y.num y.den v.num v.den positive (at_most_out z u x y h) (at_most_out w u y v k) in
    at_most_in (z +ℤ w) u x v (omega (arith, sums, step))

least_adds : (measure : MeasureName) (unit : ℕ) (marks : List Mark) (a b c : List ℕ) (ab bc ac : Ends) → AreExtremes measure unit marks a b ab → AreExtremes measure unit marks b c bc → AreExtremes measure unit marks a c ac →
    (ab.least_lo +ℤ bc.least_lo) ≤ℤ ac.least_lo
least_adds measure unit marks a b c ab bc ac h k l =
    l.least_lo.others (ab.least_lo +ℤ bc.least_lo) (λ truth tail_a tail_c completes.
    at_most_chain ab.least_lo bc.least_lo unit (score measure (length marks) truth a tail_a) (score measure (length marks) truth b []) (score measure (length marks) truth c tail_c)
    (score-den measure (length marks) truth b []) (h.least_lo.so truth tail_a [] completes) (k.least_lo.so truth [] tail_c completes))

exact_ends : (name : MeasureName) → IsExactMeasure name → (marks : List Mark) (a b : List ℕ) (e : Ends) → HasEnds name marks a b e → AreExtremes name (unit_of name) marks a b e
exact_ends (Precision k) exact marks a b e h = h
exact_ends (Recall k) exact marks a b e h = h
exact_ends RPrecision exact marks a b e h = h
exact_ends Reciprocal exact marks a b e h = h
exact_ends (Biased top bottom) exact marks a b e h = absurd exact
exact_ends AveragePrecision exact marks a b e h = absurd exact

four_add : (z w v z' w' v' : ℤ) → (z +ℤ w) ≤ℤ v → (z' +ℤ w') ≤ℤ v' → ((z +ℤ z') +ℤ (w +ℤ w')) ≤ℤ (v +ℤ v')
four_add z w v z' w' v' h k = omega (arith, ints)

module _ (name : MeasureName) (exact : IsExactMeasure name) (a b c : ℕ) where
  pub sums_add : (topics : List Topic) (es fs gs : List Ends) → AreEndsOf name topics a b es → AreEndsOf name topics b c fs → AreEndsOf name topics a c gs → (least_sum es +ℤ least_sum fs) ≤ℤ least_sum gs
  sums_add [] [] [] [] h k l = omega (arith, ints)
  sums_add [] [] [] (g ∷ gs) h k l = absurd l
  sums_add [] [] (f ∷ fs) gs h k l = absurd k
  sums_add [] (e ∷ es) fs gs h k l = absurd h
  sums_add (t ∷ ts) [] fs gs h k l = absurd h
  sums_add (t ∷ ts) (e ∷ es) [] gs h k l = absurd k
  sums_add (t ∷ ts) (e ∷ es) (f ∷ fs) [] h k l = absurd l
  sums_add (t ∷ ts) (e ∷ es) (f ∷ fs) (g ∷ gs) h k l =
      four_add e.least_lo f.least_lo g.least_lo (least_sum es) (least_sum fs) (least_sum gs)
      (least_adds name (unit_of name) t.marks (t.ranking a) (t.ranking b) (t.ranking c) e f g
      (exact_ends name exact t.marks (t.ranking a) (t.ranking b) e h.0) (exact_ends name exact t.marks (t.ranking b) (t.ranking c) f k.0) (exact_ends name exact t.marks (t.ranking a) (t.ranking c) g l.0))
      (sums_add ts es fs gs h.1 k.1 l.1)
