-- The swapped runs: what is said of the least difference of (b, a) says the same of the greatest of (a, b).
use Rattle.std.proofs.Common.{◌≡◌, ℕ, Bool, List, [], length, ℤ, zero, suc, pos, negsuc, neg_ℤ, ◌≤ℤ◌, arith, refl}
use Rattle.std.proofs.lemmas.Int.{ints}
use borrow.Author.Differences.{up, down}
use Rattle.desk_model.specs.Fraction.{Fraction, IsAtMost, IsAtLeast}
use Rattle.desk_model.specs.Score.{score}
use Rattle.desk_model.specs.Extremes.{IsGreatest, IsSmallest, InEvery, InSome, Ends, AreExtremes}
use Rattle.desk_model.proofs.Fractions.{at_most_out, at_most_in, at_least_out, at_least_in}
use Rattle.measure_laws.proofs.LeastEnds.{least_ends}
use Rattle.measure_laws.specs.Differences.{IsLeastCase}
use Rattle.desk_model.specs.declared.types.Mark.{Mark}
use Rattle.desk_model.specs.declared.types.MeasureName.{MeasureName}

-- the parts of a negated number
pub swapped_parts : (z : ℤ) → (up (neg_ℤ z) ≡ down z) × (down (neg_ℤ z) ≡ up z)
swapped_parts (pos zero) = (refl, refl)
swapped_parts (pos (suc n)) = (refl, refl)
swapped_parts (negsuc n) = (refl, refl)

pub at_most_swapped : (z : ℤ) (u : ℕ) (x y : Fraction) → IsAtMost z u x y → IsAtLeast (neg_ℤ z) u y x
at_most_swapped z u x y h =
    let parts = swapped_parts z in
    at_least_in (neg_ℤ z) u y x (rw (parts.0, parts.1) (omega (arith, at_most_out z u x y h)))

pub at_least_swapped : (z : ℤ) (u : ℕ) (x y : Fraction) → IsAtLeast z u x y → IsAtMost (neg_ℤ z) u y x
at_least_swapped z u x y h =
    let parts = swapped_parts z in
    at_most_in (neg_ℤ z) u y x (rw (parts.0, parts.1) (omega (arith, at_least_out z u x y h)))

swapped_order : (z w : ℤ) → neg_ℤ z ≤ℤ w → neg_ℤ w ≤ℤ z
swapped_order z w h = omega (arith, ints)

swapped_order_up : (z w : ℤ) → w ≤ℤ neg_ℤ z → z ≤ℤ neg_ℤ w
swapped_order_up z w h = omega (arith, ints)

pub every_swapped : (m : MeasureName) (u : ℕ) (marks : List Mark) (a b : List ℕ) (z : ℤ) → InEvery m marks b a (IsAtMost z u) → InEvery m marks a b (IsAtLeast (neg_ℤ z) u)
every_swapped m u marks a b z h truth tail_a tail_b c = at_most_swapped z u _ _ (h truth tail_b tail_a c)

every_swapped_back : (m : MeasureName) (u : ℕ) (marks : List Mark) (a b : List ℕ) (z : ℤ) → InEvery m marks a b (IsAtLeast z u) → InEvery m marks b a (IsAtMost (neg_ℤ z) u)
every_swapped_back m u marks a b z h truth tail_a tail_b c = at_least_swapped z u _ _ (h truth tail_b tail_a c)

some_swapped : (m : MeasureName) (u : ℕ) (marks : List Mark) (a b : List ℕ) (z : ℤ) → InSome m marks b a (IsAtLeast z u) → InSome m marks a b (IsAtMost (neg_ℤ z) u)
some_swapped m u marks a b z h = (h.0, h.2, h.1, h.3, at_least_swapped z u _ _ h.4)

some_swapped_back : (m : MeasureName) (u : ℕ) (marks : List Mark) (a b : List ℕ) (z : ℤ) → InSome m marks a b (IsAtMost z u) → InSome m marks b a (IsAtLeast (neg_ℤ z) u)
some_swapped_back m u marks a b z h = (h.0, h.2, h.1, h.3, at_most_swapped z u _ _ h.4)

-- the ends of the greatest difference are those of the least one of the swapped runs, negated and in each other's place
pub most_ends : (m : MeasureName) (u : ℕ) (marks : List Mark) (a b : List ℕ) (lo hi : ℤ) →
    IsGreatest (λ z. InEvery m marks b a (IsAtMost z u)) lo → IsSmallest (λ z. InSome m marks b a (IsAtLeast z u)) hi →
    IsSmallest (λ z. InEvery m marks a b (IsAtLeast z u)) (neg_ℤ lo) × IsGreatest (λ z. InSome m marks a b (IsAtMost z u)) (neg_ℤ hi)
most_ends m u marks a b lo hi low high = (
  record {
    so = every_swapped m u marks a b lo low.so;
    others = λ w h. swapped_order w lo (low.others (neg_ℤ w) (every_swapped_back m u marks a b w h));
  },
  record {
    so = some_swapped m u marks a b hi high.so;
    others = λ w h. swapped_order_up w hi (high.others (neg_ℤ w) (some_swapped_back m u marks a b w h));
  },
)

-- a least case of each order, with the floor and the ceiling of its difference, gives the four ends
pub case_extremes : (m : MeasureName) (u : ℕ) (marks : List Mark) (a b : List ℕ) (truth truth' : ℕ → Bool) (lo hi lo' hi' : ℤ) →
    IsLeastCase m marks a b truth → IsLeastCase m marks b a truth' →
    let n = length marks in
    IsGreatest (λ z. IsAtMost z u (score m n truth a []) (score m n truth b [])) lo → IsSmallest (λ z. IsAtLeast z u (score m n truth a []) (score m n truth b [])) hi →
    IsGreatest (λ z. IsAtMost z u (score m n truth' b []) (score m n truth' a [])) lo' → IsSmallest (λ z. IsAtLeast z u (score m n truth' b []) (score m n truth' a [])) hi' →
    AreExtremes m u marks a b (record { least_lo = lo; least_hi = hi; most_lo = neg_ℤ hi'; most_hi = neg_ℤ lo' })
case_extremes m u marks a b truth truth' lo hi lo' hi' case case' floor ceiling floor' ceiling' =
    let least = least_ends m u marks a b truth lo hi case floor ceiling in
    let other = least_ends m u marks b a truth' lo' hi' case' floor' ceiling' in
    let most = most_ends m u marks a b lo' hi' other.0 other.1 in
    record { least_lo = least.0; least_hi = least.1; most_hi = most.0; most_lo = most.1 }

-- the ends of the swapped runs: least and greatest change places, and the ends of each are negated and change places
abbrev pub swapped_ends : Ends → Ends
swapped_ends e = record { least_lo = neg_ℤ e.most_hi; least_hi = neg_ℤ e.most_lo; most_lo = neg_ℤ e.least_hi; most_hi = neg_ℤ e.least_lo }

pub extremes_swapped : (m : MeasureName) (u : ℕ) (marks : List Mark) (a b : List ℕ) (e : Ends) → AreExtremes m u marks a b e → AreExtremes m u marks b a (swapped_ends e)
extremes_swapped m u marks a b e h =
    let most = most_ends m u marks b a e.least_lo e.least_hi h.least_lo h.least_hi in
    record {
      least_lo = record {
        so = every_swapped_back m u marks a b e.most_hi h.most_hi.so;
        others = λ w k. swapped_order_up w e.most_hi (h.most_hi.others (neg_ℤ w) (every_swapped m u marks a b w k));
      };
      least_hi = record {
        so = some_swapped_back m u marks a b e.most_lo h.most_lo.so;
        others = λ w k. swapped_order w e.most_lo (h.most_lo.others (neg_ℤ w) (some_swapped m u marks a b w k));
      };
      most_hi = most.0;
      most_lo = most.1;
    }
