-- The ends that the code makes are the stated sums.
use Rattle.std.proofs.Common.{◌≡◌, ℕ, ◌+◌, ◌^◌, min, true, false, Some, List, map, length, ℤ, pos, neg_ℤ, ◌-ℤ◌, ◌+ℤ◌, ◌<ℤ◌, ◌≤ℤ◌, arith, ap, ◌∙◌}
use Rattle.std.proofs.lemmas.Int.{ints}
use Rattle.desk_model.specs.Completion.{with_picked}
use Rattle.desk_model.specs.Score.{gained}
use Rattle.measure_laws.specs.Powers.{low_weight, high_weight, high_power}
use Rattle.measure_laws.specs.Shares.{biased_least_lo, biased_least_hi}
use Rattle.desk_model.specs.declared.types.Mark.{Mark}
use Rattle.topic_counts.specs.declared.span.Span.{Span}
use Rattle.topic_counts.proofs.Spans.{span, span_same}
use Rattle.measure_core.proofs.Cells.{cell}
use Rattle.rbp.specs.Numbers.{biased_least, biased_cell, biased_bounds}

pub joined : (x y x' y' : ℤ) → x ≡ x' → y ≡ y' → x -ℤ y ≡ x' -ℤ y'
joined x y x' y' e f = ap (λ z. z -ℤ y) e ∙ ap (λ z. x' -ℤ z) f

pub cell_is : (top bottom : ℕ) (marks : List Mark) (a b : List ℕ) (least other most : Span) →
    least.lo ≡ biased_least_lo top bottom marks a b → least.hi ≡ biased_least_hi top bottom marks a b → other.lo ≡ biased_least_lo top bottom marks b a → other.hi ≡ biased_least_hi top bottom marks b a →
    most.lo ≡ neg_ℤ other.hi → most.hi ≡ neg_ℤ other.lo → cell least most ≡ biased_cell top bottom marks a b
unfolding biased_cell
cell_is top bottom marks a b least other most el eh fl fh gl gh =
    let first : least ≡ biased_least top bottom marks a b = span_same least.lo _ least.hi _ el eh in
    let second : most ≡ span (neg_ℤ (biased_least_hi top bottom marks b a)) (neg_ℤ (biased_least_lo top bottom marks b a)) = span_same most.lo _ most.hi _ (gl ∙ ap (λ z. neg_ℤ z) fh) (gh ∙ ap (λ z. neg_ℤ z) fl) in
    ap (λ (s : Span). cell s most) first ∙ ap (cell (biased_least top bottom marks a b)) second

pub below_one : (x y t : ℤ) → t ≡ x +ℤ y → t <ℤ pos (10 ^ 18) → (w h : ℕ) → x ≡ pos w → y ≡ pos h → t ≡ pos (min (10 ^ 18) (w + h))
below_one x y t e k w h ex ey = omega (arith, ints)

pub above_one : (x y t : ℤ) → t ≡ x +ℤ y → pos (10 ^ 18) ≤ℤ t → (w h : ℕ) → x ≡ pos w → y ≡ pos h → pos (10 ^ 18) ≡ pos (min (10 ^ 18) (w + h))
above_one x y t e k w h ex ey = omega (arith, ints)

-- the bounds, where the sum of the upper weights is below one or not
pub bounds_are : (top bottom : ℕ) (marks : List Mark) (a docs : List ℕ) (ranks : ℕ) (low high tail lo hi : ℤ) → docs ≡ a → ranks ≡ length a →
    low ≡ pos (gained (λ rank. low_weight top bottom (Some rank)) 1 (map (with_picked marks (λ _. false)) docs)) →
    high ≡ pos (gained (λ rank. high_weight top bottom (Some rank)) 1 (map (with_picked marks (λ _. true)) docs)) → tail ≡ pos (high_power top bottom ranks) →
    lo ≡ low → ((w h : ℕ) → high ≡ pos w → tail ≡ pos h → hi ≡ pos (min (10 ^ 18) (w + h))) → span lo hi ≡ biased_bounds top bottom marks a
unfolding biased_bounds
bounds_are top bottom marks a docs ranks low high tail lo hi ed er el eh et elo ehi =
    let here : high ≡ pos (gained (λ rank. high_weight top bottom (Some rank)) 1 (map (with_picked marks (λ _. true)) a)) = eh ∙ ap (λ xs. pos (gained (λ rank. high_weight top bottom (Some rank)) 1 (map (with_picked marks (λ _. true)) xs))) ed in
    let rest : tail ≡ pos (high_power top bottom (length a)) = et ∙ ap (λ n. pos (high_power top bottom n)) er in
    span_same lo _ hi _ (elo ∙ el ∙ ap (λ xs. pos (gained (λ rank. low_weight top bottom (Some rank)) 1 (map (with_picked marks (λ _. false)) xs))) ed) (ehi _ _ here rest)
