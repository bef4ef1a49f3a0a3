-- The ends of average precision enclose S times the difference of two runs, and close in under more judging.
use borrow.Author.Differences.{up, down}
use Rattle.std.proofs.Common.{◌≡◌, ℕ, ◌+◌, ◌*◌, ◌^◌, ◌<◌, ◌≤◌, nat_eq, Bool, true, false, List, length, map, ap, refl, sym, subst, ◌∙◌, ℤ, pos, neg_ℤ, ◌-ℤ◌, ◌≤ℤ◌, arith}
use Rattle.std.specs.Prelude.{if◌then◌else◌, int_lt}
use Rattle.std.specs.Cmp.Lexicographic.{pointwise, same_text}
use Rattle.std.proofs.Math.Nat.{mul-le-mul_right}
use Rattle.std.proofs.lemmas.Int.{ints}
use Rattle.desk_model.specs.Completion.{Completes, with_picked}
use Rattle.desk_model.specs.Fraction.{Fraction, over, IsAtMost, IsAtLeast}
use Rattle.desk_model.specs.Extremes.{Ends, IsAtMostScore, IsAtLeastScore}
use Rattle.desk_model.specs.Ranking.{IsRanking}
use Rattle.desk_model.specs.declared.types.Mark.{Mark}
use Rattle.desk_model.proofs.Completions.{with_picked-Completes}
use Rattle.desk_model.proofs.Fractions.{at_most_out, at_most_in, at_least_out, at_least_in}
use Rattle.small_lemmas.proofs.Numbers.{neg_twice}
use Rattle.measure_laws.specs.Refinement.{AreRefinedBy}
use Rattle.measure_laws.specs.Shares.{IsModest}
use Rattle.measure_laws.specs.Parts.{average_precision}
use Rattle.measure_laws.specs.Parts.{low_average, high_average}
use Rattle.measure_laws.specs.Candidates.{high_truth, low_truth, high_choice, low_choice, average_bound_lo, average_bound_hi}
use Rattle.measure_laws.specs.AverageEnds.{is_same_list, average_upper_end, high_case, low_case, average_truth, average_least_lo, average_least_hi, average_ends}
use Rattle.measure_laws.proofs.AverageBounds.{average_at_most, average_at_least, bound_lo_least, bound_hi_greatest, bound_lo_rises, bound_hi_falls, low_average-most, high_average-most, bound_lo-most, bound_hi-most}

-- ---- a difference of two numbers beside the difference of two scores
difference_low : (l h u a b c d : ℕ) → l * (b * 1) + u * (0 * b) ≤ u * (a * 1) + 0 * (b * 1) → u * (c * 1) + 0 * (d * 1) ≤ h * (d * 1) + u * (0 * d) → l * (b * d) + u * (c * b) ≤ u * (a * d) + h * (b * d)
difference_low l h u a b c d p q = omega (arith, mul-le-mul_right d p, mul-le-mul_right b q)

difference_high : (l h u a b c d : ℕ) → u * (a * 1) + 0 * (b * 1) ≤ h * (b * 1) + u * (0 * b) → l * (d * 1) + u * (0 * d) ≤ u * (c * 1) + 0 * (d * 1) → u * (a * d) + l * (b * d) ≤ h * (b * d) + u * (c * b)
difference_high l h u a b c d p q = omega (arith, mul-le-mul_right d p, mul-le-mul_right b q)

parts_over : (p n l h w : ℕ) → p + h ≡ n + l → p * w + h * w ≡ n * w + l * w
parts_over p n l h w e = let scaled : (p + h) * w ≡ (n + l) * w = ap (λ s. s * w) e in omega (arith, scaled)

-- what is at most one score, less what is at least another, is at most their difference
pub at_most_difference : (l h u : ℕ) (x y : Fraction) → IsAtMostScore (pos l) u x → IsAtLeastScore (pos h) u y → IsAtMost (pos l -ℤ pos h) u x y
at_most_difference l h u x y p q =
    let z = pos l -ℤ pos h in
    let parts : up z + h ≡ down z + l = omega (arith, ints) in
    let scaled = parts_over (up z) (down z) l h (x.den * y.den) parts in
    at_most_in z u x y (omega (arith, scaled, difference_low l h u x.num x.den y.num y.den (at_most_out (pos l) u x (over 0 1) p) (at_least_out (pos h) u y (over 0 1) q)))

pub at_least_difference : (h l u : ℕ) (x y : Fraction) → IsAtLeastScore (pos h) u x → IsAtMostScore (pos l) u y → IsAtLeast (pos h -ℤ pos l) u x y
at_least_difference h l u x y p q =
    let z = pos h -ℤ pos l in
    let parts : up z + l ≡ down z + h = omega (arith, ints) in
    let scaled = parts_over (up z) (down z) h l (x.den * y.den) parts in
    at_least_in z u x y (omega (arith, scaled, difference_high l h u x.num x.den y.num y.den (at_least_out (pos h) u x (over 0 1) p) (at_most_out (pos l) u y (over 0 1) q)))

none_low : (u : ℕ) (x : Fraction) → IsAtMost (pos 0) u x x
none_low u x = at_most_in (pos 0) u x x (omega arith)

none_high : (u : ℕ) (x : Fraction) → IsAtLeast (pos 0) u x x
none_high u x = at_least_in (pos 0) u x x (omega arith)

-- ---- law 1: the lower end, in every completion
pub low_encloses : (marks : List Mark) (a b : List ℕ) (truth : ℕ → Bool) → IsRanking (length marks) a → IsRanking (length marks) b → Completes marks truth →
    IsAtMost (average_least_lo marks a b) (10 ^ 18) (average_precision (length marks) truth a) (average_precision (length marks) truth b)
low_encloses marks a b truth ra rb c = by (is_same_list a b) refl
  where
    by : (s : Bool) → is_same_list a b ≡ s → IsAtMost (if s then pos 0 else pos (average_bound_lo marks a) -ℤ pos (average_bound_hi marks b)) (10 ^ 18) (average_precision (length marks) truth a) (average_precision (length marks) truth b)
    by true e = subst (λ (docs : List ℕ). IsAtMost (pos 0) (10 ^ 18) (average_precision (length marks) truth a) (average_precision (length marks) truth docs)) (same_text a b (sym e)) (none_low (10 ^ 18) (average_precision (length marks) truth a))
    by false e =
        at_most_difference (average_bound_lo marks a) (average_bound_hi marks b) (10 ^ 18) (average_precision (length marks) truth a) (average_precision (length marks) truth b)
        (average_at_most (length marks) truth a (average_bound_lo marks a) (bound_lo_least marks a truth ra c))
        (average_at_least (length marks) truth b (average_bound_hi marks b) (bound_hi_greatest marks b truth rb c))

-- ---- laws 3 and 4, and the verifier: the upper end, in one completion
pub upper_holds : (n : ℕ) (truth : ℕ → Bool) (a b : List ℕ) → IsAtLeast (average_upper_end n truth a b) (10 ^ 18) (average_precision n truth a) (average_precision n truth b)
upper_holds n truth a b = by (is_same_list a b) refl
  where
    by : (s : Bool) → is_same_list a b ≡ s → IsAtLeast (if s then pos 0 else pos (high_average n truth a) -ℤ pos (low_average n truth b)) (10 ^ 18) (average_precision n truth a) (average_precision n truth b)
    by true e = subst (λ (docs : List ℕ). IsAtLeast (pos 0) (10 ^ 18) (average_precision n truth a) (average_precision n truth docs)) (same_text a b (sym e)) (none_high (10 ^ 18) (average_precision n truth a))
    by false e =
        at_least_difference (high_average n truth a) (low_average n truth b) (10 ^ 18) (average_precision n truth a) (average_precision n truth b)
        (average_at_least n truth a (high_average n truth a) (omega arith)) (average_at_most n truth b (low_average n truth b) (omega arith))

-- the least case is a completion
pub truth-Completes : (marks : List Mark) (a b : List ℕ) → Completes marks (average_truth marks a b)
unfolding average_truth
truth-Completes marks a b = by (is_same_list a b) (int_lt (average_upper_end (length marks) (low_case marks a) a b) (average_upper_end (length marks) (high_case marks b) a b))
  where
    by : (s t : Bool) → Completes marks (if s then with_picked marks (λ _. false) else if t then low_case marks a else high_case marks b)
    by true t = with_picked-Completes marks _
    by false true = with_picked-Completes marks _
    by false false = with_picked-Completes marks _

-- ---- law 6: sizes
modest_of : (l h : ℕ) → l ≤ 10 ^ 18 → h ≤ 10 ^ 18 → IsModest (pos l -ℤ pos h)
modest_of l h p q = (omega (arith, ints, p, q), omega (arith, ints, p, q))

pub least_lo-modest : (marks : List Mark) (a b : List ℕ) → IsRanking (length marks) a → IsRanking (length marks) b → IsModest (average_least_lo marks a b)
least_lo-modest marks a b ra rb = by (is_same_list a b)
  where
    by : (s : Bool) → IsModest (if s then pos 0 else pos (average_bound_lo marks a) -ℤ pos (average_bound_hi marks b))
    by true = (omega (arith, ints), omega (arith, ints))
    by false = modest_of (average_bound_lo marks a) (average_bound_hi marks b) (bound_lo-most marks a ra) (bound_hi-most marks b rb)

pub upper_end-modest : (n : ℕ) (truth : ℕ → Bool) (a b : List ℕ) → IsRanking n a → IsRanking n b → IsModest (average_upper_end n truth a b)
upper_end-modest n truth a b ra rb = by (is_same_list a b)
  where
    by : (s : Bool) → IsModest (if s then pos 0 else pos (high_average n truth a) -ℤ pos (low_average n truth b))
    by true = (omega (arith, ints), omega (arith, ints))
    by false = modest_of (high_average n truth a) (low_average n truth b) (high_average-most n truth a ra) (low_average-most n truth b rb)

-- ---- more judging: the outer ends close in
pub least_lo_rises : (marks later : List Mark) (a b : List ℕ) → AreRefinedBy marks later → IsRanking (length marks) a → IsRanking (length marks) b → average_least_lo marks a b ≤ℤ average_least_lo later a b
least_lo_rises marks later a b h ra rb = by (is_same_list a b)
  where
    by : (s : Bool) → (if s then pos 0 else pos (average_bound_lo marks a) -ℤ pos (average_bound_hi marks b)) ≤ℤ (if s then pos 0 else pos (average_bound_lo later a) -ℤ pos (average_bound_hi later b))
    by true = omega (arith, ints)
    by false = let rises = bound_lo_rises marks later a h ra in let falls = bound_hi_falls marks later b h rb in omega (arith, ints, rises, falls)

pub most_hi_falls : (marks later : List Mark) (a b : List ℕ) → AreRefinedBy marks later → IsRanking (length marks) a → IsRanking (length marks) b → neg_ℤ (average_least_lo later b a) ≤ℤ neg_ℤ (average_least_lo marks b a)
most_hi_falls marks later a b h ra rb = let rises = least_lo_rises marks later b a h rb ra in omega (arith, ints, rises)

-- ---- the swapped runs
pub ends_swapped : (marks : List Mark) (a b : List ℕ) →
    average_ends marks b a ≡ record {
      least_lo = neg_ℤ (average_ends marks a b).most_hi;
      least_hi = neg_ℤ (average_ends marks a b).most_lo;
      most_lo = neg_ℤ (average_ends marks a b).least_hi;
      most_hi = neg_ℤ (average_ends marks a b).least_lo;
    }
ends_swapped marks a b =
    ap (λ (z : ℤ). ends z (average_least_hi marks b a)) (sym (neg_twice (average_least_lo marks b a)))
    ∙ ap (λ (z : ℤ). ends (neg_ℤ (neg_ℤ (average_least_lo marks b a))) z) (sym (neg_twice (average_least_hi marks b a)))
  where
    ends : ℤ → ℤ → Ends
    ends lo hi = record { least_lo = lo; least_hi = hi; most_lo = neg_ℤ (average_least_hi marks a b); most_hi = neg_ℤ (average_least_lo marks a b) }
