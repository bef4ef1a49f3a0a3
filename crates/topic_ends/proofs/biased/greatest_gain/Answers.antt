use Rattle.std.proofs.Common.{◌≡◌, ℕ, ◌-◌, Bool, true, false, Option, pos, neg_ℤ, ℤ, ◌-ℤ◌, to_z, of_z, arith, refl, ap, sym, subst, ◌∙◌}
use Rattle.std.specs.Int.{w128}
use Rattle.std.specs.Prelude.{if◌then◌else◌}
use Rattle.std.proofs.lemmas.Int.{ints}
use Rattle.measure_laws.specs.Powers.{low_weight, high_weight}
use Rattle.desk_model.specs.Ranking.{rank}
use Rattle.measure_laws.specs.Ranks.{IsRankWithin, comes_before}
use Rattle.measure_laws.specs.Shares.{low_share, high_share}
use Rattle.measure_laws.proofs.BiasedEnds.{one_first}
use Rattle.measure_laws.proofs.Ranks.{rank_within}
use Rattle.topic_ends.proofs.biased.greatest_gain.Goals as goal

-- the same by which rank comes first
flipped : (first second : Bool) (l h : ℕ) → (first ≡ true → second ≡ false) →
    pos 0 -ℤ (if second then pos (l - h) else if first then pos l -ℤ pos h else pos 0) ≡ (if first then pos h -ℤ pos l else if second then neg_ℤ (pos (l - h)) else pos 0)
flipped true true l h one = let bad : true ≡ false = one refl in absurd (cc)
flipped true false l h one = omega (arith, ints)
flipped false true l h one = omega (arith, ints)
flipped false false l h one = omega (arith, ints)

-- an upper share is the lower one of the swapped ranks, negated
negated_share : (top bottom : ℕ) (x y : Option ℕ) → pos 0 -ℤ low_share top bottom y x ≡ high_share top bottom x y
negated_share top bottom x y = flipped (comes_before x y) (comes_before y x) (low_weight top bottom y) (high_weight top bottom x) (one_first x y)

pub least_share-requires-clause-first : goal.least_share-requires-clause-first
least_share-requires-clause-first c =
    let ranked = c.requires in
    subst (IsRankWithin 10000) (sym (c.next_rank-y.ensures ranked.1 ranked.5)) (rank_within ranked.1 10000 c.args.doc ranked.3)

pub least_share-requires-clause-second : goal.least_share-requires-clause-second
least_share-requires-clause-second c =
    let ranked = c.requires in
    subst (IsRankWithin 10000) (sym (c.next_rank-x.ensures ranked.0 ranked.4)) (rank_within ranked.0 10000 c.args.doc ranked.2)

pub overflow_sub-result : goal.overflow_sub-result
overflow_sub-result c = omega (arith, ints, c.least_share.ensures.low, c.least_share.ensures.high)

pub returns-then-is_relevant-clause-gain : goal.returns-then-is_relevant-clause-gain
returns-then-is_relevant-clause-gain c = λ a b from from'.
    let powers = c.args.powers.now in
    let share = c.least_share.ensures in
    let high : Option ℕ → Option ℕ → ℤ = high_share powers.top powers.bottom in
    let same : to_z w128 (of_z w128 (pos 0 -ℤ to_z w128 (of_z w128 c.least_share.result))) ≡ pos 0 -ℤ c.least_share.result = omega (arith, ints, share.low, share.high) in
    same ∙ ap (λ z. pos 0 -ℤ z) share.share ∙ negated_share powers.top powers.bottom c.next_rank-x.result c.next_rank-y.result
    ∙ ap (λ o. high o c.next_rank-y.result) (c.next_rank-x.ensures a from) ∙ ap (high (rank a c.args.doc)) (c.next_rank-y.ensures b from')
    ∙ ap (λ (t : Bool). if t then high (rank a c.args.doc) (rank b c.args.doc) else pos 0) (sym c.if-is_relevant.true)

pub returns-then-is_relevant-clause-low : goal.returns-then-is_relevant-clause-low
returns-then-is_relevant-clause-low c = omega (arith, ints, c.least_share.ensures.low, c.least_share.ensures.high)

pub returns-then-is_relevant-clause-high : goal.returns-then-is_relevant-clause-high
returns-then-is_relevant-clause-high c = omega (arith, ints, c.least_share.ensures.low, c.least_share.ensures.high)

pub returns-else-is_relevant-clause-gain : goal.returns-else-is_relevant-clause-gain
returns-else-is_relevant-clause-gain c = λ a b from from'.
    let powers = c.args.powers.now in
    ap (λ (t : Bool). if t then high_share powers.top powers.bottom (rank a c.args.doc) (rank b c.args.doc) else pos 0) (sym c.if-is_relevant.false)
