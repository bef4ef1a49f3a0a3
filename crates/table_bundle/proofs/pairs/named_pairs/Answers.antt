use Rattle.std.proofs.Common.{◌≡◌, ℕ, ◌+◌, ◌*◌, ◌/◌, ◌-◌, ◌<◌, ◌≤◌, length, subst, sym, ◌∙◌, arith}
use Rattle.std.proofs.lemmas.List.{length-map, take_all}
use Rattle.small_lemmas.proofs.Lists.{map_there}
use Rattle.desk_model.specs.Pairs.{pairs_of}
use Rattle.desk_model.specs.declared.pairs.PairPlaces.{PairPlaces}
use Rattle.measure_core.specs.Pairs.{run_numbers}
use Rattle.measure_core.proofs.RunPairs.{at_next, at_within, IsAt}
use Rattle.pair_table.proofs.Listing.{grown}
use Rattle.pair_table.proofs.PairNumbers.{length-pairs}
use Rattle.table_bundle.specs.Drafts.{named_pair, pairs_in}
use Rattle.table_bundle.proofs.pairs.named_pairs.Goals as goal

-- a pair is one of so many runs
pair_in : (n k : ℕ) → k < n * (n - 1) / 2 → k < length (pairs_of (run_numbers n))
pair_in n k lt = let long : length (pairs_of (run_numbers n)) ≡ n * (n - 1) / 2 = length-pairs n in omega (arith, lt, long)

second_in : (n k : ℕ) (at : PairPlaces) → IsAt n k at → k < n * (n - 1) / 2 → at.second < n
second_in n k at is lt = at_within n k at is (pair_in n k lt)

pub bounds-order-at-in-loop-pair : goal.bounds-order-at-in-loop-pair
bounds-order-at-in-loop-pair c = second_in (length c.args.order.now) c.loop-pair._pair c.loop-pair.at c.loop-pair.invariant.at_pair c.loop-pair-test.true

pub next-at-requires-clause-within : goal.next-at-requires-clause-within
next-at-requires-clause-within c = second_in (length c.args.order.now) c.loop-pair._pair c.loop-pair.at c.loop-pair.invariant.at_pair c.loop-pair-test.true

pub loop-pair-preserved : goal.loop-pair-preserved
loop-pair-preserved c =
    let order = c.args.order.now in
    let n = length order in
    let k = c.loop-pair._pair in
    let at = c.loop-pair.at in
    let next = at_next n k at c.loop-pair.invariant.at_pair (pair_in n k c.loop-pair-test.true) in
    let there = map_there (named_pair order) (pairs_of (run_numbers n)) k (at.first, at.second) next.0 in
    record {
      made = c.in_ok-push.ensures.items ∙ grown (pairs_in order) c.loop-pair.pairs.items k (named_pair order (at.first, at.second)) there c.loop-pair.invariant.made;
      at_pair = subst (IsAt n (k + 1)) (sym c.next-at.ensures) next.1;
    }

pub returns : goal.returns
returns c =
    let order = c.args.order.now in
    let n = length order in
    let long : length (pairs_of (run_numbers n)) ≡ n * (n - 1) / 2 = length-pairs n in
    let end : length (pairs_in order) ≤ c.loop-pair._pair = omega (arith, c.loop-pair-test.false, length-map (pairs_of (run_numbers n)) (named_pair order), long) in
    c.loop-pair.invariant.made ∙ take_all c.loop-pair._pair (pairs_in order) end
