use Rattle.std.proofs.Common.{◌≡◌, ◌+◌, ◌*◌, ◌^◌, ◌<◌, ◌≤◌, ℕ, ℤ, pos, ◌+ℤ◌, Bool, List, Option, Some, true, map, take, length, get_or, slice_index_or, subst, sym, ◌∙◌, arith, ap}
use Rattle.std.proofs.lemmas.Int.{ints}
use Rattle.std.proofs.lemmas.List.{length-take}
use Rattle.desk_model.specs.Score.{gained}
use Rattle.desk_model.specs.Mark.{mark_at}
use Rattle.measure_laws.specs.Powers.{high_weight}
use Rattle.measure_laws.specs.Shares.{low_share, high_share}
use Rattle.measure_laws.proofs.Weights.{high_weight-most}
use Rattle.desk_model.specs.Ranking.{rank}
use Rattle.rbp.specs.Added.{IsAdded, IsUpTo, least_low, least_high, most_low, most_high, added}
use Rattle.rbp.specs.declared.by_ranks.Added.{Added}
use Rattle.rbp.specs.Persistence.{Persistence}
use Rattle.rbp.specs.Walk.{is_in_least, is_in_most, correction}
use Rattle.rbp.proofs.Added.{up_to_more, up_to_wider, least_low_added, least_high_added, most_low_added, most_high_added}
use Rattle.rbp.proofs.Passed.{place_step, places_end, kept_rank_small, uncounted_adds}
use Rattle.rbp.proofs.Sums.{gained_more, high_sum_small}
use Rattle.rbp.proofs.Walk.{IsCommon, all_common}
use Rattle.rbp.proofs.rbp.Rbp.corrections_by_ranks.Goals as goal
use Rattle.rbp.proofs.rbp.Rbp.corrections_by_ranks.Goals.{then-has_bit, else-has_bit}

pub adds-requires-clause-first : goal.adds-requires-clause-first
adds-requires-clause-first c =
    let r = c.args.self.now in
    let l = c.loop-place in
    let i = l.place in
    let marks = c.args.apart.now.marks.now in
    let a = c.args.apart.now.a.now in
    let b = c.args.apart.now.b.now in
    let docs = c.docs-doc-items in
    let d = slice_index_or docs.result.now i 0 in
    let lt : i < length b = omega (arith, c.loop-place-test.true, ap (λ (xs : List ℕ). length xs) docs.ensures.docs) in
    let is : d ≡ get_or b i 0 = ap (λ (xs : List ℕ). get_or xs i 0) docs.ensures.docs in
    let within : d < length marks = omega (arith, is, c.args.apart.now.met.second.within i 0 lt) in
    let ranked = c.args.apart.now.set_ranks.each d within in
    kept_rank_small a d (slice_index_or c.args.apart.now.ranks.now d 0) c.args.apart.now.met.first.short ranked

pub with-sums-requires-clause-sums : goal.with-sums-requires-clause-sums
with-sums-requires-clause-sums c =
    let r = c.args.self.now in
    let l = c.loop-place in
    let b = c.args.apart.now.b.now in
    let below : r.top < r.bottom = omega (arith, c.self.invariant.below, ap (λ (p : Persistence). p.top) c.self.view_is, ap (λ (p : Persistence). p.bottom) c.self.view_is) in
    up_to_wider _ (2 * 10 ^ 18) l.sums (high_sum_small r.top r.bottom (λ _. true) (take l.place b) below (omega (arith, length-take l.place b, c.args.apart.now.met.second.short))) l.invariant.small

pub with-sums-requires-clause-more : goal.with-sums-requires-clause-more
with-sums-requires-clause-more c =
    let r = c.args.self.now in
    let below : r.top < r.bottom = omega (arith, c.self.invariant.below, ap (λ (p : Persistence). p.top) c.self.view_is, ap (λ (p : Persistence). p.bottom) c.self.view_is) in
    up_to_wider _ (10 ^ 18) c.adds.result (high_weight-most r.top r.bottom (Some (c.loop-place.place + 1)) (omega (arith, below)) (omega (arith, below))) c.adds.ensures.small

add_none : (z : ℤ) → z ≡ z +ℤ pos 0
add_none z = omega (arith, ints)

pub loop-place-preserved : goal.loop-place-preserved
loop-place-preserved c =
    let r = c.args.self.now in
    let l = c.loop-place in
    let i = l.place in
    let marks = c.args.apart.now.marks.now in
    let a = c.args.apart.now.a.now in
    let b = c.args.apart.now.b.now in
    let docs = c.docs-doc-items in
    let d = slice_index_or docs.result.now i 0 in
    let lt : i < length b = omega (arith, c.loop-place-test.true, ap (λ (xs : List ℕ). length xs) docs.ensures.docs) in
    let is : d ≡ get_or b i 0 = ap (λ (xs : List ℕ). get_or xs i 0) docs.ensures.docs in
    let within : d < length marks = omega (arith, is, c.args.apart.now.met.second.within i 0 lt) in
    let ranked = c.args.apart.now.set_ranks.each d within in
    let below : r.top < r.bottom = omega (arith, c.self.invariant.below, ap (λ (p : Persistence). p.top) c.self.view_is, ap (λ (p : Persistence). p.bottom) c.self.view_is) in
    let high = λ (rank : ℕ). high_weight r.top r.bottom (Some rank) in
    let s = l.sums in
    let bit = c.args.apart.now.set_bits.each d within in
    let common = all_common r.top r.bottom below in
    elim c.if-has_bit.branch [
      | then-has_bit w ↦
          let t = w.adds.result in
          let value : IsAdded r.top r.bottom (mark_at marks d) (rank a d) (Some (i + 1)) t = subst (λ (o : Option ℕ). IsAdded r.top r.bottom (mark_at marks d) o (Some (i + 1)) t) ranked w.adds.ensures in
          let sums : c.if-has_bit.sums ≡ added s t = w.sums-is ∙ w.with-sums.ensures in
          record {
            least_lo = place_step _ marks a b i d (least_low t) (least_low s) _ _ common.least_lo c.args.apart.now.met.second lt is value.least_lo (ap (λ (x : Added). least_low x) sums ∙ least_low_added s t) l.invariant.least_lo;
            least_hi = place_step _ marks a b i d (least_high t) (least_high s) _ _ common.least_hi c.args.apart.now.met.second lt is value.least_hi (ap (λ (x : Added). least_high x) sums ∙ least_high_added s t) l.invariant.least_hi;
            most_lo = place_step _ marks a b i d (most_low t) (most_low s) _ _ common.most_lo c.args.apart.now.met.second lt is value.most_lo (ap (λ (x : Added). most_low x) sums ∙ most_low_added s t) l.invariant.most_lo;
            most_hi = place_step _ marks a b i d (most_high t) (most_high s) _ _ common.most_hi c.args.apart.now.met.second lt is value.most_hi (ap (λ (x : Added). most_high x) sums ∙ most_high_added s t) l.invariant.most_hi;
            small = subst (λ (x : Added). IsUpTo (gained high 1 (map (λ _. true) (take (i + 1) b))) x) (sym sums)
                (up_to_more (gained high 1 (map (λ _. true) (take i b))) (high (i + 1)) _ s t (gained_more high (λ _. true) i d b lt is) l.invariant.small value.small);
          }
      | else-has_bit w ↦
          let nothing = λ (share : Option ℕ → Option ℕ → ℤ) (picked : Option ℕ → Option ℕ → Bool) (h : IsCommon (correction share picked)). uncounted_adds share picked marks a d (i + 1) h (sym bit ∙ sym c.has_bit.ensures ∙ w.if-has_bit.false) in
          let same = λ (f : Added → ℤ). ap f w.sums-is ∙ add_none (f s) in
          record {
            least_lo = place_step _ marks a b i d (pos 0) (least_low s) _ _ common.least_lo c.args.apart.now.met.second lt is (nothing (low_share r.top r.bottom) is_in_least common.least_lo) (same least_low) l.invariant.least_lo;
            least_hi = place_step _ marks a b i d (pos 0) (least_high s) _ _ common.least_hi c.args.apart.now.met.second lt is (nothing (high_share r.top r.bottom) is_in_least common.least_hi) (same least_high) l.invariant.least_hi;
            most_lo = place_step _ marks a b i d (pos 0) (most_low s) _ _ common.most_lo c.args.apart.now.met.second lt is (nothing (low_share r.top r.bottom) is_in_most common.most_lo) (same most_low) l.invariant.most_lo;
            most_hi = place_step _ marks a b i d (pos 0) (most_high s) _ _ common.most_hi c.args.apart.now.met.second lt is (nothing (high_share r.top r.bottom) is_in_most common.most_hi) (same most_high) l.invariant.most_hi;
            small = subst (λ (x : Added). IsUpTo (gained high 1 (map (λ _. true) (take (i + 1) b))) x) (sym w.sums-is)
                (up_to_wider _ _ s (omega (arith, gained_more high (λ _. true) i d b lt is)) l.invariant.small);
          }
    ]

pub returns : goal.returns
returns c =
    let r = c.args.self.now in
    let l = c.loop-place in
    let marks = c.args.apart.now.marks.now in
    let a = c.args.apart.now.a.now in
    let b = c.args.apart.now.b.now in
    let sums = c.shares.ensures in
    let end : length b ≤ l.place = omega (arith, c.loop-place-test.false, ap (λ (xs : List ℕ). length xs) c.docs-doc-items.ensures.docs) in
    let below : r.top < r.bottom = omega (arith, c.self.invariant.below, ap (λ (p : Persistence). p.top) c.self.view_is, ap (λ (p : Persistence). p.bottom) c.self.view_is) in
    let common = all_common r.top r.bottom below in
    record {
      least_lo = sums.least_lo ∙ places_end _ marks a b l.place _ _ common.least_lo end l.invariant.least_lo;
      least_hi = sums.least_hi ∙ places_end _ marks a b l.place _ _ common.least_hi end l.invariant.least_hi;
      most_lo = sums.most_lo ∙ places_end _ marks a b l.place _ _ common.most_lo end l.invariant.most_lo;
      most_hi = sums.most_hi ∙ places_end _ marks a b l.place _ _ common.most_hi end l.invariant.most_hi;
      least_loose = sums.least_loose;
      most_loose = sums.most_loose;
    }
