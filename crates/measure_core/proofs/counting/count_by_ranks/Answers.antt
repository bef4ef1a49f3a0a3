use Rattle.std.proofs.Common.{◌≡◌, ℕ, ◌-◌, ◌<◌, ◌≤◌, Bool, cond, length, take, drop, get_or, slice_index_or, List, [], Option, Some, ap, sym, subst, ◌∙◌, arith}
use Rattle.std.specs.Prelude.{◌&&◌, nat_lt}
use Rattle.std.proofs.lemmas.List.{drop_all, length-set}
use Rattle.desk_model.specs.Mark.{is_unjudged, mark_at}
use Rattle.desk_model.specs.declared.types.Mark.{Mark}
use Rattle.desk_model.specs.declared.placed.Placed.{Placed}
use Rattle.measure_core.specs.Lists.{placed_documents, times, AreCounted, HaveRoomFor}
use Rattle.measure_core.specs.Worths.{rank_or_none}
use Rattle.measure_core.proofs.Placed.{looked_listed}
use Rattle.measure_core.proofs.Tallying.{few_left, known_rank, left_one, length_step, none_taken, one_counted, placed_taken}
use Rattle.measure_core.proofs.Walking.{left_whole, rank_is_within, doc_within}
use Rattle.measure_core.proofs.counting.count_by_ranks.Goals as goal

abbrev nowhere : Placed
nowhere = record { doc = 0; rank = 0 }

pub bounds-ranks-doc : goal.bounds-ranks-doc
bounds-ranks-doc g c =
    let pair = c.args.ranked.now in
    let fs = c.by_doc-place-items in
    let whole = left_whole (length pair.marks.now) pair.b.now fs.result.now pair.met.second fs.ensures.ascending fs.ensures.ranks in
    let within = doc_within (length pair.marks.now) c.loop-place.place-index fs.result.now nowhere whole c.loop-place-test.true in
    omega (arith, within, c.args.ranked.now.first_ranks.long)

pub bounds-counts-doc : goal.bounds-counts-doc
bounds-counts-doc g c =
    let pair = c.args.ranked.now in
    let fs = c.by_doc-place-items in
    let whole = left_whole (length pair.marks.now) pair.b.now fs.result.now pair.met.second fs.ensures.ascending fs.ensures.ranks in
    let within = doc_within (length pair.marks.now) c.loop-place.place-index fs.result.now nowhere whole c.loop-place-test.true in
    omega (arith, within, c.requires.size, c.loop-place.invariant.size)

pub bounds-counts-doc-in-loop-place : goal.bounds-counts-doc-in-loop-place
bounds-counts-doc-in-loop-place g c =
    let pair = c.args.ranked.now in
    let fs = c.by_doc-place-items in
    let whole = left_whole (length pair.marks.now) pair.b.now fs.result.now pair.met.second fs.ensures.ascending fs.ensures.ranks in
    let within = doc_within (length pair.marks.now) c.loop-place.place-index fs.result.now nowhere whole c.loop-place-test.true in
    omega (arith, within, c.requires.size, c.loop-place.invariant.size)

pub bounds-marks-doc : goal.bounds-marks-doc
bounds-marks-doc g c =
    let pair = c.args.ranked.now in
    let fs = c.by_doc-place-items in
    let whole = left_whole (length pair.marks.now) pair.b.now fs.result.now pair.met.second fs.ensures.ascending fs.ensures.ranks in
    doc_within (length pair.marks.now) c.loop-place.place-index fs.result.now nowhere whole c.loop-place-test.true

pub overflow_add-counts : goal.overflow_add-counts
overflow_add-counts g c =
    let pair = c.args.ranked.now in
    let marks = pair.marks.now in
    let fs = c.by_doc-place-items in
    let places = fs.result.now in
    let l = c.loop-place in
    let i = l.place-index in
    let n = length marks in
    let ranks = c.args.ranked.now.first.now in
    let passes = g.T.RankTest.test c.args.test.now in
    let test : Placed → Bool = λ p. passes (rank_or_none (get_or ranks p.doc 0)) (Some p.rank) in
    let whole = left_whole n pair.b.now places pair.met.second fs.ensures.ascending fs.ensures.ranks in
    let listed = looked_listed marks passes (g.met.T.RankTest.absent c.args.test.now) pair.a.now pair.b.now (λ d. rank_or_none (get_or ranks d 0)) places c.args.ranked.now.first_ranks.each fs.ensures.ranks whole in
    let room = subst (HaveRoomFor c.args.counts.now) (ap (take c.args.most) listed) c.requires.room in
    let place = slice_index_or places i nowhere in
    let t = is_unjudged (mark_at marks place.doc) && test place in
    let b = (is_unjudged (mark_at marks place.doc) && passes (rank_or_none (get_or ranks place.doc 0)) (rank_or_none place.rank)) && nat_lt 0 l.left in
    let within : place.doc < n = doc_within n i places nowhere whole c.loop-place-test.true in
    let known = known_rank place.rank (rank_is_within n i places nowhere whole c.loop-place-test.true) in
    let told : b ≡ (t && nat_lt 0 l.left) = ap (λ (r : Option ℕ). (is_unjudged (mark_at marks place.doc) && passes (rank_or_none (get_or ranks place.doc 0)) r) && nat_lt 0 l.left) known in
    let more : c.counted-more.result ≡ cond b 1 0 = c.counted-more.ensures in
    let step = placed_taken marks test places i l.left (l.left - c.counted-more.result) nowhere b c.loop-place-test.true told (few_left t b l.left c.counted-more.result told more) in
    let in_counts : place.doc < length c.args.counts.now = omega (arith, within, c.requires.size) in
    omega (arith, l.invariant.counted place.doc in_counts, room place.doc in_counts, left_one _ _ place.doc b step, more)

pub loop-place-preserved : goal.loop-place-preserved
loop-place-preserved g c =
    let pair = c.args.ranked.now in
    let marks = pair.marks.now in
    let fs = c.by_doc-place-items in
    let places = fs.result.now in
    let l = c.loop-place in
    let i = l.place-index in
    let n = length marks in
    let ranks = c.args.ranked.now.first.now in
    let passes = g.T.RankTest.test c.args.test.now in
    let test : Placed → Bool = λ p. passes (rank_or_none (get_or ranks p.doc 0)) (Some p.rank) in
    let whole = left_whole n pair.b.now places pair.met.second fs.ensures.ascending fs.ensures.ranks in
    let place = slice_index_or places i nowhere in
    let t = is_unjudged (mark_at marks place.doc) && test place in
    let b = (is_unjudged (mark_at marks place.doc) && passes (rank_or_none (get_or ranks place.doc 0)) (rank_or_none place.rank)) && nat_lt 0 l.left in
    let within : place.doc < n = doc_within n i places nowhere whole c.loop-place-test.true in
    let known = known_rank place.rank (rank_is_within n i places nowhere whole c.loop-place-test.true) in
    let told : b ≡ (t && nat_lt 0 l.left) = ap (λ (r : Option ℕ). (is_unjudged (mark_at marks place.doc) && passes (rank_or_none (get_or ranks place.doc 0)) r) && nat_lt 0 l.left) known in
    let more : c.counted-more.result ≡ cond b 1 0 = c.counted-more.ensures in
    let few = few_left t b l.left c.counted-more.result told more in
    let step = placed_taken marks test places i l.left (l.left - c.counted-more.result) nowhere b c.loop-place-test.true told few in
    let in_counts : place.doc < length l.counts = omega (arith, within, c.requires.size, l.invariant.size) in
    record {
      size = length-set l.counts place.doc _ ∙ l.invariant.size;
      left = omega (arith, l.invariant.left, few, length_step _ _ place.doc b step);
      counted = λ doc lt. one_counted l.counts _ _ place.doc c.counted-more.result doc b in_counts step more ∙ l.invariant.counted doc lt;
    }

-- what is left to count at the end is nothing
ended : (marks : List Mark) (test : Placed → Bool) (places : List Placed) (i left : ℕ) → length places ≤ i → take left (placed_documents marks test (drop i places)) ≡ []
ended marks test places i left end = ap (λ ps. take left (placed_documents marks test ps)) (drop_all i places end) ∙ none_taken left

pub overflow_sub-result : goal.overflow_sub-result
overflow_sub-result g c =
    let marks = c.args.ranked.now.marks.now in
    let ranks = c.args.ranked.now.first.now in
    let places = c.by_doc-place-items.result.now in
    let test : Placed → Bool = λ p. g.T.RankTest.test c.args.test.now (rank_or_none (get_or ranks p.doc 0)) (Some p.rank) in
    omega (arith, c.loop-place.invariant.left, ap (λ (ds : List ℕ). length ds) (ended marks test places c.loop-place.place-index c.loop-place.left (omega (arith, c.loop-place-test.false))))

pub returns-clause-count : goal.returns-clause-count
returns-clause-count g c =
    let pair = c.args.ranked.now in
    let marks = pair.marks.now in
    let ranks = c.args.ranked.now.first.now in
    let fs = c.by_doc-place-items in
    let passes = g.T.RankTest.test c.args.test.now in
    let test : Placed → Bool = λ p. passes (rank_or_none (get_or ranks p.doc 0)) (Some p.rank) in
    let whole = left_whole (length marks) pair.b.now fs.result.now pair.met.second fs.ensures.ascending fs.ensures.ranks in
    let listed = looked_listed marks passes (g.met.T.RankTest.absent c.args.test.now) pair.a.now pair.b.now (λ d. rank_or_none (get_or ranks d 0)) fs.result.now c.args.ranked.now.first_ranks.each fs.ensures.ranks whole in
    omega (arith, c.loop-place.invariant.left, ap (λ (ds : List ℕ). length ds) (ended marks test fs.result.now c.loop-place.place-index c.loop-place.left (omega (arith, c.loop-place-test.false))), ap (λ (l : List ℕ). length (take c.args.most l)) listed)

pub returns-clause-counts : goal.returns-clause-counts
returns-clause-counts g c =
    let pair = c.args.ranked.now in
    let marks = pair.marks.now in
    let ranks = c.args.ranked.now.first.now in
    let fs = c.by_doc-place-items in
    let passes = g.T.RankTest.test c.args.test.now in
    let test : Placed → Bool = λ p. passes (rank_or_none (get_or ranks p.doc 0)) (Some p.rank) in
    let whole = left_whole (length marks) pair.b.now fs.result.now pair.met.second fs.ensures.ascending fs.ensures.ranks in
    let listed = looked_listed marks passes (g.met.T.RankTest.absent c.args.test.now) pair.a.now pair.b.now (λ d. rank_or_none (get_or ranks d 0)) fs.result.now c.args.ranked.now.first_ranks.each fs.ensures.ranks whole in
    let none = ended marks test fs.result.now c.loop-place.place-index c.loop-place.left (omega (arith, c.loop-place-test.false)) in
    subst (λ (l : List ℕ). AreCounted c.args.counts.now l c.loop-place.counts) (sym (ap (take c.args.most) listed)) (λ doc lt. omega (arith, c.loop-place.invariant.counted doc lt, ap (λ (ds : List ℕ). times ds doc) none))
