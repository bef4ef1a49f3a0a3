use Rattle.std.proofs.Common.{◌≡◌, ◌⊎◌, inl, inr, ℕ, ◌+◌, ◌-◌, ◌<◌, ◌≤◌, Bool, true, cond, not, nat_lt, ◌&&◌, List, [], get_or, take, length, refl, ap, sym, ◌∙◌, arith}
use Rattle.std.proofs.Math.Bool.{and-true}
use Rattle.std.proofs.lemmas.Bool.Decides.{nat_tests}
use Rattle.std.proofs.lemmas.List.{length-set}
use Rattle.desk_model.specs.Completion.{with_picked}
use Rattle.desk_model.specs.Mark.{is_unjudged, mark_at}
use Rattle.desk_model.specs.Ranking.{is_in}
use Rattle.measure_laws.specs.Prefixes.{neutral}
use Rattle.measure_core.specs.Lists.{times}
use Rattle.measure_core.specs.OneSide.{is_by}
use Rattle.measure_core.specs.Worths.{rank_or_none}
use Rattle.topic_counts.proofs.Prefixes.{rank_by}
use Rattle.marked_lists.proofs.InStep.{class_both}
use Rattle.measure_core.proofs.Pushing.{left_from, left_none, left_step, left_whole, open_picked}
use Rattle.measure_core.proofs.Tallying.{few_left, left_one, length_step, none_taken, one_counted, take_step}
use Rattle.marked_lists.proofs.neutral.count_neutral.Goals as goal
use Rattle.marked_lists.proofs.neutral.count_neutral.Goals.{then-loop-doc-test+else-left-gt0, else-loop-doc-test}

pub loop-doc-init : goal.loop-doc-init
loop-doc-init c =
    let marks = c.args.ranked.now.marks.now in
    let n = length marks in
    let test : ℕ → Bool = λ doc. is_unjudged (mark_at marks doc) && with_picked marks (neutral c.args.k c.args.ranked.now.a.now c.args.ranked.now.b.now) doc in
    let whole = ap (take c.args.most) (left_whole test n) in
    record {
      doc_in = omega arith;
      size = refl;
      left = sym (ap (λ (l : List ℕ). c.args.most + length l) whole);
      few = omega arith;
      counted = λ doc lt. ap (λ (l : List ℕ). get_or c.args.counts.now doc 0 + times l doc) whole;
    }

pub bounds-first-doc : goal.bounds-first-doc
bounds-first-doc c = omega (arith, c.loop-doc-test.true, c.args.ranked.now.first_ranks.long)

pub bounds-second-doc : goal.bounds-second-doc
bounds-second-doc c = omega (arith, c.loop-doc-test.true, c.args.ranked.now.second_ranks.long)

some_left : (u : Bool) (left : ℕ) → 0 < left → u ≡ (u && nat_lt 0 left)
some_left u left h =
    let over : nat_lt 0 left ≡ true = grind (arith, nat_tests) in
    sym (ap (λ b. u && b) over ∙ and-true u)

pub overflow_add-counts : goal.overflow_add-counts
overflow_add-counts c =
    let marks = c.args.ranked.now.marks.now in
    let n = length marks in
    let k = c.args.k in
    let a = c.args.ranked.now.a.now in
    let b = c.args.ranked.now.b.now in
    let l = c.loop-doc in
    let doc = l.doc in
    let u = is_unjudged (mark_at marks doc) in
    let x = rank_or_none (get_or c.args.ranked.now.first.now doc 0) in
    let y = rank_or_none (get_or c.args.ranked.now.second.now doc 0) in
    let i = is_by k x in
    let j = is_by k y in
    let in_first : i ≡ is_in (take k a) doc = ap (is_by k) (c.args.ranked.now.first_ranks.each doc c.loop-doc-test.true) ∙ sym (rank_by k doc a) in
    let in_second : j ≡ is_in (take k b) doc = ap (is_by k) (c.args.ranked.now.second_ranks.each doc c.loop-doc-test.true) ∙ sym (rank_by k doc b) in
    let test : ℕ → Bool = λ d. is_unjudged (mark_at marks d) && with_picked marks (neutral k a b) d in
    let here : (u && (not (j && not i) && not (i && not j))) ≡ test doc = class_both i j (is_in (take k a) doc) (is_in (take k b) doc) u in_first in_second ∙ sym (open_picked (neutral k a b doc) (mark_at marks doc)) in
    let told = here ∙ some_left (test doc) l.left c.if-left-gt0.true in
    let more : c.counted-more.result ≡ cond (test doc && nat_lt 0 l.left) 1 0 = c.counted-more.ensures ∙ ap (λ (t : Bool). cond t 1 0) told in
    let few = few_left (test doc) (test doc && nat_lt 0 l.left) l.left c.counted-more.result refl more in
    let rest = take l.left (left_from test n doc) in
    let next = take (l.left - c.counted-more.result) (left_from test n (doc + 1)) in
    let step = take_step (left_from test n doc) (left_from test n (doc + 1)) doc l.left (l.left - c.counted-more.result) (test doc) (left_step test n doc (test doc) c.loop-doc-test.true refl) few in
    let in_counts : doc < length c.args.counts.now = omega (arith, c.loop-doc-test.true, c.requires.size) in
    omega (arith, l.invariant.counted doc in_counts, c.requires.room doc in_counts, left_one rest next doc (test doc && nat_lt 0 l.left) step, more)

pub loop-doc-smaller : goal.loop-doc-smaller
loop-doc-smaller c = omega (arith, c.loop-doc-test.true)

pub loop-doc-preserved : goal.loop-doc-preserved
loop-doc-preserved c =
    let marks = c.args.ranked.now.marks.now in
    let n = length marks in
    let k = c.args.k in
    let a = c.args.ranked.now.a.now in
    let b = c.args.ranked.now.b.now in
    let l = c.loop-doc in
    let doc = l.doc in
    let u = is_unjudged (mark_at marks doc) in
    let x = rank_or_none (get_or c.args.ranked.now.first.now doc 0) in
    let y = rank_or_none (get_or c.args.ranked.now.second.now doc 0) in
    let i = is_by k x in
    let j = is_by k y in
    let in_first : i ≡ is_in (take k a) doc = ap (is_by k) (c.args.ranked.now.first_ranks.each doc c.loop-doc-test.true) ∙ sym (rank_by k doc a) in
    let in_second : j ≡ is_in (take k b) doc = ap (is_by k) (c.args.ranked.now.second_ranks.each doc c.loop-doc-test.true) ∙ sym (rank_by k doc b) in
    let test : ℕ → Bool = λ d. is_unjudged (mark_at marks d) && with_picked marks (neutral k a b) d in
    let here : (u && (not (j && not i) && not (i && not j))) ≡ test doc = class_both i j (is_in (take k a) doc) (is_in (take k b) doc) u in_first in_second ∙ sym (open_picked (neutral k a b doc) (mark_at marks doc)) in
    let told = here ∙ some_left (test doc) l.left c.if-left-gt0.true in
    let more : c.counted-more.result ≡ cond (test doc && nat_lt 0 l.left) 1 0 = c.counted-more.ensures ∙ ap (λ (t : Bool). cond t 1 0) told in
    let few = few_left (test doc) (test doc && nat_lt 0 l.left) l.left c.counted-more.result refl more in
    let rest = take l.left (left_from test n doc) in
    let next = take (l.left - c.counted-more.result) (left_from test n (doc + 1)) in
    let step = take_step (left_from test n doc) (left_from test n (doc + 1)) doc l.left (l.left - c.counted-more.result) (test doc) (left_step test n doc (test doc) c.loop-doc-test.true refl) few in
    let in_counts : doc < length l.counts = omega (arith, c.loop-doc-test.true, c.requires.size, l.invariant.size) in
    record {
      doc_in = omega (arith, c.loop-doc-test.true);
      size = length-set l.counts doc _ ∙ l.invariant.size;
      left = omega (arith, l.invariant.left, few, length_step rest next doc (test doc && nat_lt 0 l.left) step);
      few = omega (arith, l.invariant.few);
      counted = λ d lt. one_counted l.counts rest next doc c.counted-more.result d (test doc && nat_lt 0 l.left) in_counts step more ∙ l.invariant.counted d lt;
    }

pub overflow_sub-result : goal.overflow_sub-result
overflow_sub-result c = c.loop-doc.invariant.few

-- the list that is left at the end is empty
ended : (test : ℕ → Bool) (n doc left : ℕ) → (n ≤ doc) ⊎ (left ≤ 0) → take left (left_from test n doc) ≡ []
ended test n doc left (inl end) = ap (take left) (left_none test n doc end) ∙ none_taken left
ended test n doc left (inr none) = let zero_left : left ≡ 0 = omega (arith, none) in ap (λ m. take m (left_from test n doc)) zero_left

pub returns-clause-count : goal.returns-clause-count
returns-clause-count c =
    let marks = c.args.ranked.now.marks.now in
    let n = length marks in
    let l = c.loop-doc in
    let test : ℕ → Bool = λ d. is_unjudged (mark_at marks d) && with_picked marks (neutral c.args.k c.args.ranked.now.a.now c.args.ranked.now.b.now) d in
    let end : (n ≤ l.doc) ⊎ (l.left ≤ 0) = elim c.loop-doc-test.branch [ then-loop-doc-test+else-left-gt0 w ↦ inr w.if-left-gt0.false | else-loop-doc-test w ↦ inl w.loop-doc-test.false ] in
    omega (arith, l.invariant.left, ap (λ (ds : List ℕ). length ds) (ended test n l.doc l.left end), l.invariant.few)

pub returns-clause-counts : goal.returns-clause-counts
returns-clause-counts c = λ d lt.
    let marks = c.args.ranked.now.marks.now in
    let n = length marks in
    let l = c.loop-doc in
    let test : ℕ → Bool = λ d. is_unjudged (mark_at marks d) && with_picked marks (neutral c.args.k c.args.ranked.now.a.now c.args.ranked.now.b.now) d in
    let end : (n ≤ l.doc) ⊎ (l.left ≤ 0) = elim c.loop-doc-test.branch [ then-loop-doc-test+else-left-gt0 w ↦ inr w.if-left-gt0.false | else-loop-doc-test w ↦ inl w.loop-doc-test.false ] in
    omega (arith, l.invariant.counted d lt, ap (λ (ds : List ℕ). times ds d) (ended test n l.doc l.left end))
