use Rattle.std.proofs.Common.{◌≡◌, ◌⊎◌, inl, inr, ℕ, false, nat_lt, ◌||◌, Option, Some, refl, ◌+◌, ◌-◌, ◌<◌, ◌≤◌, Bool, cond, not, ◌&&◌, [], ◌∷◌, ◌++◌, List, take, drop, length, ap, sym, subst, ◌∙◌, arith}
use Rattle.std.specs.Prelude.{Vec}
use Rattle.std.specs.declared.alloc.Global.{Global}
use Rattle.std.proofs.lemmas.Result.{IfOk-weaker}
use Rattle.desk_model.specs.Completion.{with_picked}
use Rattle.desk_model.specs.Mark.{is_unjudged, mark_at}
use Rattle.desk_model.specs.Placed.{lookup}
use Rattle.desk_model.specs.Ranking.{is_in}
use Rattle.desk_model.specs.declared.placed.Placed.{Placed}
use Rattle.measure_laws.specs.Classes.{open_in}
use Rattle.measure_laws.specs.Prefixes.{only_second, neutral}
use Rattle.measure_core.specs.Lists.{added_documents, placed_documents}
use Rattle.marked_lists.specs.More.{own_and_more}
use Rattle.measure_core.specs.OneSide.{is_by}
use Rattle.marked_lists.proofs.InStep.{class_both, class_first, found_by, from_next, from_start, left_more, left_own, listed_is, next_within}
use Rattle.measure_core.proofs.Placed.{placed_are, weaker_places}
use Rattle.measure_core.proofs.Pushing.{cond_pushed, left_from, left_step, left_whole}
use Rattle.measure_core.specs.Places.{IsLeft}
use Rattle.measure_core.proofs.Walking.{IsLeft-drop, left_whole as places_whole}
use Rattle.marked_lists.proofs.more_lists.push_own_and_more.Goals as goal
use Rattle.marked_lists.proofs.more_lists.push_own_and_more.Goals.{then-lists+in_ok-push, else-lists, then-loop-doc-test+else-is_some, else-loop-doc-test}

pub loop-doc-init : goal.loop-doc-init
loop-doc-init c =
    let marks = c.args.pair.now.marks.now in
    let truth = with_picked marks (own_and_more c.args.k c.args.more marks c.args.pair.now.a.now c.args.pair.now.b.now) in
    record {
      doc_in = omega arith;
      first_in = omega arith;
      second_in = omega arith;
      first = from_start c.by_doc-first.result.now;
      second = from_start c.by_doc-second.result.now;
      left_both = omega arith;
      left_first = omega arith;
      made = ap (λ l. c.args.docs.now.items ++ l) (left_whole (λ doc. is_unjudged (mark_at marks doc) && truth doc) (length marks));
    }

pub invariant_of-one : goal.invariant_of-one
invariant_of-one c = let es = c.by_doc-first in record { left = places_whole (length c.args.pair.now.marks.now) c.args.pair.now.a.now es.result.now c.args.pair.now.met.first es.ensures.ascending es.ensures.ranks }

pub invariant_of-other : goal.invariant_of-other
invariant_of-other c = let fs = c.by_doc-second in record { left = places_whole (length c.args.pair.now.marks.now) c.args.pair.now.b.now fs.result.now c.args.pair.now.met.second fs.ensures.ascending fs.ensures.ranks }

pub loop-doc-preserved : goal.loop-doc-preserved
loop-doc-preserved c =
    let marks = c.args.pair.now.marks.now in
    let n = length marks in
    let k = c.args.k in
    let a = c.args.pair.now.a.now in
    let b = c.args.pair.now.b.now in
    let es = c.by_doc-first in
    let fs = c.by_doc-second in
    let l = c.loop-doc in
    let doc = l.doc in
    let u = is_unjudged (mark_at marks doc) in
    let i = c.is_by-in_first.result in
    let j = c.is_by-in_second.result in
    let in_first : i ≡ is_in (take k a) doc = c.is_by-in_first.ensures ∙ found_by k c.rank_from-x.result doc l.i a es.result.now l.invariant.first c.rank_from-x.ensures es.ensures.ranks in
    let in_second : j ≡ is_in (take k b) doc = c.is_by-in_second.ensures ∙ found_by k c.rank_from-y.result doc l.j b fs.result.now l.invariant.second c.rank_from-y.ensures fs.ensures.ranks in
    let test : ℕ → Bool = λ d. is_unjudged (mark_at marks d) && with_picked marks (own_and_more k c.args.more marks a b) d in
    let tested : test doc ≡ c.lists.result = sym (c.lists.ensures ∙ listed_is marks a b k doc c.args.more l.left i j in_first in_second l.invariant.left_both l.invariant.left_first) in
    let now = l.docs.items in
    let lists = c.lists.result in
    let pushed : c.if-lists.docs.items ≡ cond lists (now ++ doc ∷ []) now = elim c.if-lists.branch [
      | then-lists+in_ok-push w ↦ ap (λ (v : Vec ℕ Global). v.items) w.docs-is ∙ w.in_ok-push.ensures.items ∙ sym (ap (λ t. cond t (now ++ doc ∷ []) now) w.if-lists.true)
      | else-lists w ↦ ap (λ (v : Vec ℕ Global). v.items) w.docs-is ∙ sym (ap (λ t. cond t (now ++ doc ∷ []) now) w.if-lists.false)
    ] in
    record {
      doc_in = omega arith;
      first_in = omega (arith, c.gone_on-i.ensures, next_within doc l.i c.rank_from-x.result es.result.now l.invariant.first_in c.rank_from-x.ensures);
      second_in = omega (arith, c.gone_on-j.ensures, next_within doc l.j c.rank_from-y.result fs.result.now l.invariant.second_in c.rank_from-y.ensures);
      first = from_next es.result.now doc l.i _ c.rank_from-x.result es.ensures.ascending l.invariant.first c.rank_from-x.ensures (ap (λ m. l.i + m) c.gone_on-i.ensures);
      second = from_next fs.result.now doc l.j _ c.rank_from-y.result fs.ensures.ascending l.invariant.second c.rank_from-y.ensures (ap (λ m. l.j + m) c.gone_on-j.ensures);
      left_both = left_more (open_in marks (neutral k a b)) doc c.args.more.both l.left.both c.after-left.result.both _ l.invariant.left_both c.after-left.ensures.both (class_both i j (is_in (take k a) doc) (is_in (take k b) doc) u in_first in_second);
      left_first = left_more (open_in marks (only_second k b a)) doc c.args.more.first l.left.first c.after-left.result.first _ l.invariant.left_first c.after-left.ensures.first (class_first i j (is_in (take k a) doc) (is_in (take k b) doc) u in_first in_second);
      made = cond_pushed now (left_from test n doc) (left_from test n (doc + 1)) (c.args.docs.now.items ++ added_documents marks (with_picked marks (own_and_more k c.args.more marks a b))) c.if-lists.docs.items doc lists
          (left_step test n doc lists c.loop-doc-test.true tested) pushed l.invariant.made;
    }

pub invariant_of-one-2 : goal.invariant_of-one-2
invariant_of-one-2 c =
    let n = length c.args.pair.now.marks.now in
    let es = c.by_doc-first in
    record { left = subst (IsLeft n) (sym c.rest.ensures) (IsLeft-drop n c.loop-doc.i es.result.now (places_whole n c.args.pair.now.a.now es.result.now c.args.pair.now.met.first es.ensures.ascending es.ensures.ranks)) }

pub invariant_of-other-2 : goal.invariant_of-other-2
invariant_of-other-2 c =
    let n = length c.args.pair.now.marks.now in
    let fs = c.by_doc-second in
    record { left = subst (IsLeft n) (sym c.rest-2.ensures) (IsLeft-drop n c.loop-doc.j fs.result.now (places_whole n c.args.pair.now.b.now fs.result.now c.args.pair.now.met.second fs.ensures.ascending fs.ensures.ranks)) }

pub returns : goal.returns
returns c =
    let marks = c.args.pair.now.marks.now in
    let n = length marks in
    let k = c.args.k in
    let a = c.args.pair.now.a.now in
    let b = c.args.pair.now.b.now in
    let es = c.by_doc-first in
    let fs = c.by_doc-second in
    let l = c.loop-doc in
    let doc = l.doc in
    let before = c.args.docs.now.items in
    let now = c.push_places.new.docs.items in
    let truth = with_picked marks (own_and_more k c.args.more marks a b) in
    let test : ℕ → Bool = λ d. is_unjudged (mark_at marks d) && truth d in
    let by_ranks : Option ℕ → Option ℕ → Bool = λ x y. is_by k y && not (is_by k x) in
    let first = drop l.i es.result.now in
    let second = drop l.j fs.result.now in
    let right = IsLeft-drop n l.j fs.result.now (places_whole n b fs.result.now c.args.pair.now.met.second fs.ensures.ascending fs.ensures.ranks) in
    let ended : (n ≤ doc) ⊎ ((nat_lt 0 l.left.both || nat_lt 0 l.left.first) ≡ false) = elim c.loop-doc-test.branch [
      | then-loop-doc-test+else-is_some w ↦ inr (sym w.is_some.ensures ∙ w.if-is_some.false)
      | else-loop-doc-test w ↦ inl w.loop-doc-test.false
    ] in
    let same : (d : ℕ) → doc ≤ d → d < doc + (n - doc) → test d ≡ (is_unjudged (mark_at marks d) && by_ranks (lookup first d) (lookup second d)) = λ d lo hi.
    left_own marks a b k doc n d c.args.more l.left (lookup first d) (lookup second d) ended l.invariant.left_both l.invariant.left_first lo hi (l.invariant.first.same d lo ∙ es.ensures.ranks d) (l.invariant.second.same d lo ∙ fs.ensures.ranks d) in
    let listed = λ (places : List Placed) (p : Placed). by_ranks (lookup places p.doc) (Some p.rank) in
    let all : left_from test n doc ≡ placed_documents marks (listed first) second =
    placed_are marks (lookup first) by_ranks (λ _. refl) test (n - doc) doc second right.ascending l.invariant.second.begins (weaker_places (λ p. p.doc < n) (λ p. p.doc < doc + (n - doc)) (λ p h. omega (arith, h)) second right.within) same in
    let rest = ap (λ qs. l.docs.items ++ placed_documents marks (listed qs) c.rest-2.result.now) c.rest.ensures ∙ ap (λ qs. l.docs.items ++ placed_documents marks (listed first) qs) c.rest-2.ensures ∙ sym (ap (λ ds. l.docs.items ++ ds) all) ∙ l.invariant.made in
    IfOk-weaker c.push_places.result (λ _. now ≡ l.docs.items ++ placed_documents marks (listed c.rest.result.now) c.rest-2.result.now) (λ _. now ≡ before ++ added_documents marks truth) (λ _ is. is ∙ rest) c.push_places.ensures
