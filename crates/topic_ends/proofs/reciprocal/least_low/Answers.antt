use Rattle.std.proofs.Common.{◌≡◌, ◌∙◌, ◌+◌, ◌∷◌, ◌++◌, [], ℕ, List, Option, Some, None, false, length, take, get_or, to_z, of_z, arith, ap, subst, sym}
use Rattle.std.specs.Int.{w128}
use Rattle.std.proofs.lemmas.Int.{ints}
use Rattle.std.proofs.lemmas.List.{take_all, take_more}
use Rattle.desk_model.specs.Completion.{with_picked}
use Rattle.desk_model.specs.Mark.{is_unjudged, mark_at}
use Rattle.desk_model.specs.Score.{first_true}
use Rattle.desk_model.specs.declared.types.MeasureName.TheVariants.{Reciprocal}
use Rattle.topic_counts.specs.Ends.{IsNear}
use Rattle.measure_laws.specs.Ranks.{IsRankWithin, earlier}
use Rattle.measure_laws.proofs.ReciprocalDifferences.{reciprocal_differences}
use Rattle.topic_ends.proofs.Smallest.{smallest_is}
use Rattle.topic_ends.proofs.Choices.{IsLowOf, low_none, low_judged, low_rest, low_unjudged, judged_is, of_choice}
use Rattle.topic_ends.proofs.Prefixes.{prefix_known}
use Rattle.topic_ends.proofs.reciprocal.least_low.Goals.{in-Unjudged, in-Relevant}
use Rattle.topic_ends.proofs.reciprocal.least_low.Goals as goal

pub loop-doc-init : goal.loop-doc-init
loop-doc-init c =
    let same : to_z w128 (of_z w128 c.floor-low.result) ≡ c.floor-low.result = omega (arith, ints) in
    let of = of_choice c.args.pair.now.marks.now c.args.pair.now.a.now c.args.pair.now.b.now None _ _ c.difference.result c.difference.ensures c.first_judged-first.ensures.first c.first_judged-second.ensures.first in
    record {
      low = subst (IsLowOf c.args.pair.now.marks.now c.args.pair.now.a.now c.args.pair.now.b.now []) (sym same) (low_none c.args.pair.now.marks.now c.args.pair.now.a.now c.args.pair.now.b.now c.difference.result c.floor-low.result of c.floor-low.ensures.floor);
      near = subst IsNear (sym same) c.floor-low.ensures.near;
    }

pub bounds : goal.bounds
bounds c = prefix_known (length c.args.pair.now.marks.now) c.last_chosen.result c.loop-doc.doc-index _ _ c.args.pair.now.b.now c.prefix-doc-items.ensures c.docs.ensures.docs c.args.pair.now.second.within c.loop-doc-test.true

-- the earlier of two ranks is as small as they are
earlier_within : (x y : Option ℕ) → IsRankWithin 10000 x → IsRankWithin 10000 y → IsRankWithin 10000 (earlier x y)
earlier_within None y h k = k
earlier_within (Some x) None h k = h
earlier_within (Some x) (Some y) h k = (omega (arith, h, k), omega (arith, h, k))

pub difference-requires-in-Unjudged-clause-first : goal.difference-requires-in-Unjudged-clause-first
difference-requires-in-Unjudged-clause-first c = subst (IsRankWithin 10000) (sym c.earlier_of-x.ensures) (earlier_within c.first_judged-first.result c.rank_in.result c.first_judged-first.ensures.within c.rank_in.ensures.within)

pub difference-requires-in-Unjudged-clause-second : goal.difference-requires-in-Unjudged-clause-second
difference-requires-in-Unjudged-clause-second c = subst (IsRankWithin 10000) (sym c.earlier_of-y.ensures) (earlier_within c.first_judged-second.result c.rank_in-in-Unjudged.result c.first_judged-second.ensures.within c.rank_in-in-Unjudged.ensures.within)

pub lowered-low-requires-clause-near : goal.lowered-low-requires-clause-near
lowered-low-requires-clause-near c = c.loop-doc.invariant.near

pub loop-doc-preserved : goal.loop-doc-preserved
loop-doc-preserved c =
    let marks = c.args.pair.now.marks.now in
    let a = c.args.pair.now.a.now in
    let b = c.args.pair.now.b.now in
    let items = c.prefix-doc-items.result.now in
    let i = c.loop-doc.doc-index in
    let x = get_or items i 0 in
    let longer : take i items ++ x ∷ [] ≡ take (i + 1) items = sym (take_more items i 0 c.loop-doc-test.true) in
    elim c.match-marks-doc.branch [
      | in-Unjudged w ↦
          let same : to_z w128 c.match-marks-doc.low-bits ≡ w.lowered-low.result = omega (arith, ints, w.low-is) in
          let of = of_choice marks a b (Some x) w.earlier_of-x.result w.earlier_of-y.result w.difference-in-Unjudged.result w.difference-in-Unjudged.ensures
          (w.earlier_of-x.ensures ∙ ap (λ o. earlier o w.rank_in.result) c.first_judged-first.ensures.first ∙ ap (λ o. earlier (first_true (with_picked marks (λ _. false)) a) o) w.rank_in.ensures.rank)
          (w.earlier_of-y.ensures ∙ ap (λ o. earlier o w.rank_in-in-Unjudged.result) c.first_judged-second.ensures.first ∙ ap (λ o. earlier (first_true (with_picked marks (λ _. false)) b) o) w.rank_in-in-Unjudged.ensures.rank) in
          let next = low_unjudged marks a b (take i items) x w.difference-in-Unjudged.result (to_z w128 c.loop-doc.low-bits) w.lowered-low.result (ap is_unjudged w.in-Unjudged.is) of w.lowered-low.ensures.lowered c.loop-doc.invariant.low in
          record {
            low = subst (IsLowOf marks a b (take (i + 1) items)) (sym same) (subst (λ (xs : List ℕ). IsLowOf marks a b xs w.lowered-low.result) longer next);
            near = subst IsNear (sym same) w.lowered-low.ensures.near;
          }
      | in-Relevant w ↦
          let same : to_z w128 c.match-marks-doc.low-bits ≡ to_z w128 c.loop-doc.low-bits = w.low-is in
          let next = low_judged marks a b (take i items) x (to_z w128 c.loop-doc.low-bits) (judged_is (mark_at marks x) w.in-Relevant.is) c.loop-doc.invariant.low in
          record {
            low = subst (IsLowOf marks a b (take (i + 1) items)) (sym same) (subst (λ (xs : List ℕ). IsLowOf marks a b xs (to_z w128 c.loop-doc.low-bits)) longer next);
            near = subst IsNear (sym same) c.loop-doc.invariant.near;
          }
    ]

pub returns : goal.returns
returns c =
    let marks = c.args.pair.now.marks.now in
    let a = c.args.pair.now.a.now in
    let b = c.args.pair.now.b.now in
    let k = c.last_chosen.result in
    let items = c.prefix-doc-items.result.now in
    let seen : take c.loop-doc.doc-index items ≡ take k b = take_all c.loop-doc.doc-index items c.loop-doc-test.false ∙ c.prefix-doc-items.ensures ∙ ap (take k) c.docs.ensures.docs in
    let low : IsLowOf marks a b (take k b) (to_z w128 c.loop-doc.low-bits) = subst (λ (xs : List ℕ). IsLowOf marks a b xs (to_z w128 c.loop-doc.low-bits)) seen c.loop-doc.invariant.low in
    let within = subst (IsRankWithin 10000) c.first_judged-first.ensures.first c.first_judged-first.ensures.within in
    smallest_is Reciprocal marks a b _ _ _ (to_z w128 c.loop-doc.low-bits) (reciprocal_differences marks a b c.args.pair.now.first c.args.pair.now.second)
    (low_rest marks a b k c.first_judged-second.result (to_z w128 c.loop-doc.low-bits) c.args.pair.now.first.short within c.first_judged-second.ensures.first c.last_chosen.ensures low)
