use Rattle.std.proofs.Common.{◌≡◌, ℕ, suc, ◌+◌, ◌≤◌, Bool, not, [], ◌∷◌, ◌++◌, cond, take, drop, length, get_or, refl, ap, sym, ◌∙◌, arith}
use Rattle.std.specs.Prelude.{Vec, ◌&&◌, filter}
use Rattle.std.specs.declared.alloc.Global.{Global}
use Rattle.std.proofs.Math.Seq.{drop-cons}
use Rattle.std.proofs.lemmas.List.{drop_all}
use Rattle.desk_model.specs.Mark.{is_unjudged, mark_at}
use Rattle.desk_model.specs.Ranking.{is_in}
use Rattle.measure_core.proofs.Pushing.{cond_pushed, all_pushed}
use Rattle.marked_lists.proofs.own_lists.push_found.Goals as goal
use Rattle.marked_lists.proofs.own_lists.push_found.Goals.{then-is_open_outside+in_ok-push, else-is_open_outside}

pub loop-doc-init : goal.loop-doc-init
loop-doc-init c = record { made = refl }

pub loop-doc-preserved : goal.loop-doc-preserved
loop-doc-preserved c =
    let items = c.prefix-doc-items.result.now in
    let i = c.loop-doc.doc-index in
    let doc = get_or items i 0 in
    let b = c.is_open_outside.result in
    let now = c.loop-doc.docs.items in
    let keep : ℕ → Bool = λ d. is_unjudged (mark_at c.args.pair.now.marks.now d) && not (is_in (take c.args.k c.args.pair.now.a.now) d) in
    let next : suc i ≡ i + 1 = omega arith in
    let left : filter keep (drop i items) ≡ cond b (doc ∷ filter keep (drop (i + 1) items)) (filter keep (drop (i + 1) items)) =
    ap (filter keep) (drop-cons items i 0 c.loop-doc-test.true) ∙ ap (λ m. cond (keep doc) (doc ∷ filter keep (drop m items)) (filter keep (drop m items))) next ∙ ap (λ t. cond t (doc ∷ filter keep (drop (i + 1) items)) (filter keep (drop (i + 1) items))) (sym c.is_open_outside.ensures) in
    let pushed : c.if-is_open_outside.docs.items ≡ cond b (now ++ doc ∷ []) now = elim c.if-is_open_outside.branch [
      | then-is_open_outside+in_ok-push w ↦ ap (λ (v : Vec ℕ Global). v.items) w.docs-is ∙ w.in_ok-push.ensures.items ∙ sym (ap (λ t. cond t (now ++ doc ∷ []) now) w.if-is_open_outside.true)
      | else-is_open_outside w ↦ ap (λ (v : Vec ℕ Global). v.items) w.docs-is ∙ sym (ap (λ t. cond t (now ++ doc ∷ []) now) w.if-is_open_outside.false)
    ] in
    record { made = cond_pushed now (filter keep (drop i items)) (filter keep (drop (i + 1) items)) (c.args.docs.now.items ++ filter keep items) c.if-is_open_outside.docs.items doc b left pushed c.loop-doc.invariant.made }

pub returns : goal.returns
returns c =
    let items = c.prefix-doc-items in
    let i = c.loop-doc.doc-index in
    let keep : ℕ → Bool = λ d. is_unjudged (mark_at c.args.pair.now.marks.now d) && not (is_in (take c.args.k c.args.pair.now.a.now) d) in
    let end : length items.result.now ≤ i = omega (arith, c.loop-doc-test.false) in
    all_pushed c.loop-doc.docs.items (filter keep (drop i items.result.now)) (c.args.docs.now.items ++ filter keep items.result.now) (ap (filter keep) (drop_all i items.result.now end)) c.loop-doc.invariant.made
    ∙ ap (λ ds. c.args.docs.now.items ++ filter keep ds) (items.ensures ∙ ap (take c.args.k) c.docs.ensures.docs)
