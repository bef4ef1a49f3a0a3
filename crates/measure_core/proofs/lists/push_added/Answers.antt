use Rattle.std.proofs.Common.{◌≡◌, ℕ, ◌+◌, Bool, false, List, ◌++◌, length, ap, sym, ◌∙◌, arith}
use Rattle.std.specs.Prelude.{Vec, ◌&&◌, slice_index_or}
use Rattle.std.specs.declared.alloc.Global.{Global}
use Rattle.desk_model.specs.Mark.{is_unjudged, mark_at}
use Rattle.desk_model.specs.declared.types.Mark.{Mark}
use Rattle.measure_core.specs.Lists.{added_documents}
use Rattle.measure_core.proofs.Pushing.{left_from, left_whole, left_step, left_none, one_pushed, none_pushed, all_pushed}
use Rattle.measure_core.proofs.lists.push_added.Goals as goal
use Rattle.measure_core.proofs.lists.push_added.Goals.{then-is_added+in_ok-push, else-is_added}

abbrev test : List Mark → List Bool → ℕ → Bool
test marks truth doc = is_unjudged (mark_at marks doc) && slice_index_or truth doc false

pub loop-doc-init : goal.loop-doc-init
loop-doc-init c = record { made = ap (λ l. c.args.docs.now.items ++ l) (left_whole (test c.args.marks.now c.args.truth.now) (length c.args.marks.now)) }

pub loop-doc-preserved : goal.loop-doc-preserved
loop-doc-preserved c =
    let marks = c.args.marks.now in
    let truth = c.args.truth.now in
    let doc = c.loop-doc.doc in
    let n = length marks in
    let p = test marks truth in
    let tested : p doc ≡ c.is_added.result = sym c.is_added.ensures in
    let now = c.loop-doc.docs.items in
    let whole = c.args.docs.now.items ++ added_documents marks (λ d. slice_index_or truth d false) in
    elim c.if-is_added.branch [
      | then-is_added+in_ok-push w ↦ record {
        made = ap (λ (v : Vec ℕ Global). v.items ++ left_from p n (doc + 1)) w.docs-is ∙ ap (λ l. l ++ left_from p n (doc + 1)) w.in_ok-push.ensures.items
            ∙ one_pushed now (left_from p n doc) (left_from p n (doc + 1)) whole doc (left_step p n doc _ c.loop-doc-test.true (tested ∙ w.if-is_added.true)) c.loop-doc.invariant.made;
      }
      | else-is_added w ↦ record {
        made = ap (λ (v : Vec ℕ Global). v.items ++ left_from p n (doc + 1)) w.docs-is
            ∙ none_pushed now (left_from p n doc) (left_from p n (doc + 1)) whole (left_step p n doc _ c.loop-doc-test.true (tested ∙ w.if-is_added.false)) c.loop-doc.invariant.made;
      }
    ]

pub returns : goal.returns
returns c =
    let marks = c.args.marks.now in
    let p = test marks c.args.truth.now in
    let n = length marks in
    let whole = c.args.docs.now.items ++ added_documents marks (λ d. slice_index_or c.args.truth.now d false) in
    all_pushed c.loop-doc.docs.items (left_from p n c.loop-doc.doc) whole (left_none p n c.loop-doc.doc (omega (arith, c.loop-doc-test.false))) c.loop-doc.invariant.made
