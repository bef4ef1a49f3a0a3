use Rattle.std.proofs.Common.{◌≡◌, ℕ, ◌+◌, Bool, List, ◌++◌, length, ap, sym, ◌∙◌, arith}
use Rattle.std.specs.Prelude.{Vec, ◌&&◌}
use Rattle.std.specs.declared.alloc.Global.{Global}
use Rattle.desk_model.specs.Mark.{is_unjudged, mark_at}
use Rattle.desk_model.specs.declared.types.Mark.{Mark}
use Rattle.measure_core.specs.Lists.{added_documents}
use Rattle.measure_core.specs.declared.room.Class.{Class}
use Rattle.measure_core.proofs.Pushing.{left_from, left_whole, left_step, left_none, one_pushed, none_pushed, all_pushed}
use Rattle.precision_candidates.specs.Classes.{class_truth}
use Rattle.average_precision.proofs.pushed.push_in.Goals as goal
use Rattle.average_precision.proofs.pushed.push_in.Goals.{then-is_added+in_ok-push, else-is_added}

abbrev test : List Mark → Bool → List Class → ℕ → Bool
test marks high classes doc = is_unjudged (mark_at marks doc) && class_truth high classes doc

pub loop-doc-init : goal.loop-doc-init
loop-doc-init c = record { made = ap (λ l. c.args.docs.now.items ++ l) (left_whole (test c.args.run.now.run.on.marks.now c.args.high c.args.run.now.classes.now) (length c.args.run.now.run.on.marks.now)) }

pub loop-doc-preserved : goal.loop-doc-preserved
loop-doc-preserved c =
    let marks = c.args.run.now.run.on.marks.now in
    let classes = c.args.run.now.classes.now in
    let doc = c.loop-doc.doc in
    let n = length marks in
    let p = test marks c.args.high classes in
    let tested : p doc ≡ c.is_added.result = sym c.is_added.ensures in
    let now = c.loop-doc.docs.items in
    let whole = c.args.docs.now.items ++ added_documents marks (class_truth c.args.high classes) in
    elim c.if-is_added.branch [
      | then-is_added+in_ok-push w ↦ record {
        made = ap (λ (v : Vec ℕ Global). v.items ++ left_from p n (doc + 1)) w.docs-is ∙ ap (λ l. l ++ left_from p n (doc + 1)) w.in_ok-push.ensures.items
            ∙ one_pushed now (left_from p n doc) (left_from p n (doc + 1)) whole doc (left_step p n doc _ c.loop-doc-test.true (tested ∙ w.if-is_added.true)) c.loop-doc.invariant.made;
      }
      | else-is_added w ↦ record {
        made = ap (λ (v : Vec ℕ Global). v.items ++ left_from p n (doc + 1)) w.docs-is
            ∙ none_pushed now (left_from p n doc) (left_from p n (doc + 1)) whole (left_step p n doc _ c.loop-doc-test.true (tested ∙ w.if-is_added.false)) c.loop-doc.invariant.made;
      }
    ]

pub returns : goal.returns
returns c =
    let marks = c.args.run.now.run.on.marks.now in
    let classes = c.args.run.now.classes.now in
    let p = test marks c.args.high classes in
    let n = length marks in
    let whole = c.args.docs.now.items ++ added_documents marks (class_truth c.args.high classes) in
    all_pushed c.loop-doc.docs.items (left_from p n c.loop-doc.doc) whole (left_none p n c.loop-doc.doc (omega (arith, c.loop-doc-test.false))) c.loop-doc.invariant.made
