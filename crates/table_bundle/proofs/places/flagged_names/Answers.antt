use Rattle.std.proofs.Common.{ℕ, Bool, false, List, [], get_or, ap, sym, ◌∙◌}
use Rattle.std.specs.Prelude.{Vec}
use Rattle.std.specs.declared.alloc.Global.{Global}
use Rattle.std.proofs.lemmas.Option.{get_or_from_slice_get}
use Rattle.pair_table.proofs.Listing.{passed_more, passed_same}
use Rattle.table_bundle.proofs.places.flagged_names.Goals as goal
use Rattle.table_bundle.proofs.places.flagged_names.Goals.{then-flags-doc+in_ok-name+in_ok-push, else-flags-doc}

pub loop-doc-preserved : goal.loop-doc-preserved
loop-doc-preserved c =
    let docs = c.args.book.now.docs in
    let doc = c.loop-doc.doc in
    let test : ℕ → Bool = λ d. get_or c.args.flags.now d false in
    elim c.if-flags-doc.branch [
      | then-flags-doc+in_ok-name+in_ok-push w ↦ record {
        made = ap (λ (v : Vec (List ℕ) Global). v.items) w.names-is ∙ w.in_ok-push.ensures.items
            ∙ passed_more docs test doc w.in_ok-name.name _ c.loop-doc.invariant.made w.if-flags-doc.true (get_or_from_slice_get docs doc _ [] w.doc_name.ensures ∙ sym w.in_ok-name.ensures);
      }
      | else-flags-doc w ↦ record { made = ap (λ (v : Vec (List ℕ) Global). v.items) w.names-is ∙ passed_same docs test doc _ c.loop-doc.invariant.made w.if-flags-doc.false }
    ]
