use Rattle.std.proofs.Common.{◌≡◌, ℕ, ◌<◌, Bool, false, List, [], length, get_or, ap, sym, ◌∙◌, arith}
use Rattle.std.specs.Prelude.{Vec, ◌&&◌}
use Rattle.std.specs.declared.alloc.Global.{Global}
use Rattle.std.proofs.lemmas.Option.{get_or_from_slice_get}
use Rattle.desk_model.specs.Mark.{is_unjudged, mark_at}
use Rattle.desk_model.specs.Book.{Book}
use Rattle.desk_model.specs.declared.types.Mark.{Mark}
use Rattle.desk_model.proofs.Nested.{get_or-there}
use Rattle.pair_table.specs.Evidence.{relevant_names}
use Rattle.pair_table.specs.TopicUnder.{topic_of}
use Rattle.pair_table.proofs.Listing.{added_test, passed, passed_more, passed_same}
use Rattle.pair_table.proofs.marked_topic.MarkedTopic.relevant.Goals as goal
use Rattle.pair_table.proofs.marked_topic.MarkedTopic.relevant.Goals.{then-is_added+in_ok-name+in_ok-push, else-is_added}

abbrev none : Book
none = record { name = []; docs = []; grades = [] }

pub returns : goal.returns
returns c =
    let at = c.args.self.now in
    let docs = c.book-book.result.now.docs in
    let truth : ℕ → Bool = λ doc. get_or c.args.truth.now doc false in
    let end : c.loop-doc.doc ≡ length docs = omega (arith, c.doc_count-doc-end.ensures.count) in
    c.new.ensures ∙ c.loop-doc.invariant.made ∙ ap (passed docs (λ doc. is_unjudged (mark_at c.marks-marks.result.now doc) && get_or c.args.truth.now doc false)) end
    ∙ ap (λ (m : List Mark). relevant_names docs m truth) c.marks-marks.ensures.marks
    ∙ ap (λ (b : Book). relevant_names b.docs (topic_of at).marks truth) (sym (get_or-there at.desk.topics at.number c.book-book.result.now none c.book-book.ensures))

pub loop-doc-preserved : goal.loop-doc-preserved
loop-doc-preserved c =
    let docs = c.book-book.result.now.docs in
    let at = c.args.self.now in
    let marked : length c.marks-marks.result.now ≡ length docs = c.marks-marks.ensures.count ∙ ap (λ (b : Book). length b.docs) (get_or-there at.desk.topics at.number c.book-book.result.now none c.book-book.ensures) in
    let marks = c.marks-marks.result.now in
    let truth = c.args.truth.now in
    let doc = c.loop-doc.doc in
    let test : ℕ → Bool = λ doc. is_unjudged (mark_at marks doc) && get_or truth doc false in
    let in_marks : doc < length marks = omega (arith, marked, c.doc_count-doc-end.ensures.count) in
    let in_truth : doc < length truth = omega (arith, c.requires, ap length c.marks-marks.ensures.marks, marked, c.doc_count-doc-end.ensures.count) in
    let tested : test doc ≡ c.is_added.result = added_test marks truth doc _ _ c.is_added.result in_marks in_truth c.is_added.ensures in
    elim c.if-is_added.branch [
      | then-is_added+in_ok-name+in_ok-push w ↦ record {
        made = ap (λ (v : Vec (List ℕ) Global). v.items) w.names-is ∙ w.in_ok-push.ensures.items
            ∙ passed_more docs test doc w.in_ok-name.name _ c.loop-doc.invariant.made (tested ∙ w.if-is_added.true) (get_or_from_slice_get docs doc _ [] w.doc_name.ensures ∙ sym w.in_ok-name.ensures);
      }
      | else-is_added w ↦ record { made = ap (λ (v : Vec (List ℕ) Global). v.items) w.names-is ∙ passed_same docs test doc _ c.loop-doc.invariant.made (tested ∙ w.if-is_added.false) }
    ]
