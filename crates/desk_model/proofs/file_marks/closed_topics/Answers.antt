use Rattle.std.proofs.Common.{◌≡◌, ◌<◌, ℕ, Bool, true, List, [], ◌∷◌, ◌++◌, length, map, get_or, Option, ℤ, ap, ap₂, sym, ◌∙◌, arith}
use Rattle.std.specs.Prelude.{Vec, slice_get, Some}
use Rattle.std.specs.Option.{option_map_or}
use Rattle.std.specs.declared.alloc.Global.{Global}
use Rattle.std.proofs.lemmas.List.{map-append, length-map}
use Rattle.std.proofs.lemmas.List.FromFn.{length-range_with_len}
use Rattle.desk_model.specs.Book.{Book}
use Rattle.desk_model.specs.Desk.{Desk, file_marks, is_pooled}
use Rattle.desk_model.specs.Mark.{mark_of}
use Rattle.desk_model.specs.Pool.{docs_of}
use Rattle.desk_model.specs.declared.types.Mark.{Mark}
use Rattle.desk_model.proofs.Nested.{get_or-there}
use Rattle.desk_model.specs.Closing.{closed_topic}
use Rattle.desk_model.proofs.RowByRow.{same_row, rows_more, pools_more, pool_at}
use Rattle.desk_model.proofs.file_marks.closed_topics.Goals as goal

-- as many documents in the pool's list as in the topic
docs_count : (desk : Desk) (t : ℕ) (book : Book) → slice_get desk.topics t ≡ Some book → length (docs_of desk t) ≡ length book.docs
docs_count desk t book e = length-range_with_len 0 _ ∙ ap (λ o. option_map_or (λ (b : Book). length b.docs) o 0) e

pub closed_marks-requires : goal.closed_marks-requires
closed_marks-requires c =
    let desk = c.args.desk.now in
    let t = c.loop-t.t in
    let book = c.topic.result.now in
    let valid = c.topic_count-t-end.ensures.desk.books t book (omega (arith, c.loop-t-test.true, c.topic_count-t-end.ensures.count)) in
    let here = get_or-there desk.topics t book book c.topic.ensures in
    let grades : length book.grades ≡ length book.docs = rw (← here) valid.graded in
    ap length (c.deref.ensures.value ∙ c.in_ok-pool.ensures) ∙ length-map (docs_of desk t) (is_pooled desk t c.args.depth) ∙ docs_count desk t book c.topic.ensures ∙ sym grades

pub loop-t-preserved : goal.loop-t-preserved
loop-t-preserved c =
    let desk = c.args.desk.now in
    let t = c.loop-t.t in
    let depth = c.args.depth in
    let book = c.topic.result.now in
    let lt : t < length desk.topics = omega (arith, c.loop-t-test.true, c.topic_count-t-end.ensures.count) in
    let valid = c.topic_count-t-end.ensures.desk.books t book lt in
    let here = get_or-there desk.topics t book book c.topic.ensures in
    let grades : length book.grades ≡ length book.docs = rw (← here) valid.graded in
    let pool : c.in_ok-pool.pool.items ≡ map (is_pooled desk t depth) (docs_of desk t) = c.in_ok-pool.ensures in
    let row : c.in_ok-marks.marks.items ≡ closed_topic (is_pooled desk t depth) (file_marks c.args.level book) =
    c.in_ok-marks.ensures ∙ same_row (λ doc. get_or c.deref.result.now doc true) (is_pooled desk t depth) (file_marks c.args.level book) (λ doc known.
    ap (λ bs. get_or bs doc true) (c.deref.ensures.value ∙ pool) ∙ pool_at desk t depth book doc c.topic.ensures (omega (arith, known, grades, length-map book.grades (λ (grade : Option ℤ). mark_of grade c.args.level)))) in
    record {
      topics =
          ap (map (λ (each : Vec Mark Global). each.items)) c.in_ok-push.ensures.items ∙ map-append (λ (each : Vec Mark Global). each.items) c.loop-t.topics.items (c.in_ok-marks.marks ∷ [])
          ∙ ap₂ (λ (rs : List (List Mark)) (r : List Mark). rs ++ r ∷ []) c.loop-t.invariant.topics row ∙ sym (rows_more desk depth c.args.level t desk.topics book c.topic.ensures (omega (arith, lt)));
      pools =
          ap (map (λ (each : Vec Bool Global). each.items)) c.in_ok-push-2.ensures.items ∙ map-append (λ (each : Vec Bool Global). each.items) c.loop-t.pools.items (c.in_ok-pool.pool ∷ [])
          ∙ ap₂ (λ (rs : List (List Bool)) (r : List Bool). rs ++ r ∷ []) c.loop-t.invariant.pools pool ∙ sym (pools_more (λ topic. map (is_pooled desk topic depth) (docs_of desk topic)) t);
    }
