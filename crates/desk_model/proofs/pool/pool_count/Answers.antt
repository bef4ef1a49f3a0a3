use Rattle.std.proofs.Common.{◌≡◌, List, [], length, get_or, true, false, sym, ap, ◌∙◌, subst, arith}
use Rattle.std.specs.Prelude.{slice_get, filter}
use Rattle.std.specs.List.{range_with_len}
use Rattle.std.specs.Option.{option_map_or}
use Rattle.desk_model.specs.declared.pool.PoolCount.{PoolCount}
use Rattle.std.proofs.lemmas.Option.{get_or_from_slice_get}
use Rattle.desk_model.specs.Book.{Book}
use Rattle.desk_model.specs.declared.types.Mark.{Mark}
use Rattle.desk_model.specs.Desk.{is_pooled}
use Rattle.desk_model.proofs.Nested.{zipped_at, length-zipped}
use Rattle.std.proofs.lemmas.List.{append-nil}
use Rattle.desk_model.specs.Pool.{IsCountOf}
use Rattle.desk_model.proofs.Pools.{filter_next, filter_few, counted}
use Rattle.desk_model.proofs.pool.pool_count.Goals as goal
use Rattle.desk_model.proofs.pool.pool_count.Goals.{then-is_in_pool, else-is_in_pool}

pub topic-marks-requires : goal.topic-marks-requires
topic-marks-requires c =
    let long = length-zipped (λ (book : Book) (topic : List Mark). length topic ≡ length book.docs) c.args.desk.now.topics c.args.marks.now.rows c.requires.marks in
    omega (arith, long, c.requires.topic, ap length c.rows.ensures)

pub bounds-marks-doc : goal.bounds-marks-doc
bounds-marks-doc c =
    let over = zipped_at (λ (book : Book) (topic : List Mark). length topic ≡ length book.docs) c.args.desk.now.topics c.args.marks.now.rows c.args.topic c.topic.result.now [] c.requires.marks c.topic.ensures in
    let there = ap (λ rows. slice_get rows c.args.topic) (sym c.rows.ensures) ∙ c.topic-marks.ensures in
    let here = ap length (get_or_from_slice_get c.args.marks.now.rows c.args.topic c.topic-marks.result.now [] there) in
    omega (arith, over, here, c.loop-doc-test.true, c.doc_count-doc-end.ensures.count)

pub with-count-requires-clause-size : goal.with-count-requires-clause-size
with-count-requires-clause-size c =
    let few = filter_few (is_pooled c.args.desk.now c.args.topic c.args.depth) c.loop-doc.doc in
    omega (arith, few, c.loop-doc.invariant.size, c.loop-doc-test.true, c.doc_count-doc-end.ensures.count, c.doc_count-doc-end.ensures.book.small)

pub loop-doc-preserved : goal.loop-doc-preserved
loop-doc-preserved c =
    let pooled = is_pooled c.args.desk.now c.args.topic c.args.depth in
    let doc = c.loop-doc.doc in
    let marks = c.topic-marks.result.now in
    let count = c.if-is_in_pool.count in
    elim c.if-is_in_pool.branch [
      | then-is_in_pool w ↦
          let next = filter_next pooled doc true (sym c.is_in_pool.ensures ∙ w.if-is_in_pool.true) in
          subst (λ docs. IsCountOf docs marks count) (sym next) (counted (filter pooled (range_with_len 0 doc)) marks c.loop-doc.count count doc c.loop-doc.invariant
          (ap (λ (k : PoolCount). k.size) w.count-is ∙ w.with-count.ensures.size)
          (ap (λ (k : PoolCount). k.judged) w.count-is ∙ w.with-count.ensures.judged)
          (ap (λ (k : PoolCount). k.relevant) w.count-is ∙ w.with-count.ensures.relevant)
          (ap (λ (k : PoolCount). k.unjudged) w.count-is ∙ w.with-count.ensures.unjudged))
      | else-is_in_pool w ↦
          let next = filter_next pooled doc false (sym c.is_in_pool.ensures ∙ w.if-is_in_pool.false) ∙ append-nil (filter pooled (range_with_len 0 doc)) in
          subst (λ docs. IsCountOf docs marks count) (sym next) (subst (IsCountOf (filter pooled (range_with_len 0 doc)) marks) (sym w.count-is) c.loop-doc.invariant)
    ]

pub returns : goal.returns
returns c =
    let topics = c.args.desk.now.topics in
    let pooled = is_pooled c.args.desk.now c.args.topic c.args.depth in
    let whole : length c.topic.result.now.docs ≡ c.loop-doc.doc = omega (arith, c.doc_count-doc-end.ensures.count, c.loop-doc-test.false, c.loop-doc.auto.doc-end) in
    let size : option_map_or (λ (book : Book). length book.docs) (slice_get topics c.args.topic) 0 ≡ c.loop-doc.doc = ap (λ o. option_map_or (λ (book : Book). length book.docs) o 0) c.topic.ensures ∙ whole in
    let there = ap (λ rows. slice_get rows c.args.topic) (sym c.rows.ensures) ∙ c.topic-marks.ensures in
    let here = get_or_from_slice_get c.args.marks.now.rows c.args.topic c.topic-marks.result.now [] there in
    subst (λ n. IsCountOf (filter pooled (range_with_len 0 n)) (get_or c.args.marks.now.rows c.args.topic []) c.loop-doc.count) (sym size)
    (subst (λ marks. IsCountOf (filter pooled (range_with_len 0 c.loop-doc.doc)) marks c.loop-doc.count) (sym here) c.loop-doc.invariant)
