use Rattle.std.proofs.Common.{◌≡◌, ℕ, List, [], length, map, take, get_or, ap, sym, refl, ◌∙◌, arith}
use Rattle.std.specs.Prelude.{slice_get}
use Rattle.std.specs.List.{list_any, range_with_len}
use Rattle.std.specs.Option.{option_map_or}
use Rattle.std.proofs.lemmas.List.{take_all}
use Rattle.desk_model.specs.Book.{Book}
use Rattle.desk_model.specs.Desk.{is_pooled}
use Rattle.desk_model.specs.Ranking.{is_in}
use Rattle.desk_model.proofs.Pooling.{listed}
use Rattle.desk_model.proofs.topic_pool.pool_of_topic.Goals as goal

pub returns : goal.returns
returns c =
    let desk = c.args.desk.now in
    let pool = c.loop-run.pool.items in
    let test = λ (doc : ℕ) (rankings : List (List ℕ)). is_in (take c.args.depth (get_or rankings c.args.topic [])) doc in
    let whole : length c.topic.result.now.docs ≡ length pool = omega (arith, c.loop-run.invariant.count, c.in_ok-pool.ensures.len, c.doc_count.ensures.count) in
    let size : option_map_or (λ (book : Book). length book.docs) (slice_get desk.topics c.args.topic) 0 ≡ length pool = ap (λ o. option_map_or (λ (book : Book). length book.docs) o 0) c.topic.ensures ∙ whole in
    let all : take c.loop-run.run desk.rankings ≡ desk.rankings = take_all c.loop-run.run desk.rankings (omega (arith, c.loop-run-test.false, c.run_count-run-end.ensures.count, c.run_count-run-end.ensures.desk.ranked)) in
    listed (is_pooled desk c.args.topic c.args.depth) (length pool) pool refl (λ doc lt. c.loop-run.invariant.each doc lt ∙ ap (list_any (test doc)) all)
    ∙ ap (λ n. map (is_pooled desk c.args.topic c.args.depth) (range_with_len 0 n)) (sym size)
