use Rattle.std.proofs.Common.{◌<◌, length, map, get_or, [], sym, subst, arith}
use Rattle.std.proofs.lemmas.List.{length-map}
use Rattle.std.proofs.lemmas.Option.{slice_get_within}
use Rattle.std.proofs.lemmas.Result.{IfOk-weaker}
use Rattle.desk_model.specs.Book.{Book}
use Rattle.desk_model.specs.Pool.{pool_of, IsCountOf}
use Rattle.pair_table.proofs.Listing.{there_number}
use Rattle.session_replies.specs.Replies.{IsPoolReply}
use Rattle.session_replies.specs.State.{setting_of}
use Rattle.session_replies.proofs.telling.pool.Goals as goal

pub pool_count-count-requires-clause-topic : goal.pool_count-count-requires-clause-topic
pool_count-count-requires-clause-topic c =
    let topics = c.args.given.now.desk.now.topics in
    let names = map (λ (book : Book). book.name) topics in
    let within : c.in-Some.topic < length names = slice_get_within names c.in-Some.topic c.args.topic.now (there_number names c.args.topic.now c.in-Some.topic (sym c.in-Some.ensures)) in
    omega (arith, within, length-map topics (λ (book : Book). book.name))

pub returns-in-Some : goal.returns-in-Some
returns-in-Some c =
    let s = setting_of c.args.given.now in
    let topic = c.in-Some.topic in
    let count = c.pool_count-count.result in
    IfOk-weaker c.pool_line.result _ _
    (λ text line changes marked.
    subst (λ o. IsPoolReply s changes c.args.depth o text.items) c.in-Some.ensures
    (count, subst (λ marks. IsCountOf (pool_of s.desk topic c.args.depth) (get_or marks topic []) count) marked c.pool_count-count.ensures, line))
    c.pool_line.ensures
