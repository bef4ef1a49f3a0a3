use Rattle.std.proofs.Common.{◌≤◌, ◌<◌, length, refl, sym, subst}
use Rattle.std.specs.Prelude.{All}
use Rattle.std.specs.List.{IsDistinct}
use Rattle.std.specs.Str.{bytes_eq}
use Rattle.desk_model.specs.Ranking.{IsRanking}
use Rattle.run_reader.specs.Run.{rows_on_topic}
use Rattle.run_reader.specs.declared.limits.TheConstants.{MOST_RANKS}
use Rattle.topic_universe.specs.Order.{IsTrecOrder}
use Rattle.topic_universe.specs.Universe.{retrieved}
use Rattle.topics_pool.specs.Rows.{doc_names}
use Rattle.topics_pool.proofs.Ranked.{is_ranking}
use Rattle.topics_pool.proofs.rankings.topic_ranking.Goals as goal

pub new-requires : goal.new-requires
new-requires c =
    let run = c.args.run.now in
    let book = c.args.book.now in
    let docs = c.in_ok-docs.docs.items in
    let order = subst (λ ds. IsTrecOrder (rows_on_topic run book.name) (doc_names book ds)) (sym c.in_ok-docs.ensures) c.requires.order in
    let within = subst (All (λ doc. doc < length book.docs)) (sym c.in_ok-docs.ensures) c.requires.within in
    let distinct = subst (λ n. IsDistinct bytes_eq (retrieved n run)) c.name.ensures.name c.names_on.ensures.distinct in
    let few = subst (λ n. length (rows_on_topic run n) ≤ MOST_RANKS) c.name.ensures.name c.names_on.ensures.few in
    subst (λ n. IsRanking n docs) (sym c.doc_count.ensures.count) (is_ranking run book (doc_names book docs) docs order refl within distinct few)
