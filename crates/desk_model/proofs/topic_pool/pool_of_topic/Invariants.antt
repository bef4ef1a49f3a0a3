use Rattle.std.proofs.Common.{◌≡◌, ℕ, ◌<◌, List, [], length, take, get_or, false}
use Rattle.std.specs.List.{list_any}
use Rattle.desk_model.specs.Ranking.{is_in}
use Rattle.desk_model.proofs.topic_pool.pool_of_topic.Given as goal

abbrev pub invariant-loop-run : goal.invariant-loop-run
invariant-loop-run l = record {
  count : length l.pool.items ≡ length l.initial.pool.items;
  each : (doc : ℕ) → doc < length l.pool.items → get_or l.pool.items doc false ≡ list_any (λ (rankings : List (List ℕ)). is_in (take l.depth (get_or rankings l.topic [])) doc) (take l.run l.desk.rankings);
}
