use Rattle.std.proofs.Common.{◌≡◌, length, take}
use Rattle.desk_model.proofs.Pooling.{HasFirst}
use Rattle.desk_model.proofs.topic_pool.add_first.Given as goal

abbrev pub invariant-loop-place : goal.invariant-loop-place
invariant-loop-place l = record {
  count : length l.pool ≡ length l.initial.pool;
  each : HasFirst l.initial.pool (take l.place l.docs) l.pool;
}
