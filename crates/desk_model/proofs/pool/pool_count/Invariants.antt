use Rattle.std.specs.Prelude.{filter}
use Rattle.std.specs.List.{range_with_len}
use Rattle.desk_model.specs.Desk.{is_pooled}
use Rattle.desk_model.specs.Pool.{IsCountOf}
use Rattle.desk_model.proofs.pool.pool_count.Given as goal

abbrev pub invariant-loop-doc : goal.invariant-loop-doc
invariant-loop-doc l = IsCountOf (filter (is_pooled l.desk l.topic l.depth) (range_with_len 0 l.doc)) l.marks l.count
