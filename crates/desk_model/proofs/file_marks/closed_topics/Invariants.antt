use Rattle.std.proofs.Common.{◌≡◌, take, map}
use Rattle.std.specs.Prelude.{Bool, Vec, Some}
use Rattle.std.specs.List.{range_with_len}
use Rattle.std.specs.declared.alloc.Global.{Global}
use Rattle.desk_model.specs.Desk.{file_marks, is_pooled}
use Rattle.desk_model.specs.Pool.{docs_of}
use Rattle.desk_model.specs.declared.types.Mark.{Mark}
use Rattle.desk_model.specs.Closing.{closed_under}
use Rattle.desk_model.proofs.file_marks.closed_topics.Given as goal

abbrev pub invariant-loop-t : goal.invariant-loop-t
invariant-loop-t l = record {
  topics : map (λ (each : Vec Mark Global). each.items) l.topics.items ≡ closed_under l.desk (Some l.depth) (map (file_marks l.level) (take l.t l.desk.topics));
  pools : map (λ (each : Vec Bool Global). each.items) l.pools.items ≡ map (λ topic. map (is_pooled l.desk topic l.depth) (docs_of l.desk topic)) (range_with_len 0 l.t);
}
