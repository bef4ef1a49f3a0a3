use Rattle.std.proofs.Common.{◌≡◌, ◌*◌, length, map, take}
use Rattle.name_table.specs.declared.blocked_names.TheConstants.{BLOCK_NAMES}
use Rattle.desk_model.specs.FileGrades.{grades_of, AreWhole}
use Rattle.file_rows.specs.Grouped.{rows_at}
use Rattle.topics_pool.specs.Rows.{grade_in}
use Rattle.topics_pool.proofs.book.whole_blocks.Given as goal

abbrev pub invariant-loop-block : goal.invariant-loop-block
invariant-loop-block l = record {
  count : length l.blocks.items ≡ l.block;
  whole : AreWhole l.blocks.items;
  grades : grades_of l.blocks.items ≡ map (λ doc. grade_in (rows_at l.qrels l.t) doc.0.now) (take (BLOCK_NAMES * l.block) l.docs);
}
