use Rattle.std.proofs.Common.{◌≡◌, ◌≤◌, drop, vec_len}
use Rattle.run_reader.specs.Run.{IsWithinLimits}
use Rattle.topics_pool.specs.Rows.{total_rows}
use Rattle.desk_outside.specs.Calls.{opened_in}
use Rattle.desk_files.specs.Load.{used_by, runs_in_turn}
use Rattle.desk_files.specs.Reads.{ToEnd, ReadsFiles}
use Rattle.desk_files.proofs.Opening.{OpensSoFar}
use Rattle.desk_files.proofs.Runs.{Reaches}
use Rattle.desk_files.proofs.load.load_runs.Given as goal

abbrev pub invariant-loop-word : goal.invariant-loop-word
invariant-loop-word g l = record {
  files : (g.F.Shelf.state l.files).files ≡ (g.F.Shelf.state l.fn.files).files;
  later : (g.F.Shelf.state l.fn.files).faults ≤ (g.F.Shelf.state l.files).faults;
  within : IsWithinLimits l.used;
  count : vec_len l.runs ≡ l.word-index;
  rows : l.used.rows ≡ total_rows l.runs.items;
  opened : OpensSoFar (runs_in_turn l.qrels) (g.F.Shelf.state l.fn.files).files (used_by l.qrels) l.words l.used (drop l.word-index l.words) (opened_in (g.F.Shelf.state l.fn.files).calls) (opened_in (g.F.Shelf.state l.files).calls);
  left : Reaches (g.F.Shelf.state l.fn.files).files l.qrels (used_by l.qrels) l.words l.used l.runs.items (drop l.word-index l.words);
  reads : ReadsFiles ToEnd (g.F.Shelf.state l.fn.files).calls (g.F.Shelf.state l.files).calls;
}
