use Rattle.std.proofs.Common.{◌≡◌, ◌≤◌, List, ℕ, take, map}
use Rattle.std.specs.Prelude.{All, Vec}
use Rattle.std.specs.List.{AllZip}
use Rattle.std.specs.declared.alloc.Global.{Global}
use Rattle.desk_model.specs.Book.{IsBook}
use Rattle.run_reader.specs.declared.limits.TheConstants.{MOST_RUN_ROWS}
use Rattle.topics_pool.specs.Rows.{topic_names, total_rows, IsBookOf}
use Rattle.topics_pool.specs.Made.{AreRankingsOf, HasRowsFrom}
use Rattle.topics_pool.proofs.book.books_of.Given as goal

abbrev pub invariant-loop-name : goal.invariant-loop-name
invariant-loop-name l = record {
  names : topic_names l.books.items ≡ take l.name-index l.names;
  books : All (λ book. IsBook book) l.books.items;
  of_rows : All (IsBookOf l.qrels l.fn.runs) l.books.items;
  rankings : AllZip (AreRankingsOf l.books.items) l.fn.runs (map (λ (each : Vec (List ℕ) Global). each.items) l.rankings);
  left : AllZip (HasRowsFrom l.names l.name-index) l.fn.runs l.runs;
  rows : total_rows l.runs ≤ MOST_RUN_ROWS;
}
