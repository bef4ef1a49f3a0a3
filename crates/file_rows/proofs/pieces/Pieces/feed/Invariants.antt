use Rattle.std.proofs.Common.{◌-◌, ◌≤◌, ◌++◌, List, ℕ, length, take}
use Rattle.file_rows.specs.Pieces.{HasFed}
use Rattle.file_rows.proofs.pieces.Pieces.feed.Given as goal

abbrev pub invariant-loop-at : goal.invariant-loop-at
invariant-loop-at g l = record {
  within : l.at ≤ length l.piece;
  same : g.R.LineReader.same l.initial.self.reader l.self.reader;
  ready : g.R.LineReader.is_ready l.self.reader;
  fed : (fed : List ℕ) → HasFed g.R.LineReader.has_read g.R.LineReader.stopped l.initial.self.reader l.initial.self.unended fed →
      HasFed g.R.LineReader.has_read g.R.LineReader.stopped l.self.reader l.self.unended (fed ++ take l.at l.piece);
}

abbrev pub decreases-loop-at : goal.decreases-loop-at
decreases-loop-at g l = length l.piece - l.at
