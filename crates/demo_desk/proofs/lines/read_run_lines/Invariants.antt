use Rattle.std.proofs.Common.{◌≡◌, ◌++◌, None, length}
use Rattle.demo_desk.proofs.lines.read_run_lines.Given as goal

abbrev pub invariant-lines : goal.invariant-lines
invariant-lines l = record {
  fed : l.reader.fed ++ l.rest ≡ l.text;
  given : l.reader.given ≡ None;
  used : l.reader.used ≡ l.fn.used;
  qrels : l.reader.qrels ≡ l.qrels;
}

abbrev pub decreases-lines : goal.decreases-lines
decreases-lines l = length l.rest
