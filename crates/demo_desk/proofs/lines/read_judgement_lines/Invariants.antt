use Rattle.std.proofs.Common.{◌≡◌, ◌++◌, length}
use Rattle.demo_desk.proofs.lines.read_judgement_lines.Given as goal

abbrev pub invariant-lines : goal.invariant-lines
invariant-lines l = l.reader ++ l.rest ≡ l.text

abbrev pub decreases-lines : goal.decreases-lines
decreases-lines l = length l.rest
