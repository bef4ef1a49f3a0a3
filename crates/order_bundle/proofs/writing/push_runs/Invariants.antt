use Rattle.std.proofs.Common.{◌≡◌, ◌++◌, drop, map}
use Rattle.line_forms.specs.Form.{text_of}
use Rattle.order_bundle.specs.Bundle.{run_line}
use Rattle.order_bundle.proofs.writing.push_runs.Given as goal

-- what is written and what is left to write are all
abbrev pub invariant-loop-run : goal.invariant-loop-run
invariant-loop-run l = l.out.items ++ text_of (map run_line (drop l.run-index l.runs)) ≡ l.fn.out.items ++ text_of (map run_line l.runs)
