use Rattle.std.proofs.Common.{◌≡◌, ◌++◌, drop, map}
use Rattle.line_forms.specs.Form.{text_of}
use Rattle.order_bundle.specs.Bundle.{both_bounds_line}
use Rattle.order_bundle.proofs.writing.push_both_bounds.Given as goal

-- what is written and what is left to write are all
abbrev pub invariant-loop-bound : goal.invariant-loop-bound
invariant-loop-bound l = l.out.items ++ text_of (map both_bounds_line (drop l.bound-index l.bounds)) ≡ l.fn.out.items ++ text_of (map both_bounds_line l.bounds)
