use Rattle.std.proofs.Common.{◌≡◌, ◌++◌, drop, map}
use Rattle.line_forms.specs.Form.{text_of}
use Rattle.order_bundle.specs.Bundle.{pick_line}
use Rattle.order_bundle.proofs.writing.push_picks.Given as goal

-- what is written and what is left to write are all
abbrev pub invariant-loop-pick : goal.invariant-loop-pick
invariant-loop-pick l = l.out.items ++ text_of (map pick_line (drop l.pick-index l.picks)) ≡ l.fn.out.items ++ text_of (map pick_line l.picks)
