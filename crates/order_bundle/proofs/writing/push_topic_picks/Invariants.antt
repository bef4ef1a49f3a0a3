use Rattle.std.proofs.Common.{◌≡◌, ◌++◌, drop, flat_map}
use Rattle.line_forms.specs.Form.{text_of}
use Rattle.order_bundle.specs.Bundle.{picks_lines}
use Rattle.order_bundle.proofs.writing.push_topic_picks.Given as goal

-- what is written and what is left to write are all
abbrev pub invariant-loop-lists : goal.invariant-loop-lists
invariant-loop-lists l = l.out.items ++ text_of (flat_map picks_lines (drop l.lists-index l.picks)) ≡ l.fn.out.items ++ text_of (flat_map picks_lines l.picks)
