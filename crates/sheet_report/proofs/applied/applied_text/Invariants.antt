use Rattle.std.proofs.Common.{◌≡◌}
use Rattle.sheet_report.specs.Applied.{all_under}
use Rattle.sheet_report.proofs.Topics.{text_to}
use Rattle.sheet_report.proofs.applied.applied_text.Given as goal

abbrev pub invariant-loop-topic : goal.invariant-loop-topic
invariant-loop-topic l = l.out.items ≡ text_to l.desk.topics (all_under l.desk l.sheet) l.topic
