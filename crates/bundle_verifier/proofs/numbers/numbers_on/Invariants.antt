use Rattle.std.proofs.Common.{◌≡◌, length}
use Rattle.bundle_verifier.specs.Rows.{AreNumbersOf}
use Rattle.bundle_verifier.proofs.numbers.numbers_on.Given as goal

abbrev pub invariant-loop-topic : goal.invariant-loop-topic
invariant-loop-topic l = record {
  count : length l.numbers.items ≡ l.topic;
  known : AreNumbersOf l.desk l.topics l.numbers.items;
}
