use Rattle.std.proofs.Common.{arith}
use Rattle.std.proofs.lemmas.Int.{ints}
use Rattle.topic_counts.proofs.Spans.{span_same}
use Rattle.graded_rbp.proofs.sums.span_plus.Goals as goal

pub returns : goal.returns
returns c = span_same _ _ _ _ (omega (arith, ints)) (omega (arith, ints))
