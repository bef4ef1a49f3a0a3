use Rattle.std.proofs.Common.{◌≡◌, ◌*◌, ◌^◌, ◌≤◌, take}
use Rattle.std.specs.Prelude.{unsigned_abs}
use Rattle.desk_model.specs.Verdict.{whole_sum}
use Rattle.order_certificate.specs.Evidence.{highs_of}
use Rattle.order_verifier.proofs.bounds.high_sum.Given as goal

abbrev pub invariant-loop-topic : goal.invariant-loop-topic
invariant-loop-topic g l = (l.sum ≡ whole_sum (highs_of (take l.topic (g.N.BoundRows.bounds l.numbers)))) × (unsigned_abs l.sum ≤ l.topic * 10 ^ 19)
