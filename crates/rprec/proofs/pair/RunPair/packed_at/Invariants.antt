use Rattle.std.proofs.Common.{◌≡◌}
use Rattle.rprec.specs.Packed.{packed_of}
use Rattle.rprec.specs.Sums.{prefixes}
use Rattle.rprec.proofs.pair.RunPair.packed_at.Given as goal

abbrev pub invariant-loop-place : goal.invariant-loop-place
invariant-loop-place l = l.packed ≡ packed_of (prefixes l.self l.place)
