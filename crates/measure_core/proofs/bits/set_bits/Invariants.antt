use Rattle.std.proofs.Common.{take}
use Rattle.measure_core.specs.Bits.{AreBitsIn}
use Rattle.measure_core.proofs.bits.set_bits.Given as goal

abbrev pub invariant-loop-doc : goal.invariant-loop-doc
invariant-loop-doc l = AreBitsIn (take l.doc-index l.doc-items) l.marks l.bits
