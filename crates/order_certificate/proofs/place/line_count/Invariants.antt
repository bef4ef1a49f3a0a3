use Rattle.order_certificate.proofs.LinesOfPlaces.{AreCounted}
use Rattle.order_certificate.proofs.place.line_count.Given as goal

abbrev pub invariant-loop-witness : goal.invariant-loop-witness
invariant-loop-witness l = AreCounted l.witnesses l.witness-index l.lines
