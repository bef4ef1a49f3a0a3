use Rattle.std.proofs.Common.{◌≡◌, ◌+◌, take}
use Rattle.desk_model.specs.Placed.{placed_from}
use Rattle.desk_model.proofs.ranking.placed.Given as goal

abbrev pub invariant-loop-doc : goal.invariant-loop-doc
invariant-loop-doc l = record { places : l.places.items ≡ placed_from 1 (take l.doc-index l.docs); rank : l.rank ≡ 1 + l.doc-index }
