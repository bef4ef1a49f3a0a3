use Rattle.std.proofs.Common.{◌≡◌, take}
use Rattle.table_bundle.specs.Drafts.{replaced_list}
use Rattle.table_bundle.proofs.places.Places.replaced.Given as goal

abbrev pub invariant-loop-doc : goal.invariant-loop-doc
invariant-loop-doc l = record { made : l.made.items ≡ replaced_list l.self (take l.doc-index l.picks) }
