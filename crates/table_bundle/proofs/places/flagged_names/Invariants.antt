use Rattle.std.proofs.Common.{◌≡◌, false, get_or}
use Rattle.pair_table.proofs.Listing.{passed}
use Rattle.table_bundle.proofs.places.flagged_names.Given as goal

abbrev pub invariant-loop-doc : goal.invariant-loop-doc
invariant-loop-doc l = record { made : l.names.items ≡ passed l.book.docs (λ doc. get_or l.flags doc false) l.doc }
