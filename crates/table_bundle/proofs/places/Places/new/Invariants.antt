use Rattle.std.proofs.Common.{◌≡◌, false, length, get_or}
use Rattle.std.specs.Prelude.{filter}
use Rattle.std.specs.List.{range_with_len}
use Rattle.table_bundle.specs.Drafts.{places_where}
use Rattle.table_bundle.proofs.places.Places.new.Given as goal

abbrev pub invariant-loop-flag : goal.invariant-loop-flag
invariant-loop-flag l = record {
  made : l.places.items ≡ places_where (λ doc. get_or l.flags doc false) l.flag-index;
  before : l.before ≡ length (filter (λ doc. get_or l.flags doc false) (range_with_len 0 l.flag-index));
}
