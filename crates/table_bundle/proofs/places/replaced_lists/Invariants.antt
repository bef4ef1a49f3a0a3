use Rattle.std.proofs.Common.{◌≡◌, take, map}
use Rattle.std.specs.List.{zip}
use Rattle.table_bundle.specs.Drafts.{replaced_picks}
use Rattle.table_bundle.proofs.places.replaced_lists.Given as goal

abbrev pub invariant-loop-topic : goal.invariant-loop-topic
invariant-loop-topic l = record { made : l.made.items ≡ map replaced_picks (take l.topic (zip l.picks l.places)) }
