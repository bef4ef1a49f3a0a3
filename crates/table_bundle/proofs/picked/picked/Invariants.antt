use Rattle.std.proofs.Common.{◌≡◌, ℕ, ◌<◌, false, take, length, get_or}
use Rattle.table_bundle.specs.Drafts.{is_picked_by}
use Rattle.table_bundle.proofs.picked.picked.Given as goal

abbrev pub invariant-loop-claim : goal.invariant-loop-claim
invariant-loop-claim l = record {
  count : length l.flags.items ≡ l.docs;
  flags : (d : ℕ) → d < l.docs → get_or l.flags.items d false ≡ is_picked_by (take l.claim-index l.claims) l.topic d;
}
