use Rattle.std.proofs.Common.{map, subst, arith}
use Rattle.std.specs.Prelude.{IsPermutation}
use Rattle.std.proofs.lemmas.List.Sorted.{IsPermutation-map}
use Rattle.topic_universe.specs.Entry.{row_of}
use Rattle.topic_universe.proofs.Ranks.{entries_in_order}
use Rattle.topic_universe.proofs.entry.sorted.Goals as goal

pub returns-clause-once : goal.returns-clause-once
returns-clause-once c = subst (λ rows. IsPermutation rows (map row_of c.sort.new.self.items)) c.in_ok-sorted.ensures (IsPermutation-map row_of _ c.sort.new.self.items c.in_ok-sort.ensures.permutation)

pub returns-clause-ordered : goal.returns-clause-ordered
returns-clause-ordered c = entries_in_order c.sort.new.self.items (λ k e lt. c.in_ok-sort.ensures.sorted k e (omega arith) lt)
