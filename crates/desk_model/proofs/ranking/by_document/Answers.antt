use Rattle.std.proofs.Common.{rules}
use Rattle.std.proofs.lemmas.List.Sorted.{IsNonDecreasingBy-from_sort_by_key}
use Rattle.desk_model.specs.declared.placed.Placed.{Placed}
use Rattle.desk_model.proofs.Places.{sorted_ascends}
use Rattle.desk_model.proofs.ranking.by_document.Goals as goal

pub returns-clause-ascending : goal.returns-clause-ascending
returns-clause-ascending c =
    let moved = rw c.in_ok-places.ensures at c.sort_unstable_by_key.ensures.permutation in
    let risen = IsNonDecreasingBy-from_sort_by_key (λ (p : Placed). p.doc) _ c.sort_unstable_by_key.ensures.sorted (λ a r f called. search rules) in
    sorted_ascends c.args.docs.now _ c.requires.distinct moved risen
