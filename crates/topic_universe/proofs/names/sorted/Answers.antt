use Rattle.std.proofs.Common.{rules}
use Rattle.std.specs.Ordering.{is_lt}
use Rattle.std.proofs.lemmas.Cmp.{nat_list_cmp_total}
use Rattle.std.proofs.lemmas.List.Sorted.{ranks_by, answers_always}
use Rattle.desk_model.specs.Name.{name_cmp}
use Rattle.topic_universe.proofs.Placing.{name_of, are_sorted}
use Rattle.topic_universe.proofs.names.sorted.Goals as goal

pub returns : goal.returns
returns c =
    are_sorted c.args.names.now c.in_ok-pairs.pairs.items c.sort_unstable_by.new.self.items c.requires c.in_ok-pairs.ensures.names c.in_ok-pairs.ensures.numbers c.sort_unstable_by.ensures.permutation
    (c.sort_unstable_by.ensures.sorted (λ x y. is_lt (name_cmp (name_of x) (name_of y))) (ranks_by nat_list_cmp_total name_of) (answers_always _ _ _ (λ f a r g called. search rules)))
