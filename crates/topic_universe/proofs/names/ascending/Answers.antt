use Rattle.std.proofs.Common.{◌≡◌, true, sym, map, ap, ◌∙◌, subst}
use Rattle.std.specs.Prelude.{All, IsPermutation}
use Rattle.desk_model.specs.Name.{is_name, AreAscending}
use Rattle.topic_universe.proofs.Placing.{name_of, sorted_are_named}
use Rattle.topic_universe.proofs.names.ascending.Goals as goal

pub copied-requires : goal.copied-requires
copied-requires c = subst (All (λ pair. is_name pair.0.now ≡ true)) (sym c.deref.ensures.value) (sorted_are_named c.args.names.now c.in_ok-pairs.pairs.items c.in_ok-pairs.ensures c.requires)

pub returns-clause-ascending : goal.returns-clause-ascending
returns-clause-ascending c = subst AreAscending (sym (c.in_ok-copied.ensures ∙ ap (map name_of) c.deref.ensures.value)) c.in_ok-pairs.ensures.ascending

pub returns-clause-moved : goal.returns-clause-moved
returns-clause-moved c = subst (IsPermutation c.args.names.now) (sym (c.in_ok-copied.ensures ∙ ap (map name_of) c.deref.ensures.value)) c.in_ok-pairs.ensures.moved
