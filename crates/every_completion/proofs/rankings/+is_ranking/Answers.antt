use Rattle.std.proofs.Common.{arith, sym, ◌∙◌}
use Rattle.every_completion.proofs.Listed.{none_from, ranked_from}
use Rattle.every_completion.proofs.rankings.+is_ranking.Goals as goal

pub returns-in-empty : goal.returns-in-empty
returns-in-empty t c _ = none_from c.args.universe c.args.docs.now c.in-empty.len_below

pub returns-else-contains : goal.returns-else-contains
returns-else-contains t c holds =
    ranked_from c.args.universe c.args.docs.now (omega arith) c.requires c.if-first-universe.false (sym c.contains.ensures.value ∙ c.if-contains.false) (c.is_ranking.ensures holds)
