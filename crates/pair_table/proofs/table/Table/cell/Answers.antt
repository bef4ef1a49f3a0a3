use Rattle.std.proofs.Common.{◌<◌, length, sym, subst, ◌∙◌, arith}
use Rattle.pair_table.specs.Kept.{Kept, AreTopicNumbers}
use Rattle.pair_table.proofs.table.Table.cell.Goals as goal

pub index-kept-requires : goal.index-kept-requires
index-kept-requires g c =
    let within : c.args.topic < length c.self.inside.topics.items = subst (λ (k : Kept _). c.args.topic < length k.topics) (sym c.self.view_is) c.requires.topic in
    omega (arith, within, c.self.inside.topics.ok.0)

pub cell_of-requires : goal.cell_of-requires
cell_of-requires g c =
    let table = c.self.inside in
    let within : c.args.topic < length table.topics.items = subst (λ (k : Kept _). c.args.topic < length k.topics) (sym c.self.view_is) c.requires.topic in
    (subst (AreTopicNumbers table.sums.runs) (sym c.index-kept.ensures) (c.self.invariant.numbers c.args.topic c.index-kept.result.now within)).each_run ∙ sym c.runs.ensures.runs
