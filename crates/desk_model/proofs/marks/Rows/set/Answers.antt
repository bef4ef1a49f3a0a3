use Rattle.std.proofs.Common.{◌<◌, length, refl, arith}
use Rattle.std.proofs.lemmas.List.{map-set}
use Rattle.std.proofs.lemmas.Grind.{common_steps}
use Rattle.desk_model.proofs.Nested.{inner}
use Rattle.desk_model.proofs.marks.Rows.set.Goals as goal

pub returns : goal.returns
returns c =
    let in_range : c.args.t < length c.self.inside.topics.items = grind (arith, common_steps) in
    let kept = inner c.self.inside.topics.items c.args.t c.index_mut-topic.result.now in_range c.index_mut-topic.ensures.value in
    rw (← c.self.view_is, map-set, kept) refl
