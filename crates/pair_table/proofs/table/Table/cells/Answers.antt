use Rattle.std.proofs.Common.{◌≡◌, ◌+◌, ◌<◌, [], ◌∷◌, ◌++◌, take, length, Some, ap, sym, subst, ◌∙◌, arith}
use Rattle.std.specs.Prelude.{slice_get}
use Rattle.std.specs.List.{AllZip}
use Rattle.std.proofs.lemmas.Grind.{common_steps}
use Rattle.std.proofs.lemmas.Option.{slice_get-get_or}
use Rattle.pair_table.specs.Kept.{Kept, AreTopicNumbers, IsCellOf}
use Rattle.pair_table.proofs.Keeping.{cells_more}
use Rattle.pair_table.proofs.table.Table.cells.Goals as goal

pub cell_of-requires : goal.cell_of-requires
cell_of-requires g c =
    let t = c.loop-topic.topic in
    let table = c.self.inside in
    let within : t < length table.topics.items = grind (arith, common_steps) in
    let own = subst (AreTopicNumbers table.sums.runs) (sym c.index-kept.ensures) (c.self.invariant.numbers t c.index-kept.result.now within) in
    own.each_run ∙ ap (λ (k : Kept _). k.runs) c.self.view_is ∙ sym c.requires

pub loop-topic-preserved : goal.loop-topic-preserved
loop-topic-preserved g c =
    let pair = c.args.pair in
    let t = c.loop-topic.topic in
    let table = c.self.inside in
    let cells = c.loop-topic.cells.items in
    let kept = c.index-kept.result.now in
    let within : t < length table.topics.items = grind (arith, common_steps) in
    let there : slice_get table.topics.items t ≡ Some kept = slice_get-get_or table.topics.items t kept within ∙ ap Some (sym c.index-kept.ensures) in
    let before : AllZip (IsCellOf pair.runs pair.first pair.second) cells (take t table.topics.items) = subst (λ (k : Kept _). AllZip (IsCellOf pair.runs pair.first pair.second) cells (take t k.topics)) (sym c.self.view_is) c.loop-topic.invariant.beside in
    let after = cells_more pair.runs pair.first pair.second t cells table.topics.items c.cell_of.result kept before there c.cell_of.ensures in
    record {
      beside = subst (λ l. AllZip (IsCellOf pair.runs pair.first pair.second) l (take (t + 1) c.args.self.now.topics)) (sym c.in_ok-push.ensures.items)
          (subst (λ (k : Kept _). AllZip (IsCellOf pair.runs pair.first pair.second) (cells ++ c.cell_of.result ∷ []) (take (t + 1) k.topics)) c.self.view_is after);
    }
