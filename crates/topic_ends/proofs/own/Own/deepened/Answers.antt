use Rattle.std.proofs.Common.{◌+◌, take}
use Rattle.topic_ends.proofs.OwnSteps.{own_swapped}
use Rattle.topic_ends.proofs.own.Own.deepened.Goals as goal

pub with_document-requires-2-clause-own : goal.with_document-requires-2-clause-own
with_document-requires-2-clause-own c =
    own_swapped c.args.pair.now.marks.now (take (c.args.depth + 1) c.args.pair.now.a.now) (take c.args.depth c.args.pair.now.b.now) c.with_document.result c.swapped-first.result c.swapped-first.ensures.first c.swapped-first.ensures.second c.with_document.ensures

pub returns : goal.returns
returns c =
    own_swapped c.args.pair.now.marks.now (take (c.args.depth + 1) c.args.pair.now.b.now) (take (c.args.depth + 1) c.args.pair.now.a.now) c.with_document-2.result c.swapped.result c.swapped.ensures.first c.swapped.ensures.second c.with_document-2.ensures
