use Rattle.std.proofs.Common.{ap, ◌∙◌}
use Rattle.rprec.specs.Sums.{prefixes}
use Rattle.rprec.proofs.Pairs.{beyond_longest, unpacked_pair}
use Rattle.rprec.proofs.pair.RunPair.prefixes_at.Goals as goal

pub returns : goal.returns
returns c =
    let p = c.args.self.now in
    c.unpacked.ensures ∙ unpacked_pair p c.min.result c.packed_at.result c.args.self.now.is c.packed_at.ensures ∙ ap (prefixes p) c.min.ensures ∙ beyond_longest p c.args.depth c.args.self.now.is
