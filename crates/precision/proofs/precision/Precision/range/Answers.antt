use Rattle.std.proofs.Common.{◌≡◌, ◌+◌, pos, to_z, of_z, w64, arith}
use Rattle.std.proofs.lemmas.Int.{ints}
use Rattle.precision.proofs.Ends.{bounds_read}
use Rattle.precision.proofs.precision.Precision.range.Goals as goal

pub returns-clause-bounds : goal.returns-clause-bounds
returns-clause-bounds c =
    let low : to_z w64 (of_z w64 c.least.result) ≡ pos c.prefix_documents-prefix.result.relevant = omega (arith, ints) in
    let high : to_z w64 (of_z w64 c.most.result) ≡ pos (c.prefix_documents-prefix.result.relevant + c.prefix_documents-prefix.result.unjudged) = omega (arith, ints) in
    let k : c.args.self.now ≡ c.self.inside.k = cc in
    rw k (bounds_read c.self.inside.k c.args.marks.now c.args.run.now _ _ _ _ (omega arith) c.requires low high c.prefix_documents-prefix.ensures.least c.prefix_documents-prefix.ensures.most)
