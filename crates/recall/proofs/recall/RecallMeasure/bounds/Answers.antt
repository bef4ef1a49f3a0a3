use Rattle.std.proofs.Common.{◌≡◌, [], to_z, of_z, neg_ℤ, arith}
use Rattle.std.specs.Int.{w128}
use Rattle.std.proofs.lemmas.Int.{ints}
use Rattle.measure_core.specs.Laws.{AreMet}
use Rattle.measure_core.proofs.Exact.{IsRanking-empty}
use Rattle.recall.proofs.Ends.{counts_alone, counts_swapped, own_few, least_short, bounds_is}
use Rattle.recall.proofs.recall.RecallMeasure.bounds.Goals as goal

pub least_span-requires-clause-within : goal.least_span-requires-clause-within
least_span-requires-clause-within c =
    own_few _ _ _ _ _ _ _
    (counts_alone c.self.inside.k c.args.marks.now c.args.a.now c.prefix_documents-prefix.result c.all_documents-all.result c.requires.ranking
    (record { least = c.prefix_documents-prefix.ensures.least; most = c.prefix_documents-prefix.ensures.most }) (record { least = c.all_documents-all.ensures.least; most = c.all_documents-all.ensures.most }))

pub negate-requires : goal.negate-requires
negate-requires c =
    let counts =
    counts_alone c.self.inside.k c.args.marks.now c.args.a.now c.prefix_documents-prefix.result c.all_documents-all.result c.requires.ranking
    (record { least = c.prefix_documents-prefix.ensures.least; most = c.prefix_documents-prefix.ensures.most }) (record { least = c.all_documents-all.ensures.least; most = c.all_documents-all.ensures.most }) in
    let met : AreMet c.args.marks.now [] c.args.a.now = record { first = IsRanking-empty _; second = c.requires.ranking; small = c.requires.small } in
    least_short c.self.inside.k c.args.marks.now [] c.args.a.now c.least_span-2.result c.self.invariant met (c.least_span-2.ensures _ _ _ _ (counts_swapped c.self.inside.k c.args.marks.now c.args.a.now [] _ _ _ counts))

pub returns : goal.returns
returns c =
    let counts =
    counts_alone c.self.inside.k c.args.marks.now c.args.a.now c.prefix_documents-prefix.result c.all_documents-all.result c.requires.ranking
    (record { least = c.prefix_documents-prefix.ensures.least; most = c.prefix_documents-prefix.ensures.most }) (record { least = c.all_documents-all.ensures.least; most = c.all_documents-all.ensures.most }) in
    let lo : to_z w128 (of_z w128 c.least_span.result.lo) ≡ c.least_span.result.lo = omega (arith, ints) in
    let hi : to_z w128 (of_z w128 c.negate.result.hi) ≡ neg_ℤ c.least_span-2.result.lo = omega (arith, ints) in
    let k : c.args.self.now ≡ c.self.inside.k = cc in
    rw k (bounds_is c.self.inside.k c.args.marks.now c.args.a.now c.least_span.result c.least_span-2.result _ _ (c.least_span.ensures _ _ _ _ counts)
    (c.least_span-2.ensures _ _ _ _ (counts_swapped c.self.inside.k c.args.marks.now c.args.a.now [] _ _ _ counts)) lo hi)
