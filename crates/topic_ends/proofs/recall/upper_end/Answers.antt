use Rattle.std.proofs.Common.{◌≡◌, ◌^◌, to_z, of_z, arith}
use Rattle.std.specs.Int.{w128}
use Rattle.std.proofs.lemmas.Int.{ints}
use Rattle.measure_laws.proofs.Scores.{among_count}
use Rattle.topic_ends.proofs.Lows.{ceiling_is, count_few}
use Rattle.topic_ends.proofs.recall.upper_end.Goals as goal

pub ceiling-requires : goal.ceiling-requires
ceiling-requires g c = record {
  first = omega (arith, c.relevant_among.ensures.few);
  second = omega (arith, c.relevant_among-2.ensures.few);
  whole = omega (arith, c.relevant_count.ensures, count_few (g.T.Relevance.truth c.args.relevant.now) (g.T.Relevance.universe c.args.relevant.now), c.requires.small);
}

pub returns : goal.returns
returns g c =
    let truth = g.T.Relevance.truth c.args.relevant.now in
    let n = g.T.Relevance.universe c.args.relevant.now in
    let same : to_z w128 (of_z w128 c.ceiling.result) ≡ c.ceiling.result = omega (arith, ints) in
    ceiling_is (10 ^ 18) _ _ _ c.relevant_among.result c.relevant_among-2.result c.relevant_count.result _ c.ceiling.result c.relevant_among.ensures.count c.relevant_among-2.ensures.count c.relevant_count.ensures
    (among_count truth c.args.k n c.args.a.now c.requires.first) (among_count truth c.args.k n c.args.b.now c.requires.second) same c.ceiling.ensures
