use Rattle.std.proofs.Common.{◌≡◌, ◌^◌, to_z, of_z, arith, ap, ◌∙◌}
use Rattle.std.specs.Int.{w128}
use Rattle.std.proofs.lemmas.Int.{ints}
use Rattle.desk_model.specs.Score.{true_among}
use Rattle.measure_laws.proofs.LeastDifferences.{among_few}
use Rattle.topic_ends.proofs.Lows.{ceiling_is, count_few}
use Rattle.topic_ends.proofs.rprecision.upper_end.Goals as goal

pub ceiling-requires : goal.ceiling-requires
ceiling-requires g c = record {
  first = omega (arith, c.relevant_among.ensures.few);
  second = omega (arith, c.relevant_among-2.ensures.few);
  whole = omega (arith, c.relevant_count-depth.ensures, count_few (g.T.Relevance.truth c.args.relevant.now) (g.T.Relevance.universe c.args.relevant.now), c.requires.small);
}

pub returns : goal.returns
returns g c =
    let truth = g.T.Relevance.truth c.args.relevant.now in
    let e = c.relevant_count-depth.ensures in
    let same : to_z w128 (of_z w128 c.ceiling.result) ≡ c.ceiling.result = omega (arith, ints) in
    ceiling_is (10 ^ 18) _ _ _ c.relevant_among.result c.relevant_among-2.result c.relevant_count-depth.result _ c.ceiling.result (c.relevant_among.ensures.count ∙ ap (λ k. true_among truth k c.args.a.now) e) (c.relevant_among-2.ensures.count ∙ ap (λ k. true_among truth k c.args.b.now) e) e
    (among_few truth _ c.args.a.now) (among_few truth _ c.args.b.now) same c.ceiling.ensures
