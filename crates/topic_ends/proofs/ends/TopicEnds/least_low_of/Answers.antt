use Rattle.std.proofs.Common.{◌≡◌, to_z, of_z, neg_ℤ, arith, ap, ◌∙◌, subst, sym}
use Rattle.std.specs.Int.{w128}
use Rattle.std.proofs.lemmas.Int.{ints}
use Rattle.desk_model.specs.MeasureText.{IsMeasure}
use Rattle.desk_model.specs.declared.types.MeasureName.{MeasureName}
use Rattle.measure_laws.specs.Shares.{IsModest}
use Rattle.topic_ends.specs.Kinds.{name_of}
use Rattle.topic_ends.specs.Least.{IsLeastLow}
use Rattle.topic_ends.proofs.Named.{ends_exist, kind_measure, low_is, low_modest, most_is}
use Rattle.topic_ends.proofs.ends.TopicEnds.least_low_of.Goals as goal

pub returns-clause-low : goal.returns-clause-low
returns-clause-low c =
    let same : to_z w128 (of_z w128 c.least_low.result) ≡ c.least_low.result = omega (arith, ints) in
    let low = subst (λ (m : MeasureName). IsLeastLow m c.args.marks.now c.args.a.now.ranking.now c.args.b.now.ranking.now c.least_low.result) c.self.view_is c.least_low.ensures in
    λ ends h. same ∙ low_is c.args.self.now c.args.marks.now c.args.a.now.ranking.now c.args.b.now.ranking.now c.least_low.result ends low h

pub returns-clause-most : goal.returns-clause-most
returns-clause-most c =
    let same : to_z w128 (of_z w128 c.least_low.result) ≡ c.least_low.result = omega (arith, ints) in
    let valid = subst IsMeasure c.self.view_is (kind_measure c.self.inside.kind c.self.invariant) in
    let low = subst (λ (m : MeasureName). IsLeastLow m c.args.marks.now c.args.a.now.ranking.now c.args.b.now.ranking.now c.least_low.result) c.self.view_is c.least_low.ensures in
    λ ends h. ap neg_ℤ same ∙ most_is c.args.self.now c.args.marks.now c.args.a.now.ranking.now c.args.b.now.ranking.now c.least_low.result ends valid c.requires.rankings.first c.requires.rankings.second low h

pub returns-clause-ends : goal.returns-clause-ends
returns-clause-ends c =
    let valid = subst IsMeasure c.self.view_is (kind_measure c.self.inside.kind c.self.invariant) in
    ends_exist c.args.self.now c.args.marks.now c.args.a.now.ranking.now c.args.b.now.ranking.now valid c.requires.rankings.first c.requires.rankings.second

pub returns-clause-modest : goal.returns-clause-modest
returns-clause-modest c =
    let same : to_z w128 (of_z w128 c.least_low.result) ≡ c.least_low.result = omega (arith, ints) in
    subst IsModest (sym same) (low_modest (name_of c.self.inside.kind) c.args.marks.now c.args.a.now.ranking.now c.args.b.now.ranking.now c.least_low.result (kind_measure c.self.inside.kind c.self.invariant) c.requires.rankings.first c.requires.rankings.second c.least_low.ensures)
