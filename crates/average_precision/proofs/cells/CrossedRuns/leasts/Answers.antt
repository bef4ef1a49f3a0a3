use Rattle.std.proofs.Common.{ℕ, List, subst, ◌∙◌}
use Rattle.measure_core.specs.Pairs.{ranking_on}
use Rattle.average_precision.specs.Least.{IsLeast}
use Rattle.average_precision.specs.Pairs.{IsPairRun}
use Rattle.average_precision.proofs.cells.CrossedRuns.leasts.Goals as goal

pub returns-clause-least : goal.returns-clause-least
returns-clause-least c =
    let t = c.args.self.now.kept.on.rankings.now in
    let marks = c.args.self.now.kept.on.marks.now in
    let x = c.docs-a.result.now in
    let y = c.docs-b.result.now in
    let of_a = c.docs-a.ensures.docs ∙ c.ranking.ensures in
    let of_b = c.docs-b.ensures.docs ∙ c.ranking-2.ensures in
    let one : IsPairRun marks x y c.pair_run-first.result = rw (of_a, of_b) c.pair_run-first.ensures in
    let two : IsPairRun marks y x c.pair_run-second.result = rw (of_a, of_b) c.pair_run-second.ensures in
    subst (λ (ds : List ℕ). IsLeast marks ds (ranking_on t c.args.pair.second) c.leasts_between.result.least) of_a
    (subst (λ (ds : List ℕ). IsLeast marks x ds c.leasts_between.result.least) of_b (c.leasts_between.ensures.least marks one two))

pub returns-clause-swapped : goal.returns-clause-swapped
returns-clause-swapped c =
    let t = c.args.self.now.kept.on.rankings.now in
    let marks = c.args.self.now.kept.on.marks.now in
    let x = c.docs-a.result.now in
    let y = c.docs-b.result.now in
    let of_a = c.docs-a.ensures.docs ∙ c.ranking.ensures in
    let of_b = c.docs-b.ensures.docs ∙ c.ranking-2.ensures in
    let one : IsPairRun marks x y c.pair_run-first.result = rw (of_a, of_b) c.pair_run-first.ensures in
    let two : IsPairRun marks y x c.pair_run-second.result = rw (of_a, of_b) c.pair_run-second.ensures in
    subst (λ (ds : List ℕ). IsLeast marks ds (ranking_on t c.args.pair.first) c.leasts_between.result.swapped) of_b
    (subst (λ (ds : List ℕ). IsLeast marks y ds c.leasts_between.result.swapped) of_a (c.leasts_between.ensures.swapped marks one two))
