use Rattle.std.proofs.Common.{ℕ, List, length, sym, subst}
use Rattle.desk_model.specs.Ranking.{IsRanking}
use Rattle.rprec.proofs.Ends.{nothing_ranked}
use Rattle.rprec.proofs.rprec.RprecMeasure.bounds.Goals as goal

pub invariant_of-sums_of_run : goal.invariant_of-sums_of_run
invariant_of-sums_of_run c = record { met = nothing_ranked (length c.args.marks.now) }

pub invariant_of-find-clause-met : goal.invariant_of-find-clause-met
invariant_of-find-clause-met c =
    let n = length c.args.marks.now in
    record { first = subst (λ (docs : List ℕ). IsRanking n docs) (sym c.docs.ensures.docs) c.requires.ranking; second = nothing_ranked n; small = c.requires.small }
