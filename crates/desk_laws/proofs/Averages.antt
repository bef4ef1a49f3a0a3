-- Average precision by hand: r is relevant and u is not judged; one run has r, u and the other u, r.
use Rattle.std.proofs.Common.{◌≡◌, [], ◌∷◌, true, false, pos, refl}
use Rattle.desk_model.specs.declared.types.Mark.TheVariants.{Unjudged, Relevant}
use Rattle.desk_model.specs.declared.types.MeasureName.TheVariants.{AveragePrecision}
use Rattle.measure_laws.specs.AverageEnds.{average_ends, average_truth}
use Rattle.measure_laws.specs.Candidates.{average_bound_lo, average_bound_hi}
use Rattle.measure_laws.specs.Cases.{least_truth}
use Rattle.desk_laws.specs.Example.{ends}

-- the second run's high candidate and the first one's low candidate have the difference 0 where u is relevant
pub least_case_of_a_pair : least_truth AveragePrecision (Relevant ∷ Unjudged ∷ []) (0 ∷ 1 ∷ []) (1 ∷ 0 ∷ []) 1 ≡ true
unfolding average_truth
least_case_of_a_pair = refl

pub most_case_of_a_pair : least_truth AveragePrecision (Relevant ∷ Unjudged ∷ []) (1 ∷ 0 ∷ []) (0 ∷ 1 ∷ []) 1 ≡ false
unfolding average_truth
most_case_of_a_pair = refl

pub ends_of_a_pair : average_ends (Relevant ∷ Unjudged ∷ []) (0 ∷ 1 ∷ []) (1 ∷ 0 ∷ []) ≡ ends (pos 0) (pos 0) (pos 500000000000000000) (pos 500000000000000000)
unfolding average_truth average_bound_lo average_bound_hi
ends_of_a_pair = refl
