-- The documents that a case makes true, by their ranks.
use Rattle.std.specs.Prelude.{ℕ, Bool, false, not, Option}
use Rattle.measure_core.specs.OneSide.{is_by}
use Rattle.precision_candidates.specs.declared.by_rank.Cuts.{Cuts}
use Rattle.average_precision.specs.declared.numbers.Case.{Case}
use Rattle.average_precision.specs.declared.numbers.Case.TheVariants.{OfNone, OfLow, OfHigh}

-- whether an unjudged document with these ranks in two runs is true in a case: the low one of the first run, or the high one of the second
abbrev pub is_picked_in : Case → Cuts → Option ℕ → Cuts → Option ℕ → Bool
is_picked_in OfNone first x second y = false
is_picked_in OfLow first x second y = not (is_by first.left_out x)
is_picked_in OfHigh first x second y = is_by second.taken y
