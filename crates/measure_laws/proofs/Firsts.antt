-- The least case of reciprocal rank and that of R-precision are the first of their candidates with the smallest difference.
use Rattle.std.proofs.Common.{ℕ, List, ◌∷◌, Option, None}
use Rattle.desk_model.specs.Score.{first_true}
use Rattle.desk_model.specs.declared.types.Mark.{Mark}
use Rattle.desk_model.proofs.Topics.{reciprocal-den}
use Rattle.measure_laws.specs.Differences.{ArePositive, IsFirstLeast}
use Rattle.measure_laws.specs.ReciprocalCase.{with_choice, reciprocal_scores, unjudged_of, reciprocal_choice}
use Rattle.measure_laws.specs.RprecCase.{greedy_scores, later_counts, rprec_counts, rprec_count}
use Rattle.measure_laws.specs.Classes.{judged_count}
use Rattle.measure_laws.proofs.Picks.{first_least-first}
use Rattle.measure_laws.proofs.RprecEnds.{greedy_positive}

reciprocal_positive : (marks : List Mark) (a b : List ℕ) (choice : Option ℕ) → ArePositive (reciprocal_scores marks a b choice)
reciprocal_positive marks a b choice = record { first = reciprocal-den (first_true (with_choice marks choice) a); second = reciprocal-den (first_true (with_choice marks choice) b) }

pub reciprocal_first : (marks : List Mark) (a b : List ℕ) → IsFirstLeast (reciprocal_scores marks a b) (None ∷ unjudged_of marks b) (reciprocal_choice marks a b)
reciprocal_first marks a b = first_least-first (reciprocal_scores marks a b) (reciprocal_positive marks a b) None (unjudged_of marks b)

pub rprec_first : (marks : List Mark) (a b : List ℕ) → IsFirstLeast (greedy_scores marks a b) (rprec_counts marks) (rprec_count marks a b)
rprec_first marks a b = first_least-first (greedy_scores marks a b) (greedy_positive marks a b) (judged_count marks) (later_counts marks)
