-- One topic with two judged documents of grades 2 and 1, of which the first run ranks the one and the second run the other.
use Rattle.std.specs.Prelude.{cond, nat_eq, [], ◌∷◌, Some, pos}
use Rattle.graded_rbp.specs.Grades.{GradedTopic}
use Rattle.graded_rbp.specs.Score.{GradedMeasure}

abbrev pub two_grades : GradedTopic
two_grades = record { grades = Some (pos 2) ∷ Some (pos 1) ∷ []; ranking = λ run. cond (nat_eq run 0) (0 ∷ []) (1 ∷ []) }

-- a persistence of a half, and numbers up to 2
abbrev pub half : GradedMeasure
half = record { top = 5; bottom = 10; greatest = 2 }
