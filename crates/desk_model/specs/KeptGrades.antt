-- In which of two ways a topic keeps the grades of the judgements file.
use Rattle.std.specs.Prelude.{List, Option, ℤ}
use Rattle.desk_model.specs.declared.file_grades.KeptGrades.{KeptGrades}
use Rattle.desk_model.specs.declared.file_grades.KeptGrades.TheVariants.{InRow, InBlocks}

-- the grades, in one row or in blocks
abbrev pub kept_grades : KeptGrades → List (Option ℤ)
kept_grades (InRow grades) = grades.items
kept_grades (InBlocks grades) = grades
