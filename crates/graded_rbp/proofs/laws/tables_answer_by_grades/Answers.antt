use Rattle.graded_rbp.proofs.Swapped.{graded_swapped}
use Rattle.graded_rbp.proofs.Tables.{table_answers, bounds_answered}
use Rattle.graded_rbp.proofs.laws.tables_answer_by_grades.Goals as goal

pub returns : goal.returns
returns c = record { swapped = graded_swapped; sums = table_answers; bounds = bounds_answered }
