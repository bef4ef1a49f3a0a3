-- The rankings of all runs on a topic, and the cells of their pairs.
use Rattle.std.specs.Prelude.{ℕ, ◌<◌, ◌≤◌, List, length, map}
use Rattle.std.specs.List.{range_with_len}
use Rattle.desk_model.specs.Desk.{Desk, ranking_of}
use Rattle.desk_model.specs.Limits.{DOCUMENT_LIMIT}
use Rattle.desk_model.specs.Pairs.{pairs_of}
use Rattle.desk_model.specs.Ranking.{IsRanking}
use Rattle.desk_model.specs.declared.types.Mark.{Mark}
use Rattle.measure_core.specs.declared.cell.Cell.{Cell}

-- a topic of a desk, by its number
pub record DeskTopic : Type 0 where
  pub desk : Desk
  pub topic : ℕ

-- how many runs there are, and the ranking of each on the topic, by its number
abbrev pub runs_on : DeskTopic → ℕ
runs_on t = length t.desk.runs

abbrev pub ranking_on : DeskTopic → ℕ → List ℕ
ranking_on t run = ranking_of t.desk run t.topic

-- the numbers of so many runs
abbrev pub run_numbers : ℕ → List ℕ
run_numbers runs = range_with_len 0 runs

-- all rankings are over the universe of the marks
pub record AreAllMet (marks : List Mark) (t : DeskTopic) : Type 0 where
  pub each : (run : ℕ) → run < runs_on t → IsRanking (length marks) (ranking_on t run)
  pub small : length marks ≤ DOCUMENT_LIMIT

-- the cell of each pair of runs, in pair order
abbrev pub pair_cells : (List ℕ → List ℕ → Cell) → DeskTopic → List Cell
pair_cells cell t = map (λ (pair : ℕ × ℕ). cell (ranking_on t pair.0) (ranking_on t pair.1)) (pairs_of (run_numbers (runs_on t)))
