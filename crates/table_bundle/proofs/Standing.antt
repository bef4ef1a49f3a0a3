-- The cells of two runs of a table that stands for a desk under marks.
use Rattle.std.proofs.Common.{◌≡◌, ℕ, ◌<◌, List, length, map, subst}
use Rattle.std.specs.List.{AllZip}
use Rattle.desk_model.specs.Desk.{Desk, IsDesk, AreMarksOf, topics_under}
use Rattle.desk_model.specs.declared.types.Mark.{Mark}
use Rattle.desk_model.specs.declared.types.MeasureName.{MeasureName}
use Rattle.topic_counts.specs.declared.span.Span.{Span}
use Rattle.measure_core.specs.Laws.{MeetsLaws}
use Rattle.measure_core.specs.Made.{ends_of}
use Rattle.measure_core.specs.declared.cell.Cell.{Cell}
use Rattle.pair_table.specs.Kept.{IsCellOf, Kept, StandsFor, TopicNumbers}
use Rattle.pair_table.specs.Sums.{cell_ends}
use Rattle.pair_table.proofs.DeskTopics.{topics_met}
use Rattle.pair_table.proofs.Swapped.{cells_stand}

pub standing_cells : {M : Type 0} (name : MeasureName) (cell : List Mark → List ℕ → List ℕ → Cell) (bounds : List Mark → List ℕ → Span) (desk : Desk) (marks : List (List Mark)) (table : Kept M) → MeetsLaws name cell bounds → IsDesk desk → AreMarksOf desk marks →
    StandsFor cell bounds desk marks table → (i j : ℕ) → i < length desk.runs → j < length desk.runs → (cells : List Cell) → AllZip (IsCellOf table.runs i j) cells table.topics → map ends_of cells ≡ cell_ends cell (topics_under desk marks) i j
standing_cells name cell bounds desk marks table laws is_desk known stands i j in_i in_j cells h =
    cells_stand name cell bounds laws (length desk.runs) i j cells (topics_under desk marks) (topics_met desk marks is_desk known j i in_j in_i)
    (subst (λ (ts : List TopicNumbers). AllZip (IsCellOf (length desk.runs) i j) cells ts) stands.topics (subst (λ n. AllZip (IsCellOf n i j) cells table.topics) stands.sums.runs h))
