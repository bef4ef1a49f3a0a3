-- A topic of a desk under marks.
use Rattle.std.specs.Prelude.{ℕ, ◌<◌, List, length}
use Rattle.desk_model.specs.Desk.{Desk, AreMarksOf}
use Rattle.desk_model.specs.Order.{Topic}
use Rattle.desk_model.specs.declared.types.Mark.{Mark}
use Rattle.measure_core.specs.Pairs.{DeskTopic}
use Rattle.measure_core.specs.declared.cell.Cell.{Cell}
use Rattle.topic_counts.specs.declared.span.Span.{Span}
use Rattle.pair_table.specs.Kept.{TopicNumbers, numbers_on, topic_at}

-- a desk, marks of its documents, and the number of one of its topics
pub record TopicUnder : Type 0 where
  pub desk : Desk
  pub marks : List (List Mark)
  pub number : ℕ

-- there is a mark for each document of the desk, and a topic of this number
pub record IsKnownTopic (t : TopicUnder) : Type 0 where
  pub marked : AreMarksOf t.desk t.marks
  pub known : t.number < length t.desk.topics

-- its marks, and the ranking of each run on it
abbrev pub topic_of : TopicUnder → Topic
topic_of t = topic_at t.desk t.marks t.number

-- the same without the marks
abbrev pub place_of : TopicUnder → DeskTopic
place_of t = record { desk = t.desk; topic = t.number }

-- the numbers on it of a measure with these cells and bounds
abbrev pub numbers_of : (List Mark → List ℕ → List ℕ → Cell) → (List Mark → List ℕ → Span) → TopicUnder → TopicNumbers
numbers_of cell bounds t = numbers_on cell bounds (length t.desk.runs) (topic_of t)
