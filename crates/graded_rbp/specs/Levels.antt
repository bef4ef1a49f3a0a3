-- The levels from 1 to a greatest number, and what a completion by grades stands for on each.
use Rattle.std.specs.Prelude.{ℕ, nat_le, List, map}
use Rattle.std.specs.List.{range_with_len}
use Rattle.desk_model.specs.Completion.{Completion}
use Rattle.desk_model.specs.Mark.{mark_of}
use Rattle.desk_model.specs.Order.{Topic}
use Rattle.graded_rbp.specs.Grades.{GradedTopic, GradedCompletion}

-- from 1 to the greatest
abbrev pub levels : ℕ → List ℕ
levels greatest = range_with_len 1 greatest

-- a topic under its marks at a level
abbrev pub level_topic : ℕ → GradedTopic → Topic
level_topic level topic = record { marks = map (λ grade. mark_of grade level) topic.grades; ranking = topic.ranking }

-- a completion by grades at a level: a document or a place is true where its number is at least the level
abbrev pub level_completion : ℕ → GradedCompletion → Completion
level_completion level c = record { truth = λ doc. nat_le level (c.number doc); tail = λ run. map (nat_le level) (c.tail run) }

abbrev pub level_topics : ℕ → List GradedTopic → List Topic
level_topics level topics = map (level_topic level) topics

abbrev pub level_completions : ℕ → List GradedCompletion → List Completion
level_completions level cs = map (level_completion level) cs
