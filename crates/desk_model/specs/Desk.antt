-- The desk: topics with their universes, and what each run retrieved on each topic.
use Rattle.std.specs.Prelude.{◌≡◌, ℕ, ◌*◌, ◌/◌, ◌-◌, ◌<◌, ◌≤◌, Bool, true, All, List, [], length, map, take, slice_index_or}
use Rattle.std.specs.List.{AllZip, IsDistinct, enumerate_from, list_any}
use Rattle.desk_model.specs.Limits.{CELL_LIMIT, RUN_LIMIT, TOPIC_LIMIT}
use Rattle.desk_model.specs.Name.{is_name, is_same_name, AreAscending}
use Rattle.desk_model.specs.Book.{Book, IsBook}
use Rattle.desk_model.specs.Ranking.{IsRanking, is_in}
use Rattle.desk_model.specs.Mark.{mark_of}
use Rattle.desk_model.specs.Order.{Topic}
use Rattle.desk_model.specs.declared.types.Mark.{Mark}

-- topics, the names of the runs, and the ranking of each run on each topic
pub record Desk : Type 0 where
  pub topics : List Book
  pub runs : List (List ℕ)
  pub rankings : List (List (List ℕ))

-- the number of pairs of runs
abbrev pub pair_count : ℕ → ℕ
pair_count runs = runs * (runs - 1) / 2

-- a run has one ranking per topic, over that topic's universe
abbrev pub AreRankingsOver : List Book → List (List ℕ) → Type 0
AreRankingsOver topics rankings = AllZip (λ book docs. IsRanking (length book.docs) docs) topics rankings

-- topics ascend by name, runs have different names, and the limits hold
pub record IsDesk (desk : Desk) : Type 0 where
  pub books : All IsBook desk.topics
  pub ascending : AreAscending (map (λ (book : Book). book.name) desk.topics)
  pub some_topic : 0 < length desk.topics
  pub topics : length desk.topics ≤ TOPIC_LIMIT
  pub named : All (λ run. is_name run ≡ true) desk.runs
  pub distinct : IsDistinct is_same_name desk.runs
  pub some_run : 0 < length desk.runs
  pub runs : length desk.runs ≤ RUN_LIMIT
  pub cells : pair_count (length desk.runs) * length desk.topics ≤ CELL_LIMIT
  pub ranked : length desk.rankings ≡ length desk.runs
  pub rankings : All (AreRankingsOver desk.topics) desk.rankings

-- the ranking of a run on a topic
abbrev pub ranking_of : Desk → ℕ → ℕ → List ℕ
ranking_of desk run topic = slice_index_or (slice_index_or desk.rankings run []) topic []

-- whether some run ranks a document of a topic at a depth or before
abbrev pub is_pooled : Desk → ℕ → ℕ → ℕ → Bool
is_pooled desk topic depth doc = list_any (λ rankings. is_in (take depth (slice_index_or rankings topic [])) doc) desk.rankings

-- the marks of a topic's documents by the grades of the judgements file
abbrev pub file_marks : ℕ → Book → List Mark
file_marks level book = map (λ grade. mark_of grade level) book.grades

-- marks have the desk's topics and universes
abbrev pub AreMarksOf : Desk → List (List Mark) → Type 0
AreMarksOf desk marks = AllZip (λ (book : Book) (topic : List Mark). length topic ≡ length book.docs) desk.topics marks

-- the topics of a desk under marks, as completions see them
abbrev pub topics_under : Desk → List (List Mark) → List Topic
topics_under desk marks = map (λ p. record { marks = p.1; ranking = λ run. ranking_of desk run p.0 }) (enumerate_from 0 marks)
