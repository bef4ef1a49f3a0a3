-- The topics of a desk are ones that a measure may be asked of.
use Rattle.std.proofs.Common.{◌≡◌, ℕ, ◌<◌, List, [], length, get_or, Some, sym, subst, arith}
use Rattle.std.specs.Prelude.{slice_get}
use Rattle.std.specs.List.{AllByRecursion}
use Rattle.std.proofs.lemmas.Option.{slice_get-get_or}
use Rattle.std.proofs.lemmas.List.Elements.{recursion_from_All}
use Rattle.desk_model.proofs.DeskTopics.{topic_there, ranking_at, small_at, each_topic, length-marks}
use Rattle.desk_model.proofs.Nested.{zipped_at}
use Rattle.desk_model.specs.Book.{Book}
use Rattle.desk_model.specs.Desk.{Desk, IsDesk, AreMarksOf, ranking_of, topics_under}
use Rattle.desk_model.specs.Named.{book_at}
use Rattle.desk_model.specs.Order.{Topic}
use Rattle.desk_model.specs.Ranking.{IsRanking}
use Rattle.desk_model.specs.declared.types.Mark.{Mark}
use Rattle.measure_core.specs.Laws.{AreMet, IsMet}
use Rattle.measure_core.specs.Pairs.{AreAllMet, DeskTopic, runs_on, ranking_on}
use Rattle.pair_table.specs.Kept.{topic_at}
use Rattle.pair_table.specs.TopicUnder.{TopicUnder, IsKnownTopic, topic_of}

module _ (desk : Desk) (marks : List (List Mark)) (valid : IsDesk desk) (known : AreMarksOf desk marks) where
  pub met_at : (a b t : ℕ) (m : List Mark) → a < length desk.runs → b < length desk.runs → slice_get marks t ≡ Some m → AreMet m (ranking_of desk a t) (ranking_of desk b t)
  met_at a b t m in_a in_b e = record {
    first = ranking_at desk marks valid known a t m in_a e;
    second = ranking_at desk marks valid known b t m in_b e;
    small = small_at desk marks valid known t m e;
  }

  pub one_met_at : (a t : ℕ) (m : List Mark) → a < length desk.runs → slice_get marks t ≡ Some m → IsMet m (ranking_of desk a t)
  one_met_at a t m in_a e = record { ranking = ranking_at desk marks valid known a t m in_a e; small = small_at desk marks valid known t m e }

  pub all_met_at : (t : ℕ) (m : List Mark) → slice_get marks t ≡ Some m → AreAllMet m (record { desk = desk; topic = t })
  all_met_at t m e = record { each = λ run in_range. ranking_at desk marks valid known run t m in_range e; small = small_at desk marks valid known t m e }

  -- each topic is one that a measure may be asked of, for two runs
  pub topics_met : (a b : ℕ) → a < length desk.runs → b < length desk.runs → AllByRecursion (λ (topic : Topic). AreMet topic.marks (topic.ranking a) (topic.ranking b)) (topics_under desk marks)
  topics_met a b in_a in_b = recursion_from_All (λ (topic : Topic). AreMet topic.marks (topic.ranking a) (topic.ranking b)) (topics_under desk marks)
      (each_topic desk marks valid known (λ (topic : Topic). AreMet topic.marks (topic.ranking a) (topic.ranking b)) (λ t m e. met_at a b t m in_a in_b e))

  pub topics_met_one : (a : ℕ) → a < length desk.runs → AllByRecursion (λ (topic : Topic). IsMet topic.marks (topic.ranking a)) (topics_under desk marks)
  topics_met_one a in_a = recursion_from_All (λ (topic : Topic). IsMet topic.marks (topic.ranking a)) (topics_under desk marks)
      (each_topic desk marks valid known (λ (topic : Topic). IsMet topic.marks (topic.ranking a)) (λ t m e. one_met_at a t m in_a e))

-- ---- a topic under marks
-- there is a mark for each of its documents
pub marks_counted : (t : TopicUnder) → IsKnownTopic t → length (topic_of t).marks ≡ length (book_at t.desk t.number).docs
marks_counted t known =
    let none : Book = record { name = []; docs = []; grades = [] } in
    zipped_at (λ (each : Book) (topic : List Mark). length topic ≡ length each.docs) t.desk.topics t.marks t.number (book_at t.desk t.number) [] known.marked (slice_get-get_or t.desk.topics t.number none known.known)

pub marks_known : (t : TopicUnder) → IsKnownTopic t → t.number < length t.marks
marks_known t known = omega (arith, known.known, length-marks t.desk t.marks known.marked)

-- one of rankings that are all over the universe of the marks
pub one_of_met : (m : List Mark) (t : DeskTopic) (run : ℕ) (docs : List ℕ) → AreAllMet m t → run < runs_on t → docs ≡ ranking_on t run → IsMet m docs
one_of_met m t run docs met lt same = record { ranking = subst (IsRanking (length m)) (sym same) (met.each run lt); small = met.small }

-- ---- what a measure is asked of two runs, and of one, on a topic
pub topic_at_there : (desk : Desk) (marks : List (List Mark)) (t : ℕ) → AreMarksOf desk marks → t < length desk.topics → slice_get (topics_under desk marks) t ≡ Some (topic_at desk marks t)
topic_at_there desk marks t known lt =
    let within : t < length marks = omega (arith, lt, length-marks desk marks known) in
    topic_there desk marks t (get_or marks t []) (slice_get-get_or marks t [] within)
