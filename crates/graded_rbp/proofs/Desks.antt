-- The topics of a desk by grades, and at a level.
use Rattle.std.proofs.Common.{◌≡◌, ℕ, ◌+◌, ◌<◌, List, [], ◌∷◌, map, length, Option, ℤ, ap, refl, sym, subst, ◌∙◌, arith}
use Rattle.std.specs.List.{AllByRecursion, AllZip, enumerate_from}
use Rattle.std.proofs.lemmas.List.{length-map}
use Rattle.std.proofs.lemmas.List.Elements.{recursion_from_All}
use Rattle.std.proofs.lemmas.List.FromFn.{length-enumerate_from}
use Rattle.desk_model.specs.Book.{Book, IsBook}
use Rattle.desk_model.specs.Desk.{Desk, IsDesk, AreMarksOf, file_marks, ranking_of, topics_under}
use Rattle.desk_model.specs.Mark.{mark_of}
use Rattle.desk_model.specs.Order.{Topic}
use Rattle.desk_model.specs.Ranking.{IsRanking}
use Rattle.desk_model.specs.declared.types.Mark.{Mark}
use Rattle.desk_model.proofs.DeskTopics.{rankings_over_universes}
use Rattle.graded_rbp.specs.Grades.{GradedTopic, graded_topics}
use Rattle.graded_rbp.specs.Levels.{level_topic, level_topics}
use Rattle.graded_rbp.specs.Orders.{HoldsByGrades, HoldsOfRunByGrades, ForTwoRunsByGrades, ForEachRunByGrades}
use Rattle.graded_rbp.proofs.Holding.{AreRanked, pair_holds, run_holds}
use Rattle.graded_rbp.proofs.LevelScores.{IsRankedIn}
use Rattle.graded_rbp.proofs.Undecided.{open_undecided}

-- the marks of the judgements file at a level
abbrev pub level_marks : Desk → ℕ → List (List Mark)
level_marks desk level = map (file_marks level) desk.topics

abbrev graded : Desk → ℕ × Book → GradedTopic
graded desk p = record { grades = p.1.grades; ranking = λ run. ranking_of desk run p.0 }

abbrev marked : Desk → ℕ × List Mark → Topic
marked desk p = record { marks = p.1; ranking = λ run. ranking_of desk run p.0 }

from_place : (desk : Desk) (level n : ℕ) (books : List Book) → map (level_topic level) (map (graded desk) (enumerate_from n books)) ≡ map (marked desk) (enumerate_from n (map (file_marks level) books))
from_place desk level n [] = refl
from_place desk level n (b ∷ bs) = ap (λ ts. level_topic level (graded desk (n, b)) ∷ ts) (from_place desk level (n + 1) bs)

pub level_of_desk : (desk : Desk) (level : ℕ) → level_topics level (graded_topics desk) ≡ topics_under desk (level_marks desk level)
level_of_desk desk level = from_place desk level 0 desk.topics

marks_fit : (level : ℕ) (books : List Book) → AllByRecursion IsBook books → AllZip (λ (book : Book) (topic : List Mark). length topic ≡ length book.docs) books (map (file_marks level) books)
marks_fit level [] h = tt
marks_fit level (b ∷ bs) h = (length-map b.grades (λ (grade : Option ℤ). mark_of grade level) ∙ h.0.graded, marks_fit level bs h.1)

pub marks_of_level : (desk : Desk) (level : ℕ) → IsDesk desk → AreMarksOf desk (level_marks desk level)
marks_of_level desk level valid = marks_fit level desk.topics (recursion_from_All IsBook desk.topics valid.books)

pub length-graded_topics : (desk : Desk) → length (graded_topics desk) ≡ length desk.topics
length-graded_topics desk = length-map (enumerate_from 0 desk.topics) (graded desk) ∙ length-enumerate_from 0 desk.topics

ranked_back : (run level : ℕ) (topics : List GradedTopic) → AllByRecursion (λ (topic : Topic). IsRanking (length topic.marks) (topic.ranking run)) (level_topics level topics) → AllByRecursion (IsRankedIn run) topics
ranked_back run level [] h = tt
ranked_back run level (t ∷ ts) h = (subst (λ (n : ℕ). IsRanking n (t.ranking run)) (length-map t.grades (λ (grade : Option ℤ). mark_of grade level)) h.0, ranked_back run level ts h.1)

module _ (desk : Desk) (valid : IsDesk desk) where
  pub desk_ranked : (run : ℕ) → run < length desk.runs → AllByRecursion (IsRankedIn run) (graded_topics desk)
  desk_ranked run in_range =
      ranked_back run 1 (graded_topics desk)
      (subst (AllByRecursion (λ (topic : Topic). IsRanking (length topic.marks) (topic.ranking run))) (sym (level_of_desk desk 1))
      (recursion_from_All (λ (topic : Topic). IsRanking (length topic.marks) (topic.ranking run)) (topics_under desk (level_marks desk 1)) (rankings_over_universes desk (level_marks desk 1) valid (marks_of_level desk 1 valid) run in_range)))

  pub two_ranked : (a b : ℕ) → a < length desk.runs → b < length desk.runs → AreRanked a b (graded_topics desk)
  two_ranked a b in_a in_b = record { some_topic = omega (arith, length-graded_topics desk, valid.some_topic); first = desk_ranked a in_a; second = desk_ranked b in_b }

pub two_runs_hold : ForTwoRunsByGrades HoldsByGrades
two_runs_hold m desk a b valid is_desk in_a in_b apart =
    let topics = graded_topics desk in
    let ranked = two_ranked desk is_desk a b in_a in_b in
    pair_holds m valid topics a b ranked (open_undecided m valid a b topics apart ranked)

pub runs_hold : ForEachRunByGrades HoldsOfRunByGrades
runs_hold m desk run valid is_desk in_run = run_holds m valid (graded_topics desk) run (desk_ranked desk is_desk run in_run)
