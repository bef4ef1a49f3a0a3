-- The documents that each of two rankings has among its first ones, and the other not.
use Rattle.std.specs.Prelude.{◌≡◌, ℕ, ◌≤◌, true, false, List}
use Rattle.desk_model.specs.Classes.{only_count}
use Rattle.desk_model.specs.Limits.{RANK_LIMIT}
use Rattle.desk_model.specs.declared.types.Mark.{Mark}
use Rattle.topic_ends.specs.declared.own.Own.{Own}

-- no more are judged relevant than can be relevant, and no more can be than a ranking has documents
pub record IsOrdered (own : Own) : Type 0 where
  pub first : own.first.relevant ≤ own.first.possible
  pub second : own.second.relevant ≤ own.second.possible
  pub first_few : own.first.possible ≤ RANK_LIMIT
  pub second_few : own.second.possible ≤ RANK_LIMIT

-- the counts of each of two lists that the other has not
pub record CountsOwn (marks : List Mark) (xs ys : List ℕ) (own : Own) : Type 0 where
  pub first_relevant : own.first.relevant ≡ only_count false marks xs ys
  pub first_possible : own.first.possible ≡ only_count true marks xs ys
  pub second_relevant : own.second.relevant ≡ only_count false marks ys xs
  pub second_possible : own.second.possible ≡ only_count true marks ys xs
