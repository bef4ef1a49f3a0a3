-- The first true ranks of two runs under a choice of one unjudged document, or of none.
use Rattle.std.specs.Prelude.{◌≡◌, ℕ, List, Option}
use Rattle.measure_laws.specs.Ranks.{IsRankWithin}
use Rattle.measure_laws.specs.Differences.{Scores}
use Rattle.measure_laws.specs.ReciprocalCase.{with_choice}
use Rattle.desk_model.specs.Limits.{RANK_LIMIT}
use Rattle.desk_model.specs.Score.{first_true, reciprocal}
use Rattle.desk_model.specs.declared.types.Mark.{Mark}
use Rattle.recip_rank.specs.declared.firsts.Candidate.{Candidate}

-- the scores of two runs with these first true ranks
abbrev pub scores_at : Option ℕ → Option ℕ → Scores
scores_at x y = record { first = reciprocal x; second = reciprocal y }

-- the ranks of a candidate are those that its choice gives
pub record AreFirsts (marks : List Mark) (a b : List ℕ) (c : Candidate) : Type 0 where
  pub first : c.firsts.first ≡ first_true (with_choice marks c.choice) a
  pub second : c.firsts.second ≡ first_true (with_choice marks c.choice) b
  pub first_within : IsRankWithin RANK_LIMIT c.firsts.first
  pub second_within : IsRankWithin RANK_LIMIT c.firsts.second
