-- The powers of a persistence.
use Rattle.std.specs.Prelude.{◌≡◌}
use Rattle.desk_model.specs.Limits.{RANK_LIMIT}
use Rattle.desk_model.specs.MeasureText.{IsPersistence}
use Rattle.topic_counts.specs.Places.{Known}

-- the powers of a persistence, as many as a ranking has ranks
pub record ArePowers (powers : Known) : Type 0 where
  pub persistence : IsPersistence powers.top powers.bottom
  pub last : powers.last ≡ RANK_LIMIT
