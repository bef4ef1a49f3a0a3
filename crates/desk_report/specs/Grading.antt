-- How the grades of judgements are read.
use Rattle.std.specs.Prelude.{ℕ, Option}
use Rattle.order_certificate.specs.Certificate.{IsLevel}
use Rattle.order_bundle.specs.Scoped.{IsScope}

-- the least relevant grade, and the depth of the pool or none
pub record Grading : Type 0 where
  pub level : ℕ
  pub depth : Option ℕ

-- both are in range
pub record IsGrading (g : Grading) : Type 0 where
  pub level : IsLevel g.level
  pub depth : IsScope g.depth
