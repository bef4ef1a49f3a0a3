-- Marks that hide some documents.
use Rattle.std.specs.Prelude.{◌≡◌, ℕ, ◌<◌, if◌then◌else◌, List, length}
use Rattle.desk_model.specs.Mark.{mark_at}
use Rattle.desk_model.specs.Ranking.{is_in}
use Rattle.desk_model.specs.declared.types.Mark.{Mark}
use Rattle.desk_model.specs.declared.types.Mark.TheVariants.{Other}

-- the documents of a list are judged and not relevant, and all others have the marks that they have among others
pub record AreHidden (docs : List ℕ) (marks left : List Mark) : Type 0 where
  pub count : length left ≡ length marks
  pub each : (doc : ℕ) → doc < length marks → mark_at left doc ≡ (if is_in docs doc then Other else mark_at marks doc)
