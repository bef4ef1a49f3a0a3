-- Items of a list, and the marks of a desk's topics, by their places.
use Rattle.std.proofs.Common.{◌≡◌, ℕ, ◌<◌, List, length, get_or, Some, ap, sym, ◌∙◌, arith}
use Rattle.std.specs.Prelude.{slice_get}
use Rattle.desk_model.specs.Desk.{Desk, AreMarksOf}
use Rattle.desk_model.specs.declared.types.Mark.{Mark}
use Rattle.desk_model.proofs.DeskTopics.{length-marks}
use Rattle.desk_model.proofs.PairPlace.{there}
use Rattle.desk_model.proofs.Nested.{get_or-there}

-- the item of a loop is at its place
pub item_there : {X : Type 0} (xs : List X) (i : ℕ) (x : X) → i < length xs → x ≡ get_or xs i x → slice_get xs i ≡ Some x
item_there xs i x lt is =
    let at = there xs i lt in at.1 ∙ ap Some (sym (is ∙ get_or-there xs i at.0 x at.1))

-- a topic of the desk has marks
pub marks_within : (desk : Desk) (marks : List (List Mark)) → AreMarksOf desk marks → (t : ℕ) → t < length desk.topics → t < length marks
marks_within desk marks known t lt = omega (arith, lt, length-marks desk marks known)
