-- That a list ascends has one proof at most.
use Rattle.std.specs.Prelude.{◌<◌, List, [], ◌∷◌}
use Rattle.std.specs.List.{AllByRecursion-prop}
use Rattle.std.specs.Coded.{×_prop, Unit-prop, le_prop}
use Rattle.desk_model.specs.Placed.{IsAscending}
use Rattle.desk_model.specs.declared.placed.Placed.{Placed}

pub IsAscending-prop : (places : List Placed) → IsProp (IsAscending places)
IsAscending-prop [] = Unit-prop
IsAscending-prop (e ∷ es) = ×_prop (AllByRecursion-prop (λ (f : Placed). e.doc < f.doc) (λ f. le_prop) es) (IsAscending-prop es)
