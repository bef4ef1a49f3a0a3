-- Lists of the documents that one of two rankings alone has among its first k, and of more.
use Rattle.std.specs.Prelude.{ℕ, Bool, ◌||◌, List}
use Rattle.desk_model.specs.declared.types.Mark.{Mark}
use Rattle.measure_laws.specs.Classes.{open_in, is_among_first}
use Rattle.measure_laws.specs.Prefixes.{only_second, neutral}
use Rattle.marked_lists.specs.declared.more_lists.More.{More}

-- the documents that the second of two rankings alone has among its first k, and with them so many of the first ones of the others
abbrev pub own_and_more : ℕ → More → List Mark → List ℕ → List ℕ → ℕ → Bool
own_and_more k more marks a b doc =
    only_second k a b doc || (is_among_first more.both (open_in marks (neutral k a b)) doc || is_among_first more.first (open_in marks (only_second k b a)) doc)
