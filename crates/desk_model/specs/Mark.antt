-- What the judgements say of the documents of a topic.
use Rattle.std.specs.Prelude.{ℕ, Bool, true, false, List, slice_index_or, nat_le, if◌then◌else◌, Option, Some, None, ℤ, pos, negsuc}
use Rattle.desk_model.specs.declared.types.Mark.{Mark}
use Rattle.desk_model.specs.declared.types.Mark.TheVariants.{Unjudged, Relevant, Other}

-- a grade of at least the level is relevant, a smaller one from 0 is other, and any other is unjudged
abbrev pub mark_of : Option ℤ → ℕ → Mark
mark_of None level = Unjudged
mark_of (Some (negsuc n)) level = Unjudged
mark_of (Some (pos n)) level = if nat_le level n then Relevant else Other

-- whether a mark leaves the document open
abbrev pub is_unjudged : Mark → Bool
is_unjudged Unjudged = true
is_unjudged Relevant = false
is_unjudged Other = false

-- the mark of a document, by its number in the universe
abbrev pub mark_at : List Mark → ℕ → Mark
mark_at marks doc = slice_index_or marks doc Unjudged
