-- What two lists share, place by place.
use Rattle.std.specs.Prelude.{◌≡◌, ℕ, ◌+◌, ◌-◌, ◌&&◌, max, nat_eq, nat_lt, if◌then◌else◌, Bool, List, length, take, slice_index, slice_index_or, slice_set}
use Rattle.desk_model.specs.Mark.{is_unjudged, mark_at}
use Rattle.desk_model.specs.Placed.{lookup, IsAscending}
use Rattle.desk_model.specs.Ranking.{is_in, rank}
use Rattle.desk_model.specs.declared.placed.Placed.{Placed}
use Rattle.desk_model.specs.declared.types.Mark.{Mark}

-- 1 where a list has an unjudged document at a place, and another list has it too, and else 0
abbrev pub met : List Mark → List ℕ → List ℕ → ℕ → ℕ
met marks docs others place = if (nat_lt place (length docs) && is_in others (slice_index docs place)) && is_unjudged (mark_at marks (slice_index docs place)) then 1 else 0

-- for each place of two lists, how many unjudged documents both have up to there and not both before: the second has it earlier than the first, or the first no later than the second
pub record AreShared (marks : List Mark) (xs ys counts : List ℕ) : Type 0 where
  pub each : (place : ℕ) → slice_index_or counts place 0 ≡ met marks xs (take place ys) place + met marks ys (take (place + 1) xs) place

-- the counts after a document of both up to a rank, if they have it: one more there if it is unjudged
abbrev pub counted : List Mark → Bool → ℕ → ℕ → List ℕ → List ℕ
counted marks is_shared doc rank counts =
    slice_set counts (rank - 1) (slice_index_or counts (rank - 1) 0 + (if is_shared && is_unjudged (mark_at marks doc) then 1 else 0))

-- the counts after two places: one more at the later rank, where they are of one unjudged document
abbrev pub entered : List Mark → Placed → Placed → List ℕ → List ℕ
entered marks x y counts = counted marks (nat_eq x.doc y.doc) x.doc (max x.rank y.rank) counts

-- the documents of a list with their ranks, ascending by document
pub record AreByDocument (docs : List ℕ) (places : List Placed) : Type 0 where
  pub ascending : IsAscending places
  pub ranks : (doc : ℕ) → lookup places doc ≡ rank docs doc
