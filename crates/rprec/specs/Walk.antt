-- A walk over the documents of two runs, each ascending by document.
use Rattle.std.specs.Prelude.{◌≡◌, ℕ, ◌+◌, ◌<◌, ◌≤◌, ◌&&◌, ◌⊎◌, Bool, true, false, not, nat_eq, nat_lt, if◌then◌else◌, All, List, [], length, take, slice_index, slice_index_or, Option, Some, None}
use Rattle.std.specs.List.{IsDistinct}
use Rattle.desk_model.specs.Limits.{RANK_LIMIT}
use Rattle.desk_model.specs.Placed.{lookup, IsAscending}
use Rattle.desk_model.specs.Ranking.{is_in, rank}
use Rattle.desk_model.specs.Mark.{is_unjudged, mark_at}
use Rattle.desk_model.specs.declared.placed.Placed.{Placed}
use Rattle.desk_model.specs.declared.types.Mark.{Mark}

-- each document that a list still has is of one part of all, and has its rank
unfoldable pub AreRanksOf : (ℕ → Bool) → List ℕ → List Placed → Type 0
AreRanksOf part xs es = (doc r : ℕ) → lookup es doc ≡ Some r → (rank xs doc ≡ Some r) × (part doc ≡ true)

-- whether two ranks are both there
abbrev pub both : Option ℕ → Option ℕ → Bool
both (Some x) (Some y) = true
both (Some x) None = false
both None y = false

-- the flags so far: those of the documents that are left in both lists, or elsewhere, are still down
pub record AreWalked (elsewhere : ℕ → Bool) (xs ys : List ℕ) (depth : ℕ → ℕ) (es fs : List Placed) (flags : List Bool) : Type 0 where
  pub long : length xs ≤ length flags
  pub each : (place : ℕ) → place < length xs → slice_index_or flags place false ≡ ((is_in (take (depth place) ys) (slice_index xs place) && not (elsewhere (slice_index xs place))) && not (both (lookup es (slice_index xs place)) (lookup fs (slice_index xs place))))

-- how far a walk over the documents of one part of two lists has come: its places left, and the flags so far
pub record IsWalk (part elsewhere : ℕ → Bool) (xs ys : List ℕ) (es fs : List Placed) (in_second in_first : List Bool) : Type 0 where
  pub first_short : length xs ≤ RANK_LIMIT
  pub second_short : length ys ≤ RANK_LIMIT
  pub first_distinct : IsDistinct nat_eq xs
  pub second_distinct : IsDistinct nat_eq ys
  pub first_ascends : IsAscending es
  pub second_ascends : IsAscending fs
  pub first_ranks : AreRanksOf part xs es
  pub second_ranks : AreRanksOf part ys fs
  pub first : AreWalked elsewhere xs ys (λ place. place) es fs in_second
  pub second : AreWalked elsewhere ys xs (λ place. place + 1) fs es in_first
  pub apart : (doc : ℕ) → part doc ≡ true → elsewhere doc ≡ false

-- 1 where a list has a flagged unjudged document at a place, and else 0
abbrev pub flagged_at : List Mark → List ℕ → List Bool → ℕ → ℕ
flagged_at marks docs flags place = if (nat_lt place (length docs) && slice_index_or flags place false) && is_unjudged (mark_at marks (slice_index docs place)) then 1 else 0

-- for each place of two lists, how many unjudged documents are flagged there
pub record AreCounted (marks : List Mark) (xs ys : List ℕ) (in_second in_first : List Bool) (counts : List ℕ) : Type 0 where
  pub first_fit : length xs ≤ length counts
  pub second_fit : length ys ≤ length counts
  pub known : All (λ doc. doc < length marks) xs
  pub each : (place : ℕ) → slice_index_or counts place 0 ≡ flagged_at marks xs in_second place + flagged_at marks ys in_first place

-- a walk with the counts so far
pub record IsCountedWalk (marks : List Mark) (part elsewhere : ℕ → Bool) (xs ys : List ℕ) (es fs : List Placed) (counts : List ℕ) : Type 0 where
  pub in_second : List Bool
  pub in_first : List Bool
  pub walk : IsWalk part elsewhere xs ys es fs in_second in_first
  pub counted : AreCounted marks xs ys in_second in_first counts

-- one that has come to the end of a list
pub record IsWalked (marks : List Mark) (part elsewhere : ℕ → Bool) (xs ys : List ℕ) (counts : List ℕ) : Type 0 where
  pub es : List Placed
  pub fs : List Placed
  pub ended : (es ≡ []) ⊎ (fs ≡ [])
  pub walk : IsCountedWalk marks part elsewhere xs ys es fs counts
