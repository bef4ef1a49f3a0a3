-- The walk over the documents of two runs, and what each of them adds to the sums of shares.
use Rattle.std.specs.Prelude.{◌≡◌, ℕ, if◌then◌else◌, Bool, List, length, map, Option, None, ℤ, pos, ◌+ℤ◌, ◌-ℤ◌}
use Rattle.std.specs.List.{range_with_len}
use Rattle.desk_model.specs.Mark.{mark_at}
use Rattle.desk_model.specs.Completion.{picked_value}
use Rattle.desk_model.specs.Ranking.{rank}
use Rattle.desk_model.specs.Verdict.{whole_sum}
use Rattle.desk_model.specs.declared.types.Mark.{Mark}
use Rattle.desk_model.specs.declared.types.Mark.TheVariants.{Unjudged, Relevant, Other}
use Rattle.measure_laws.specs.Ranks.{comes_before}
use Rattle.measure_laws.specs.Shares.{low_share, high_share}
use Rattle.rbp.specs.Persistence.{IsLoose}
use Rattle.rbp.specs.declared.corrections.Shares.{Shares}

-- whether an unjudged document with these ranks is relevant in the least case, and in the most case
abbrev pub is_in_least : Option ℕ → Option ℕ → Bool
is_in_least x y = comes_before y x

abbrev pub is_in_most : Option ℕ → Option ℕ → Bool
is_in_most x y = comes_before x y

-- what a document with this mark and these ranks adds to a sum of shares, where an unjudged one counts if it is picked by its ranks
abbrev pub share_of : (Option ℕ → Option ℕ → ℤ) → (Option ℕ → Option ℕ → Bool) → Mark → Option ℕ → Option ℕ → ℤ
share_of share picked mark x y = if picked_value (picked x y) mark then share x y else pos 0

-- what all documents of the universe add, by two rankings
abbrev pub sum_of : (Option ℕ → Option ℕ → ℤ) → (Option ℕ → Option ℕ → Bool) → List Mark → List ℕ → List ℕ → ℤ
sum_of share picked marks a b = whole_sum (map (λ d. share_of share picked (mark_at marks d) (rank a d) (rank b d)) (range_with_len 0 (length marks)))

-- what a document adds beyond what it would add by each of its ranks alone
abbrev pub correction : (Option ℕ → Option ℕ → ℤ) → (Option ℕ → Option ℕ → Bool) → Mark → Option ℕ → Option ℕ → ℤ
correction share picked mark x y = share_of share picked mark x y -ℤ (share_of share picked mark x None +ℤ share_of share picked mark None y)

-- what all documents of the universe add beyond that, by two rankings
abbrev pub correction_sum : (Option ℕ → Option ℕ → ℤ) → (Option ℕ → Option ℕ → Bool) → List Mark → List ℕ → List ℕ → ℤ
correction_sum share picked marks a b = whole_sum (map (λ d. correction share picked (mark_at marks d) (rank a d) (rank b d)) (range_with_len 0 (length marks)))

-- the number of a mark
abbrev pub number_of : Mark → ℕ
number_of Unjudged = 0
number_of Relevant = 1
number_of Other = 2

-- the four sums of the corrections of two rankings
pub record AreCorrections (top bottom : ℕ) (marks : List Mark) (a b : List ℕ) (sums : Shares) : Type 0 where
  pub least_lo : sums.least.lo ≡ correction_sum (low_share top bottom) is_in_least marks a b
  pub least_hi : sums.least.hi ≡ correction_sum (high_share top bottom) is_in_least marks a b
  pub most_lo : sums.most.lo ≡ correction_sum (low_share top bottom) is_in_most marks a b
  pub most_hi : sums.most.hi ≡ correction_sum (high_share top bottom) is_in_most marks a b
  pub least_loose : IsLoose sums.least
  pub most_loose : IsLoose sums.most
