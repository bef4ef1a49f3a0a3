-- The verdict of four sums.
use Rattle.std.specs.Prelude.{◌≡◌, ◌≢◌, ◌↔◌, ℕ, ◌<◌, List, [], ◌∷◌, map, ◌+ℤ◌, ℤ, pos, Bool, int_lt, int_le, ◌&&◌, ◌||◌, if◌then◌else◌}
use Rattle.std.specs.Ordering.{int_eq}
use Rattle.desk_model.specs.Extremes.{Ends}
use Rattle.desk_model.specs.Enclosure.{AreExactEnds}
use Rattle.desk_model.specs.Order.{Topic, IsAlwaysAbove, AreAlwaysEqual}
use Rattle.desk_model.specs.declared.types.MeasureName.{MeasureName}
use Rattle.desk_model.specs.declared.types.Totals.{Totals}
use Rattle.desk_model.specs.declared.types.Verdict.{Verdict}
use Rattle.desk_model.specs.declared.types.Verdict.TheVariants.{Above, Below, Equal, Open, Close}

-- the sum of whole numbers
abbrev pub whole_sum : List ℤ → ℤ
whole_sum [] = pos 0
whole_sum (z ∷ zs) = z +ℤ whole_sum zs

-- the sums of the four ends over all topics
abbrev pub totals_of : List Ends → Totals
totals_of ends = record {
  least_lo = whole_sum (map (λ (e : Ends). e.least_lo) ends);
  least_hi = whole_sum (map (λ (e : Ends). e.least_hi) ends);
  most_lo = whole_sum (map (λ (e : Ends). e.most_lo) ends);
  most_hi = whole_sum (map (λ (e : Ends). e.most_hi) ends);
}

-- the least is below zero and the greatest is not, or the greatest is above zero and the least is not
abbrev pub differs : ℤ → ℤ → Bool
differs least most = (int_lt least (pos 0) && int_le (pos 0) most) || (int_le least (pos 0) && int_lt (pos 0) most)

-- the first that applies
abbrev pub verdict : Totals → Verdict
verdict t =
    if int_lt (pos 0) t.least_lo then Above
    else if int_lt t.most_hi (pos 0) then Below
    else if int_eq t.least_lo (pos 0) && int_eq t.most_hi (pos 0) then Equal
    else if differs t.least_hi t.most_lo then Open
    else Close

-- a fact of the four sums of two different runs, where the extremes of each topic are whole numbers of units
abbrev pub ForExactEnds : (MeasureName → List Topic → ℕ → ℕ → Totals → Type 0) → Type 0
ForExactEnds fact =
    (measure : MeasureName) (unit a b : ℕ) (topics : List Topic) (ends : List Ends) → 0 < unit → a ≢ b → AreExactEnds measure unit topics a b ends → fact measure topics a b (totals_of ends)

-- the verdict says of two runs exactly what always holds, and is never close
pub record IsExactVerdict (measure : MeasureName) (topics : List Topic) (a b : ℕ) (v : Verdict) : Type 0 where
  pub above : (v ≡ Above) ↔ IsAlwaysAbove measure topics a b
  pub below : (v ≡ Below) ↔ IsAlwaysAbove measure topics b a
  pub equal : (v ≡ Equal) ↔ AreAlwaysEqual measure topics a b
  pub never_close : v ≢ Close
