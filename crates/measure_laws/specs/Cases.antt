-- The least case of a pair, and the tails that go with it. The most case of (a, b) is the least case of (b, a).
use Rattle.std.specs.Prelude.{◌≡◌, ℕ, ◌^◌, Bool, true, ◌&&◌, ◌||◌, nat_lt, List, [], length, All}
use Rattle.desk_model.specs.Completion.{with_picked}
use Rattle.desk_model.specs.Score.{true_among}
use Rattle.desk_model.specs.declared.types.Mark.{Mark}
use Rattle.desk_model.specs.declared.types.MeasureName.{MeasureName}
use Rattle.desk_model.specs.declared.types.MeasureName.TheVariants.{Precision, Recall, RPrecision, Reciprocal, Biased, AveragePrecision}
use Rattle.measure_laws.specs.Measures.{Family, Counted, Shared, Separate, family_of}
use Rattle.measure_laws.specs.Prefixes.{only_second, neutral}
use Rattle.measure_laws.specs.ReciprocalCase.{with_choice, reciprocal_choice}
use Rattle.measure_laws.specs.RprecCase.{rprec_truth}
use Rattle.measure_laws.specs.Shares.{biased_truth}
use Rattle.measure_laws.specs.AverageEnds.{average_truth}

-- the unjudged documents made relevant: those of b's first k alone, and where a leads those in both or neither
abbrev pub picked_where : Bool → ℕ → List ℕ → List ℕ → ℕ → Bool
picked_where leads k a b doc = only_second k a b doc || (leads && neutral k a b doc)

-- those of recall's least case: a leads where it still has more relevant documents once b has its own
abbrev pub recall_pick : ℕ → List Mark → List ℕ → List ℕ → ℕ → Bool
recall_pick k marks a b =
    let truth = with_picked marks (only_second k a b) in picked_where (nat_lt (true_among truth k b) (true_among truth k a)) k a b

-- the truth values of the least case, by measure
abbrev pub least_truth : MeasureName → List Mark → List ℕ → List ℕ → ℕ → Bool
least_truth (Precision k) marks a b = with_picked marks (only_second k a b)
least_truth (Recall k) marks a b = with_picked marks (recall_pick k marks a b)
least_truth RPrecision marks a b = rprec_truth marks a b
least_truth Reciprocal marks a b = with_choice marks (reciprocal_choice marks a b)
least_truth (Biased top bottom) marks a b = biased_truth marks a b
least_truth AveragePrecision marks a b = average_truth marks a b

-- a tail of 10^24 relevant places
pub record IsLongTail (tail : List Bool) : Type 0 where
  pub relevant : All (λ gain. gain ≡ true) tail
  pub length_is : length tail ≡ 10 ^ 24

-- the tails of the least case: none, but where ranks have shares, where b has a long one
abbrev pub HasLeastTailsBy : Family → List Bool → List Bool → Type 0
HasLeastTailsBy Counted tail_a tail_b = (tail_a ≡ []) × (tail_b ≡ [])
HasLeastTailsBy (Shared top bottom) tail_a tail_b = (tail_a ≡ []) × IsLongTail tail_b
HasLeastTailsBy Separate tail_a tail_b = (tail_a ≡ []) × (tail_b ≡ [])

abbrev pub HasLeastTails : MeasureName → List Bool → List Bool → Type 0
HasLeastTails measure tail_a tail_b = HasLeastTailsBy (family_of measure) tail_a tail_b
