-- A greatest and a smallest whole number are the only ones, and so are the ends of a topic.
use Rattle.std.proofs.Common.{◌≡◌, ℕ, ◌^◌, ◌<◌, List, length, ℤ, ap, sym, ◌∙◌}
use Rattle.small_lemmas.proofs.Numbers.{both_ways}
use Rattle.desk_model.specs.Ranking.{IsRanking}
use Rattle.desk_model.specs.Extremes.{IsGreatest, IsSmallest, Ends, AreExtremes}
use Rattle.desk_model.specs.Classes.{precision_ends}
use Rattle.desk_model.specs.declared.types.Mark.{Mark}
use Rattle.desk_model.specs.declared.types.MeasureName.{MeasureName}
use Rattle.desk_model.specs.declared.types.MeasureName.TheVariants.{Precision, Recall, RPrecision, Reciprocal, Biased, AveragePrecision}
use Rattle.measure_laws.specs.Ends.{HasEnds}
use Rattle.desk_model.proofs.PrecisionEnds.{precision_extremes}

pub greatest_unique : (P : ℤ → Type 0) (z w : ℤ) → IsGreatest P z → IsGreatest P w → z ≡ w
greatest_unique P z w h k = both_ways z w (k.others z h.so) (h.others w k.so)

pub smallest_unique : (P : ℤ → Type 0) (z w : ℤ) → IsSmallest P z → IsSmallest P w → z ≡ w
smallest_unique P z w h k = both_ways z w (h.others w k.so) (k.others z h.so)

abbrev ends : ℤ → ℤ → ℤ → ℤ → Ends
ends p q r s = record { least_lo = p; least_hi = q; most_lo = r; most_hi = s }

ends_same : (p q r s p' q' r' s' : ℤ) → p ≡ p' → q ≡ q' → r ≡ r' → s ≡ s' → ends p q r s ≡ ends p' q' r' s'
ends_same p q r s p' q' r' s' ep eq er es = ap (λ z. ends z q r s) ep ∙ ap (λ z. ends p' z r s) eq ∙ ap (λ z. ends p' q' z s) er ∙ ap (λ z. ends p' q' r' z) es

-- the ends of a topic are determined
pub extremes_unique : (m : MeasureName) (unit : ℕ) (marks : List Mark) (a b : List ℕ) (e f : Ends) → AreExtremes m unit marks a b e → AreExtremes m unit marks a b f → e ≡ f
extremes_unique m unit marks a b e f h k =
    ends_same e.least_lo e.least_hi e.most_lo e.most_hi f.least_lo f.least_hi f.most_lo f.most_hi
    (greatest_unique _ e.least_lo f.least_lo h.least_lo k.least_lo) (smallest_unique _ e.least_hi f.least_hi h.least_hi k.least_hi)
    (greatest_unique _ e.most_lo f.most_lo h.most_lo k.most_lo) (smallest_unique _ e.most_hi f.most_hi h.most_hi k.most_hi)

-- and so are those that a name has
pub named_ends_unique : (m : MeasureName) (marks : List Mark) (a b : List ℕ) (e f : Ends) → HasEnds m marks a b e → HasEnds m marks a b f → e ≡ f
named_ends_unique (Precision k) marks a b e f h g = extremes_unique (Precision k) k marks a b e f h g
named_ends_unique (Recall k) marks a b e f h g = extremes_unique (Recall k) (10 ^ 18) marks a b e f h g
named_ends_unique RPrecision marks a b e f h g = extremes_unique RPrecision (10 ^ 18) marks a b e f h g
named_ends_unique Reciprocal marks a b e f h g = extremes_unique Reciprocal (10 ^ 18) marks a b e f h g
named_ends_unique (Biased top bottom) marks a b e f h g = h ∙ sym g
named_ends_unique AveragePrecision marks a b e f h g = h ∙ sym g

-- under precision they are counts of documents
pub precision_ends_are : (k : ℕ) (marks : List Mark) (a b : List ℕ) (e : Ends) → 0 < k → IsRanking (length marks) a → IsRanking (length marks) b → AreExtremes (Precision k) k marks a b e → e ≡ precision_ends k marks a b
precision_ends_are k marks a b e h ra rb x = extremes_unique (Precision k) k marks a b e (precision_ends k marks a b) x (precision_extremes k marks a b h ra rb)
