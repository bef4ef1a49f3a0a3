-- The ends that a measure's name has, under refined marks.
use Rattle.std.proofs.Common.{ℕ, ◌<◌, ◌≤◌, List, [], length, false, ℤ, ◌≤ℤ◌, sym, subst, arith}
use Rattle.std.proofs.lemmas.Int.{ints}
use Rattle.desk_model.specs.Completion.{with_picked}
use Rattle.desk_model.specs.Extremes.{Ends, AreExtremes, AreBounds, IsAtMostScore, IsAtLeastScore}
use Rattle.desk_model.specs.Fraction.{IsAtMost, IsAtLeast}
use Rattle.desk_model.specs.MeasureText.{IsMeasure, IsPersistence}
use Rattle.desk_model.specs.Ranking.{IsRanking}
use Rattle.desk_model.specs.declared.types.Mark.{Mark}
use Rattle.desk_model.specs.declared.types.MeasureName.{MeasureName}
use Rattle.desk_model.specs.declared.types.MeasureName.TheVariants.{Precision, Recall, RPrecision, Reciprocal, Biased, AveragePrecision}
use Rattle.desk_model.proofs.Completions.{with_picked-Completes}
use Rattle.desk_model.proofs.Exact.{at_most_least}
use Rattle.desk_model.proofs.Topics.{score-den}
use Rattle.measure_laws.specs.Ends.{HasEnds}
use Rattle.measure_laws.specs.Measures.{unit_of}
use Rattle.measure_laws.specs.Refinement.{AreRefinedBy}
use Rattle.measure_laws.specs.Shares.{biased_ends}
use Rattle.measure_laws.specs.AverageEnds.{average_ends}
use Rattle.measure_laws.proofs.AverageLeast.{least_lo_rises, most_hi_falls}
use Rattle.measure_laws.proofs.NamedEnds.{low_encloses, high_encloses}
use Rattle.measure_laws.proofs.Refined.{in_every_refined, in_every_score_refined}
use Rattle.measure_laws.proofs.RefinedShares.{least_rises}

-- outer ends that close in
abbrev pub CloseIn : Ends → Ends → Type 0
CloseIn before after = (before.least_lo ≤ℤ after.least_lo) × (after.most_hi ≤ℤ before.most_hi)

extremes_close_in : (m : MeasureName) (unit : ℕ) (marks later : List Mark) (a b : List ℕ) (e f : Ends) → AreRefinedBy marks later → AreExtremes m unit marks a b e → AreExtremes m unit later a b f → CloseIn e f
extremes_close_in m unit marks later a b e f h x y = (
  y.least_lo.others e.least_lo (in_every_refined m marks later a b (IsAtMost e.least_lo unit) h x.least_lo.so),
  y.most_hi.others e.most_hi (in_every_refined m marks later a b (IsAtLeast e.most_hi unit) h x.most_hi.so),
)

biased_close_in : (top bottom : ℕ) (marks later : List Mark) (a b : List ℕ) → IsPersistence top bottom → AreRefinedBy marks later → CloseIn (biased_ends top bottom marks a b) (biased_ends top bottom later a b)
biased_close_in top bottom marks later a b p h =
    let le : top ≤ bottom = omega (arith, p.below_one) in
    let some : 0 < bottom = omega (arith, p.below_one) in
    (least_rises marks later h top bottom a b le some, omega (arith, ints, least_rises marks later h top bottom b a le some))

pub named_ends_close_in : (m : MeasureName) (marks later : List Mark) (a b : List ℕ) (e f : Ends) → IsMeasure m → IsRanking (length marks) a → IsRanking (length marks) b → AreRefinedBy marks later → HasEnds m marks a b e → HasEnds m later a b f → CloseIn e f
named_ends_close_in (Precision k) marks later a b e f valid ra rb h x y = extremes_close_in (Precision k) (unit_of (Precision k)) marks later a b e f h x y
named_ends_close_in (Recall k) marks later a b e f valid ra rb h x y = extremes_close_in (Recall k) (unit_of (Recall k)) marks later a b e f h x y
named_ends_close_in RPrecision marks later a b e f valid ra rb h x y = extremes_close_in RPrecision (unit_of RPrecision) marks later a b e f h x y
named_ends_close_in Reciprocal marks later a b e f valid ra rb h x y = extremes_close_in Reciprocal (unit_of Reciprocal) marks later a b e f h x y
named_ends_close_in (Biased top bottom) marks later a b e f valid ra rb h x y =
    subst (λ (r : Ends). CloseIn r f) (sym x) (subst (λ (r : Ends). CloseIn (biased_ends top bottom marks a b) r) (sym y) (biased_close_in top bottom marks later a b valid h))
named_ends_close_in AveragePrecision marks later a b e f valid ra rb h x y =
    subst (λ (r : Ends). CloseIn r f) (sym x) (subst (λ (r : Ends). CloseIn (average_ends marks a b) r) (sym y) (least_lo_rises marks later a b h ra rb, most_hi_falls marks later a b h ra rb))

-- the bounds of one run
pub bounds_within : (m : MeasureName) (unit : ℕ) (marks later : List Mark) (a : List ℕ) (lo hi lo' hi' : ℤ) → AreRefinedBy marks later → AreBounds m unit marks a lo hi → AreBounds m unit later a lo' hi' → (lo ≤ℤ lo') × (hi' ≤ℤ hi)
bounds_within m unit marks later a lo hi lo' hi' h x y = (
  y.low.others lo (in_every_score_refined m marks later a (IsAtMostScore lo unit) h x.low.so),
  y.high.others hi (in_every_score_refined m marks later a (IsAtLeastScore hi unit) h x.high.so),
)

-- the outer ends are in order, since there is a completion
pub ends_in_order : (m : MeasureName) (marks : List Mark) (a b : List ℕ) (e : Ends) → IsMeasure m → IsRanking (length marks) a → IsRanking (length marks) b → HasEnds m marks a b e → e.least_lo ≤ℤ e.most_hi
ends_in_order m marks a b e valid ra rb h =
    let truth = with_picked marks (λ _. false) in
    let whole = with_picked-Completes marks (λ _. false) in
    at_most_least e.least_lo e.most_hi (unit_of m) _ _ (score-den m (length marks) truth a []) (score-den m (length marks) truth b [])
    (low_encloses m marks a b e valid ra rb h truth [] [] whole) (high_encloses m marks a b e valid ra rb h truth [] [] whole)
