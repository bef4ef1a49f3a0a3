-- The sums of two runs and of the swapped runs.
use Rattle.std.proofs.Common.{◌≡◌, ℕ, ◌<◌, List, [], ◌∷◌, map, length, neg_ℤ, ◌≤ℤ◌, refl, ap, sym, subst, ◌∙◌, arith}
use Rattle.std.proofs.lemmas.Int.{ints}
use Rattle.desk_model.specs.Desk.{Desk, IsDesk, AreMarksOf, topics_under}
use Rattle.desk_model.specs.Extremes.{Ends}
use Rattle.desk_model.specs.MeasureText.{IsMeasure}
use Rattle.desk_model.specs.Order.{Topic}
use Rattle.desk_model.specs.Verdict.{whole_sum, totals_of, verdict}
use Rattle.desk_model.specs.declared.types.Mark.{Mark}
use Rattle.desk_model.specs.declared.types.MeasureName.{MeasureName}
use Rattle.desk_model.specs.declared.types.Totals.{Totals}
use Rattle.desk_model.specs.declared.types.Verdict.{Verdict}
use Rattle.desk_model.specs.declared.types.Verdict.TheVariants.{Above, Below, Equal, Open, Close}
use Rattle.measure_laws.proofs.Swapping.{swapped_ends}
use Rattle.pair_table.specs.Numbers.{ArePairNumbers}
use Rattle.pair_table.proofs.DeskTopics.{topics_met}
use Rattle.pair_table.proofs.Evident.{swapped_sum, swapped_all}
use Rattle.pair_table.proofs.Refining.{sums_in_order}
use Rattle.pair_table.proofs.Verdicts.{verdict_above, verdict_below, verdict_equal, above_says, below_says, equal_says}
use Rattle.desk_laws.specs.Settled.{IsSettled, swapped}

most_swapped : (ends : List Ends) → whole_sum (map (λ (e : Ends). e.most_hi) (map swapped_ends ends)) ≡ neg_ℤ (whole_sum (map (λ (e : Ends). e.least_lo) ends))
most_swapped [] = refl
most_swapped (e ∷ ends) = omega (arith, ints, most_swapped ends)

-- the verdict of swapped sums
swapped_verdict : (t u : Totals) (v : Verdict) → u.least_lo ≡ neg_ℤ t.most_hi → u.most_hi ≡ neg_ℤ t.least_lo → IsSettled v → t.least_lo ≤ℤ t.most_hi → verdict t ≡ v → verdict u ≡ swapped v
swapped_verdict t u Above low high s order is = let positive = above_says t is in verdict_below u (omega (arith, ints, low, high, positive, order)) (omega (arith, ints, high, positive))
swapped_verdict t u Below low high s order is = let negative = below_says t is in verdict_above u (omega (arith, ints, low, negative))
swapped_verdict t u Equal low high s order is = let zeros = equal_says t is in verdict_equal u (omega (arith, ints, low, zeros.1)) (omega (arith, ints, high, zeros.0))
swapped_verdict t u Open low high s order is = absurd s
swapped_verdict t u Close low high s order is = absurd s

-- sums of the swapped runs, with the swapped verdict
pub record HasSwapped (name : MeasureName) (topics : List Topic) (a b : ℕ) (v : Verdict) : Type 0 where
  pub totals : Totals
  pub summed : ArePairNumbers name topics b a totals
  pub says : verdict totals ≡ swapped v

pub swapped_numbers : (name : MeasureName) (desk : Desk) (marks : List (List Mark)) (a b : ℕ) (t : Totals) (v : Verdict) → IsMeasure name → IsDesk desk → AreMarksOf desk marks → a < length desk.runs → b < length desk.runs →
    IsSettled v → ArePairNumbers name (topics_under desk marks) a b t → verdict t ≡ v → HasSwapped name (topics_under desk marks) a b v
swapped_numbers name desk marks a b t v valid is_desk known in_a in_b settled h is =
    let met = topics_met desk marks is_desk known a b in_a in_b in
    let ends = map swapped_ends h.ends in
    let least = ap (λ (u : Totals). u.most_hi) h.summed in
    let most = ap (λ (u : Totals). u.least_lo) h.summed in
    let order : t.least_lo ≤ℤ t.most_hi = subst (λ (u : Totals). u.least_lo ≤ℤ u.most_hi) (sym h.summed) (sums_in_order name valid a b (topics_under desk marks) h.ends met h.named) in
    record {
      totals = totals_of ends;
      summed = record { ends = ends; named = swapped_all name valid a b h.ends (topics_under desk marks) met h.named; summed = refl };
      says = swapped_verdict t (totals_of ends) v (swapped_sum h.ends ∙ ap neg_ℤ (sym least)) (most_swapped h.ends ∙ ap neg_ℤ (sym most)) settled order is;
    }
