-- Runs that are certified above others, after more judging.
use Rattle.std.proofs.Common.{ℕ, List, map, length, inl, inr, arith}
use Rattle.desk_model.specs.Desk.{Desk, IsDesk, AreMarksOf, topics_under}
use Rattle.desk_model.specs.MeasureText.{IsMeasure}
use Rattle.desk_model.specs.Verdict.{verdict}
use Rattle.desk_model.specs.declared.types.Mark.{Mark}
use Rattle.desk_model.specs.declared.types.MeasureName.{MeasureName}
use Rattle.desk_model.specs.declared.types.Totals.{Totals}
use Rattle.desk_model.specs.declared.types.Verdict.TheVariants.{Above, Below}
use Rattle.pair_table.specs.Numbers.{ArePairNumbers, AreAllPairNumbers}
use Rattle.pair_table.specs.Refined.{AreAllRefinedBy}
use Rattle.pair_table.proofs.Refining.{above_stays, below_stays}
use Rattle.order_tiers.specs.Chains.{IsCertifiedAbove}
use Rattle.order_tiers.specs.Order.{IsAbovePair}
use Rattle.order_tiers.proofs.Chaining.{wider}
use Rattle.order_tiers.proofs.Said.{said_by, sums_at}

module _ (name : MeasureName) (desk : Desk) (marks later : List (List Mark)) (totals after : List Totals) (valid : IsMeasure name) (is_desk : IsDesk desk) (known : AreMarksOf desk marks) (refined : AreAllRefinedBy marks later)
    (numbers : AreAllPairNumbers name desk marks totals) (numbers_after : AreAllPairNumbers name desk later after) where
  abbrev runs : ℕ
  runs = length desk.runs

  abbrev P : ℕ → ℕ → Totals → Type 0
  P a b s = ArePairNumbers name (topics_under desk marks) a b s

  abbrev Q : ℕ → ℕ → Totals → Type 0
  Q a b s = ArePairNumbers name (topics_under desk later) a b s

  pair_stays : (a b : ℕ) → IsAbovePair (length desk.runs) (map verdict totals) a b → IsAbovePair (length desk.runs) (map verdict after) a b
  pair_stays a b h = elim h [
    | inl up ↦
        let p = said_by P runs totals numbers a b Above up in
        let s = sums_at Q runs after numbers_after a b p.order p.below in
        inl (s.2 Above (above_stays name desk marks later a b p.sums s.0 valid is_desk known (omega (arith, p.order, p.below)) p.below refined p.holds s.1 p.said))
    | inr down ↦
        let p = said_by P runs totals numbers b a Below down in
        let s = sums_at Q runs after numbers_after b a p.order p.below in
        inr (s.2 Below (below_stays name desk marks later b a p.sums s.0 valid is_desk known (omega (arith, p.order, p.below)) p.below refined p.holds s.1 p.said))
  ]

  pub certified_stays : (a b : ℕ) → IsCertifiedAbove (IsAbovePair (length desk.runs) (map verdict totals)) a b → IsCertifiedAbove (IsAbovePair (length desk.runs) (map verdict after)) a b
  certified_stays = wider (IsAbovePair (length desk.runs) (map verdict totals)) (IsAbovePair (length desk.runs) (map verdict after)) pair_stays
