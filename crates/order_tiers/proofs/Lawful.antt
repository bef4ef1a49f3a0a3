-- What the order of runs says of their scores and means, by the numbers of a measure's name.
use Rattle.std.proofs.Common.{◌≡◌, ◌≢◌, ℕ, ◌<◌, List, map, length, ℤ, pos, ◌+ℤ◌, ◌≤ℤ◌, ◌<ℤ◌, ap, sym, subst, ◌∙◌, inl, inr, arith}
use Rattle.std.proofs.lemmas.Bool.{cases_lt}
use Rattle.std.proofs.lemmas.Int.{ints}
use Rattle.small_lemmas.proofs.Numbers.{same_or_not}
use Rattle.desk_model.specs.Desk.{Desk, IsDesk, AreMarksOf, topics_under}
use Rattle.desk_model.specs.MeasureText.{IsMeasure}
use Rattle.desk_model.specs.Order.{IsAlwaysAbove}
use Rattle.desk_model.specs.Verdict.{verdict}
use Rattle.desk_model.specs.declared.types.Mark.{Mark}
use Rattle.desk_model.specs.declared.types.MeasureName.{MeasureName}
use Rattle.desk_model.specs.declared.types.MeasureName.TheVariants.{Precision}
use Rattle.desk_model.specs.declared.types.Totals.{Totals}
use Rattle.desk_model.specs.declared.types.Verdict.TheVariants.{Above, Below}
use Rattle.measure_laws.specs.Measures.{IsExactMeasure}
use Rattle.measure_core.specs.Made.{HasEnds}
use Rattle.pair_table.specs.Numbers.{ArePairNumbers, AreAllPairNumbers}
use Rattle.pair_table.proofs.Named.{ends_one}
use Rattle.pair_table.proofs.Orders.{two_runs_exact}
use Rattle.order_tiers.specs.Chains.{IsCertifiedAbove}
use Rattle.order_tiers.specs.Holding.{CertifiedIsExact, ChainsAddNoPair, IsWonPair}
use Rattle.order_tiers.specs.Order.{compared, IsAbovePair, IsCover, wins_in}
use Rattle.order_tiers.specs.declared.cover.Cover.{Cover}
use Rattle.order_tiers.proofs.Adding.{sums_add}
use Rattle.order_tiers.proofs.Always.{always_trans, never_itself, certified_above}
use Rattle.order_tiers.proofs.Chaining.{direct, least, covering}
use Rattle.order_tiers.proofs.Leads.{least_sum, ends_of_runs, above_leads, leads_above, some_won}
use Rattle.order_tiers.proofs.Said.{pairs_within, sums_at, named_above}

-- ---- the order of a desk by a name
module _ (name : MeasureName) (desk : Desk) (marks : List (List Mark)) (valid : IsMeasure name) (is_desk : IsDesk desk) (known : AreMarksOf desk marks) (totals : List Totals) (numbers : AreAllPairNumbers name desk marks totals) where
  abbrev IsUp : ℕ → ℕ → Type 0
  IsUp = IsAbovePair (length desk.runs) (map verdict totals)

  up_holds : (a b : ℕ) → IsUp a b → IsAlwaysAbove name (topics_under desk marks) a b
  up_holds = named_above name desk marks valid is_desk known totals numbers

  pub certified_holds : (a b : ℕ) → IsCertifiedAbove IsUp a b → IsAlwaysAbove name (topics_under desk marks) a b
  certified_holds = certified_above name (topics_under desk marks) IsUp up_holds

  -- two different runs, of which one is always above the other, have that verdict under precision
  exact_pair : (k : ℕ) → name ≡ Precision k → (a b : ℕ) → a ≢ b → a < length desk.runs → b < length desk.runs → IsAlwaysAbove name (topics_under desk marks) a b → IsUp a b
  exact_pair k is a b apart in_a in_b above = elim (cases_lt a b) [
    | inl less ↦
        let s = sums_at (λ x y t. ArePairNumbers name (topics_under desk marks) x y t) (length desk.runs) totals numbers a b less in_b in
        inl (s.2 Above ((two_runs_exact name desk marks a b s.0 valid is_desk known in_a in_b apart s.1 k is).above.1 above))
    | inr more ↦
        let s = sums_at (λ x y t. ArePairNumbers name (topics_under desk marks) x y t) (length desk.runs) totals numbers b a (let e = apart in grind arith) in_a in
        inr (s.2 Below ((two_runs_exact name desk marks b a s.0 valid is_desk known in_b in_a (λ e. apart (sym e)) s.1 k is).below.1 above))
  ]

  pub exactly_certified : (k : ℕ) → name ≡ Precision k → CertifiedIsExact name (compared desk marks totals)
  exactly_certified k is a b in_a in_b = (
    certified_holds a b,
    λ above. elim (same_or_not a b) [
      | inl same ↦ absurd (never_itself name (topics_under desk marks) b (subst (λ x. IsAlwaysAbove name (topics_under desk marks) x b) same above))
      | inr apart ↦ direct IsUp a b (exact_pair k is a b apart in_a in_b above)
    ],
  )

  -- ---- covering pairs
  pub cover_won : (c : Cover) → IsCover (IsCertifiedAbove IsUp) (HasEnds name) (compared desk marks totals) c → IsWonPair (compared desk marks totals) c
  cover_won c cover =
      let up = covering IsUp (length desk.runs) c.first c.second (pairs_within (length desk.runs) (map verdict totals)) cover.covering in
      let leads = above_leads name desk marks valid is_desk known totals numbers c.first c.second up in
      let same = ends_one name (topics_under desk marks) c.first c.second cover.ends leads.ends cover.named leads.named in
      record { above = up; wins = subst (λ n. 0 < n) (sym (cover.wins ∙ ap wins_in same)) (some_won leads.ends leads.above) }

  -- ---- measures whose ends are the extremes
  sum_above : (z w v : ℤ) → pos 0 <ℤ z → pos 0 <ℤ w → (z +ℤ w) ≤ℤ v → pos 0 <ℤ v
  sum_above z w v h k l = omega (arith, ints)

  up_leads_on : IsExactMeasure name → (a b c : ℕ) → IsUp a b → IsUp b c → IsUp a c
  up_leads_on exact a b c h k =
      let topics = topics_under desk marks in
      let in_a = (pairs_within (length desk.runs) (map verdict totals) a b h).0 in
      let in_c = (pairs_within (length desk.runs) (map verdict totals) b c k).1 in
      let apart : a ≢ c = λ e. never_itself name topics c (subst (λ x. IsAlwaysAbove name topics x c) e (always_trans name topics a b c (up_holds a b h) (up_holds b c k))) in
      let first = above_leads name desk marks valid is_desk known totals numbers a b h in
      let second = above_leads name desk marks valid is_desk known totals numbers b c k in
      let outer = ends_of_runs name desk marks valid is_desk known totals numbers a c apart in_a in_c in
      leads_above name desk marks valid is_desk known totals numbers a c apart in_a in_c (record {
        ends = outer.0;
        named = outer.1;
        above = sum_above (least_sum first.ends) (least_sum second.ends) (least_sum outer.0) first.above second.above (sums_add name exact a b c topics first.ends second.ends outer.0 first.named second.named outer.1);
      })

  pub no_pair_added : IsExactMeasure name → ChainsAddNoPair (compared desk marks totals)
  no_pair_added exact = least IsUp IsUp (up_leads_on exact) (λ a b h. h)
