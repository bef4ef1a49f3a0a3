-- Runs that lead by the sum of their least differences.
use Rattle.std.proofs.Common.{◌≡◌, ◌≢◌, ℕ, ◌<◌, true, false, cond, List, [], ◌∷◌, map, length, ℤ, pos, neg_ℤ, ◌+ℤ◌, ◌≤ℤ◌, ◌<ℤ◌, refl, ap, sym, subst, ◌∙◌, inl, inr, arith}
use Rattle.std.specs.Prelude.{int_lt}
use Rattle.std.specs.List.{AllByRecursion}
use Rattle.std.proofs.lemmas.Bool.{cases_lt}
use Rattle.std.proofs.lemmas.Int.{ints}
use Rattle.std.proofs.lemmas.List.Sums.{sum_by-cons}
use Rattle.small_lemmas.proofs.Tests.{not_positive}
use Rattle.desk_model.specs.Desk.{Desk, IsDesk, AreMarksOf, topics_under}
use Rattle.desk_model.specs.Extremes.{Ends}
use Rattle.desk_model.specs.MeasureText.{IsMeasure}
use Rattle.desk_model.specs.Order.{Topic}
use Rattle.desk_model.specs.Verdict.{whole_sum, totals_of, verdict}
use Rattle.desk_model.specs.declared.types.Mark.{Mark}
use Rattle.desk_model.specs.declared.types.MeasureName.{MeasureName}
use Rattle.desk_model.specs.declared.types.Totals.{Totals}
use Rattle.desk_model.specs.declared.types.Verdict.TheVariants.{Above, Below}
use Rattle.measure_laws.proofs.CaseEnds.{named_swapped}
use Rattle.measure_laws.proofs.Swapping.{swapped_ends}
use Rattle.pair_table.specs.Numbers.{ArePairNumbers, AreAllPairNumbers, AreEndsOf}
use Rattle.pair_table.proofs.DeskTopics.{topics_met}
use Rattle.pair_table.proofs.Named.{ends_one}
use Rattle.pair_table.proofs.Orders.{MetBy}
use Rattle.pair_table.proofs.Refining.{sums_in_order}
use Rattle.pair_table.proofs.Verdicts.{above_says, below_says, verdict_above, verdict_below}
use Rattle.order_tiers.specs.Order.{IsAbovePair, wins_in}
use Rattle.order_tiers.proofs.Said.{said_by, sums_at}
use Rattle.order_tiers.proofs.Tests.{true_or_false}

abbrev pub least_sum : List Ends → ℤ
least_sum ends = whole_sum (map (λ (e : Ends). e.least_lo) ends)

abbrev pub most_sum : List Ends → ℤ
most_sum ends = whole_sum (map (λ (e : Ends). e.most_hi) ends)

-- the ends of the swapped runs
ends_turned : (name : MeasureName) → IsMeasure name → (a b : ℕ) (ends : List Ends) (topics : List Topic) → AllByRecursion (MetBy a b) topics → AreEndsOf name topics a b ends → AreEndsOf name topics b a (map swapped_ends ends)
ends_turned name valid a b [] [] met h = tt
ends_turned name valid a b [] (t ∷ ts) met h = absurd h
ends_turned name valid a b (e ∷ es) [] met h = absurd h
ends_turned name valid a b (e ∷ es) (t ∷ ts) met h = (named_swapped name t.marks (t.ranking a) (t.ranking b) e valid met.0.first met.0.second h.0, ends_turned name valid a b es ts met.1 h.1)

neg_adds : (z w : ℤ) → neg_ℤ z +ℤ neg_ℤ w ≡ neg_ℤ (z +ℤ w)
neg_adds z w = omega (arith, ints)

sum_turned : (ends : List Ends) → least_sum (map swapped_ends ends) ≡ neg_ℤ (most_sum ends)
sum_turned [] = refl
sum_turned (e ∷ es) = ap (λ z. neg_ℤ e.most_hi +ℤ z) (sum_turned es) ∙ neg_adds e.most_hi (most_sum es)

neg_above : (z w : ℤ) → z ≡ neg_ℤ w → w <ℤ pos 0 → pos 0 <ℤ z
neg_above z w e h = omega (arith, ints)

neg_below : (z w : ℤ) → z ≡ neg_ℤ w → pos 0 <ℤ z → w <ℤ pos 0
neg_below z w e h = omega (arith, ints)

not_above : (z w : ℤ) → z ≤ℤ w → w <ℤ pos 0 → z ≤ℤ pos 0
not_above z w h k = omega (arith, ints)

-- the least differences of two runs are above zero together
pub record LeadsBy (name : MeasureName) (topics : List Topic) (a b : ℕ) : Type 0 where
  pub ends : List Ends
  pub named : AreEndsOf name topics a b ends
  pub above : pos 0 <ℤ least_sum ends

module _ (name : MeasureName) (desk : Desk) (marks : List (List Mark)) (valid : IsMeasure name) (is_desk : IsDesk desk) (known : AreMarksOf desk marks) (totals : List Totals) (numbers : AreAllPairNumbers name desk marks totals) where
  abbrev topics : List Topic
  topics = topics_under desk marks

  abbrev runs : ℕ
  runs = length desk.runs

  abbrev P : ℕ → ℕ → Totals → Type 0
  P a b s = ArePairNumbers name (topics_under desk marks) a b s

  abbrev IsUp : ℕ → ℕ → Type 0
  IsUp = IsAbovePair (length desk.runs) (map verdict totals)

  -- the ends of two different runs, in either order
  pub ends_of_runs : (a b : ℕ) → a ≢ b → a < length desk.runs → b < length desk.runs → (ends : List Ends) × AreEndsOf name (topics_under desk marks) a b ends
  ends_of_runs a b apart in_a in_b = elim (cases_lt a b) [
    | inl less ↦ let s = sums_at P runs totals numbers a b less in_b in (s.1.ends, s.1.named)
    | inr more ↦
        let s = sums_at P runs totals numbers b a (let e = apart in grind arith) in_a in
        (map swapped_ends s.1.ends, ends_turned name valid b a s.1.ends topics (topics_met desk marks is_desk known b a in_b in_a) s.1.named)
  ]

  pub above_leads : (a b : ℕ) → IsUp a b → LeadsBy name (topics_under desk marks) a b
  above_leads a b h = elim h [
    | inl up ↦
        let p = said_by P runs totals numbers a b Above up in
        record { ends = p.holds.ends; named = p.holds.named; above = above_says (totals_of p.holds.ends) (sym (ap verdict p.holds.summed) ∙ p.said) }
    | inr down ↦
        let p = said_by P runs totals numbers b a Below down in
        let in_b : b < runs = omega (arith, p.order, p.below) in
        record {
          ends = map swapped_ends p.holds.ends;
          named = ends_turned name valid b a p.holds.ends topics (topics_met desk marks is_desk known b a in_b p.below) p.holds.named;
          above = neg_above (least_sum (map swapped_ends p.holds.ends)) (most_sum p.holds.ends) (sum_turned p.holds.ends) (below_says (totals_of p.holds.ends) (sym (ap verdict p.holds.summed) ∙ p.said));
        }
  ]

  pub leads_above : (a b : ℕ) → a ≢ b → a < length desk.runs → b < length desk.runs → LeadsBy name (topics_under desk marks) a b → IsUp a b
  leads_above a b apart in_a in_b h = elim (cases_lt a b) [
    | inl less ↦
        let s = sums_at P runs totals numbers a b less in_b in
        let same = ends_one name topics a b h.ends s.1.ends h.named s.1.named in
        inl (s.2 Above (ap verdict s.1.summed ∙ verdict_above (totals_of s.1.ends) (subst (λ es. pos 0 <ℤ least_sum es) same h.above)))
    | inr more ↦
        let s = sums_at P runs totals numbers b a (let e = apart in grind arith) in_a in
        let met = topics_met desk marks is_desk known b a in_b in_a in
        let turned = ends_turned name valid b a s.1.ends topics met s.1.named in
        let same = ends_one name topics a b h.ends (map swapped_ends s.1.ends) h.named turned in
        let under = neg_below (least_sum (map swapped_ends s.1.ends)) (most_sum s.1.ends) (sum_turned s.1.ends) (subst (λ es. pos 0 <ℤ least_sum es) same h.above) in
        let low = not_above (least_sum s.1.ends) (most_sum s.1.ends) (sums_in_order name valid b a topics s.1.ends met s.1.named) under in
        inr (s.2 Below (ap verdict s.1.summed ∙ verdict_below (totals_of s.1.ends) low under))
  ]

-- ---- a sum above zero has a number above zero
none_won : (e : Ends) (es : List Ends) → int_lt (pos 0) e.least_lo ≡ false → wins_in (e ∷ es) ≡ wins_in es
none_won e es no_ =
    let value : ℕ = cond (int_lt (pos 0) e.least_lo) 1 0 in let none : value ≡ 0 = ap (λ b. cond b 1 0) no_ in
    omega (arith, none, sum_by-cons (λ (x : Ends). cond (int_lt (pos 0) x.least_lo) 1 0) e es)

one_won : (e : Ends) (es : List Ends) → int_lt (pos 0) e.least_lo ≡ true → 0 < wins_in (e ∷ es)
one_won e es yes_ =
    let value : ℕ = cond (int_lt (pos 0) e.least_lo) 1 0 in let one : value ≡ 1 = ap (λ b. cond b 1 0) yes_ in
    omega (arith, one, sum_by-cons (λ (x : Ends). cond (int_lt (pos 0) x.least_lo) 1 0) e es)

rest_above : (z w : ℤ) → pos 0 <ℤ (z +ℤ w) → z ≤ℤ pos 0 → pos 0 <ℤ w
rest_above z w h k = omega (arith, ints)

pub some_won : (ends : List Ends) → pos 0 <ℤ least_sum ends → 0 < wins_in ends
some_won [] h = absurd (let none : pos 0 <ℤ pos 0 = h in omega (arith, ints))
some_won (e ∷ es) h = elim (true_or_false (int_lt (pos 0) e.least_lo)) [
  | inl yes_ ↦ one_won e es yes_
  | inr no_ ↦
      let same = none_won e es no_ in
      let rest = some_won es (rest_above e.least_lo (least_sum es) h (not_positive e.least_lo no_)) in
      omega (arith, same, rest)
]
