-- What the verdicts of pairs say of two runs.
use Rattle.std.proofs.Common.{◌≡◌, ℕ, ◌+◌, ◌-◌, ◌*◌, ◌/◌, ◌<◌, List, [], ◌∷◌, map, length, get_or, pos, Some, refl, ap, sym, subst, ◌∙◌, inl, inr, arith}
use Rattle.std.specs.Prelude.{slice_get}
use Rattle.std.specs.List.{AllZip, AllByRecursion}
use Rattle.std.proofs.lemmas.List.{length-map}
use Rattle.std.proofs.lemmas.Option.{slice_get-get_or, slice_get_within}
use Rattle.small_lemmas.proofs.Lists.{all_there, map_there}
use Rattle.desk_model.specs.Desk.{Desk, IsDesk, AreMarksOf, topics_under}
use Rattle.desk_model.specs.MeasureText.{IsMeasure}
use Rattle.desk_model.specs.Order.{Topic, IsAlwaysAbove}
use Rattle.desk_model.specs.Pairs.{pairs_of}
use Rattle.desk_model.specs.Verdict.{verdict}
use Rattle.desk_model.specs.declared.types.Mark.{Mark}
use Rattle.desk_model.specs.declared.types.MeasureName.{MeasureName}
use Rattle.desk_model.specs.declared.types.Totals.{Totals}
use Rattle.desk_model.specs.declared.types.Verdict.{Verdict}
use Rattle.desk_model.specs.declared.types.Verdict.TheVariants.{Above, Below}
use Rattle.desk_model.proofs.Nested.{length-zipped, zipped_at}
use Rattle.measure_core.specs.Laws.{MeetsLaws}
use Rattle.measure_core.specs.declared.cell.Cell.{Cell}
use Rattle.topic_counts.specs.declared.span.Span.{Span}
use Rattle.pair_table.specs.Numbers.{ArePairNumbers, AreAllPairNumbers}
use Rattle.pair_table.specs.Orders.{HoldsOfPair}
use Rattle.pair_table.specs.Sums.{run_numbers, pair_sums, all_pair_sums}
use Rattle.pair_table.proofs.Orders.{two_runs_hold, measure_pairs_hold}
use Rattle.pair_table.proofs.PairNumbers.{pair_numbered}
use Rattle.pair_table.proofs.Zips.{zip_making, IsPairBelow, pairs_below}
use Rattle.order_tiers.specs.Chains.{IsAmongRuns}
use Rattle.order_tiers.specs.Order.{HasVerdict, IsAbovePair}

pub no_totals : Totals
no_totals = record { least_lo = pos 0; least_hi = pos 0; most_lo = pos 0; most_hi = pos 0 }

same_some : {X : Type 0} (x y : X) → Some x ≡ Some y → x ≡ y
same_some x y e = cc

-- runs that are above others by their pairs are so many
pub pairs_within : (runs : ℕ) (verdicts : List Verdict) → IsAmongRuns (IsAbovePair runs verdicts) runs
pairs_within runs verdicts a b h = elim h [
  | inl up ↦ let p = ordered a b up.number up.pair in (let order = p.order in let below = p.below in omega (arith, order, below), p.below)
  | inr down ↦ let p = ordered b a down.number down.pair in (p.below, let order = p.order in let below = p.below in omega (arith, order, below))
]
  where
    ordered : (x y k : ℕ) → slice_get (pairs_of (run_numbers runs)) k ≡ Some (x, y) → IsPairBelow runs (x, y)
    ordered x y k e = all_there (IsPairBelow runs) (pairs_of (run_numbers runs)) k (x, y) (pairs_below runs) e

-- the sums of a pair with a verdict
pub record IsSaidBy (P : ℕ → ℕ → Totals → Type 0) (runs a b : ℕ) (v : Verdict) : Type 0 where
  pub sums : Totals
  pub holds : P a b sums
  pub said : verdict sums ≡ v
  pub order : a < b
  pub below : b < runs

module _ (P : ℕ → ℕ → Totals → Type 0) (runs : ℕ) (totals : List Totals) (all : AllZip (λ (pair : ℕ × ℕ) (s : Totals). P pair.0 pair.1 s) (pairs_of (run_numbers runs)) totals) where
  pub said_by : (a b : ℕ) (v : Verdict) → HasVerdict runs (map verdict totals) a b v → IsSaidBy P runs a b v
  said_by a b v h =
      let k = h.number in
      let inside : k < length totals = omega (arith, slice_get_within (map verdict totals) k v h.said, length-map totals verdict) in
      let s : Totals = get_or totals k no_totals in
      let there : slice_get totals k ≡ Some s = slice_get-get_or totals k no_totals inside in
      let ordered = all_there (IsPairBelow runs) (pairs_of (run_numbers runs)) k (a, b) (pairs_below runs) h.pair in
      record {
        sums = s;
        holds = zipped_at (λ (pair : ℕ × ℕ) (t : Totals). P pair.0 pair.1 t) (pairs_of (run_numbers runs)) totals k (a, b) no_totals all h.pair;
        said = same_some (verdict s) v (sym (map_there verdict totals k s there) ∙ h.said);
        order = ordered.order;
        below = ordered.below;
      }

  -- each pair has sums and their verdict
  pub sums_at : (a b : ℕ) → a < b → b < runs → (s : Totals) × P a b s × ((v : Verdict) → verdict s ≡ v → HasVerdict runs (map verdict totals) a b v)
  sums_at a b less below =
      let k : ℕ = a * (2 * runs - a - 1) / 2 + (b - a - 1) in
      let pair = pair_numbered runs a b less below in
      let long = length-zipped (λ (p : ℕ × ℕ) (t : Totals). P p.0 p.1 t) (pairs_of (run_numbers runs)) totals all in
      let inside : k < length totals = omega (arith, slice_get_within (pairs_of (run_numbers runs)) k (a, b) pair, long) in
      let s : Totals = get_or totals k no_totals in
      let there : slice_get totals k ≡ Some s = slice_get-get_or totals k no_totals inside in (
        s,
        zipped_at (λ (p : ℕ × ℕ) (t : Totals). P p.0 p.1 t) (pairs_of (run_numbers runs)) totals k (a, b) no_totals all pair,
        λ v is. record { number = k; pair = pair; said = map_there verdict totals k s there ∙ ap Some is },
      )

  pub above_holds : (name : MeasureName) (topics : List Topic) → ((a b : ℕ) (s : Totals) → P a b s → a < b → b < runs → HoldsOfPair name topics a b s) → (a b : ℕ) → IsAbovePair runs (map verdict totals) a b → IsAlwaysAbove name topics a b
  above_holds name topics hold a b h = elim h [
    | inl up ↦ let p = said_by a b Above up in (hold a b p.sums p.holds p.order p.below).above p.said
    | inr down ↦ let p = said_by b a Below down in (hold b a p.sums p.holds p.order p.below).below p.said
  ]

-- ---- the numbers of a name
module _ (name : MeasureName) (desk : Desk) (marks : List (List Mark)) (valid : IsMeasure name) (is_desk : IsDesk desk) (known : AreMarksOf desk marks) where
  pub named_above : (totals : List Totals) → AreAllPairNumbers name desk marks totals → (a b : ℕ) → IsAbovePair (length desk.runs) (map verdict totals) a b → IsAlwaysAbove name (topics_under desk marks) a b
  named_above totals numbers =
      above_holds (λ a b s. ArePairNumbers name (topics_under desk marks) a b s) (length desk.runs) totals numbers name (topics_under desk marks)
      (λ a b s h less below. two_runs_hold name desk marks a b s valid is_desk known (omega (arith, less, below)) below (λ e. omega (arith, less, e)) h)

  -- ---- a measure that meets its laws
  module _ (cell : List Mark → List ℕ → List ℕ → Cell) (bounds : List Mark → List ℕ → Span) (laws : MeetsLaws name cell bounds) where
    made_of : {A B : Type 0} (f : A → B) (xs : List A) → AllByRecursion (λ x. f x ≡ f x) xs
    made_of f [] = tt
    made_of f (x ∷ xs) = (refl, made_of f xs)

    pub measured_sums : AllZip (λ (pair : ℕ × ℕ) (s : Totals). s ≡ pair_sums cell (topics_under desk marks) pair.0 pair.1) (pairs_of (run_numbers (length desk.runs))) (all_pair_sums cell (topics_under desk marks) (length desk.runs))
    measured_sums =
        let f = λ (pair : ℕ × ℕ). pair_sums cell (topics_under desk marks) pair.0 pair.1 in
        zip_making (λ (pair : ℕ × ℕ) (s : Totals). s ≡ f pair) f (pairs_of (run_numbers (length desk.runs))) (made_of f (pairs_of (run_numbers (length desk.runs))))

    pub measured_above : (a b : ℕ) → IsAbovePair (length desk.runs) (map verdict (all_pair_sums cell (topics_under desk marks) (length desk.runs))) a b → IsAlwaysAbove name (topics_under desk marks) a b
    measured_above =
        above_holds (λ a b s. s ≡ pair_sums cell (topics_under desk marks) a b) (length desk.runs) (all_pair_sums cell (topics_under desk marks) (length desk.runs)) measured_sums name (topics_under desk marks)
        (λ a b s h less below. subst (HoldsOfPair name (topics_under desk marks) a b) (sym h)
        (measure_pairs_hold name cell bounds desk marks a b valid laws is_desk known (λ e. omega (arith, less, e)) (omega (arith, less, below)) below))
