-- The order of a table that stands for a desk under marks.
use Rattle.std.proofs.Common.{◌≡◌, ◌↔◌, ℕ, Bool, true, List, map, length, ap, sym, subst, ◌∙◌, arith}
use Rattle.std.specs.Prelude.{All}
use Rattle.std.proofs.lemmas.List.{length-map}
use Rattle.desk_model.specs.Desk.{Desk, IsDesk, AreMarksOf, topics_under}
use Rattle.desk_model.specs.MeasureText.{IsMeasure}
use Rattle.desk_model.specs.Pairs.{pairs_of}
use Rattle.desk_model.specs.Verdict.{verdict}
use Rattle.desk_model.specs.declared.types.Mark.{Mark}
use Rattle.desk_model.specs.declared.types.MeasureName.{MeasureName}
use Rattle.desk_model.specs.declared.types.Totals.{Totals}
use Rattle.desk_model.specs.declared.types.Verdict.{Verdict}
use Rattle.measure_core.specs.Laws.{MeetsLaws}
use Rattle.measure_core.specs.declared.cell.Cell.{Cell}
use Rattle.topic_counts.specs.declared.span.Span.{Span}
use Rattle.pair_table.specs.Kept.{Kept, StandsFor}
use Rattle.pair_table.specs.Numbers.{HaveEnds}
use Rattle.pair_table.specs.Sums.{run_numbers, pair_sums}
use Rattle.order_tiers.specs.Chains.{IsCertifiedAbove}
use Rattle.order_tiers.specs.Tables.{AreChainRows, IsTableFor}
use Rattle.order_tiers.specs.Order.{ComparedRuns, compared, IsAbovePair, IsCertifiedIn, IsOrderBy, AreCovers, CoverIsWithin}
use Rattle.order_tiers.specs.Rows.{is_above, AboveBy, IsSquare}
use Rattle.order_tiers.specs.Tiers.{AreTiers, IsGreatestTier, tier_in}
use Rattle.order_tiers.specs.declared.cover.Cover.{Cover}
use Rattle.order_tiers.proofs.Always.{never_certified}
use Rattle.order_tiers.proofs.Chaining.{leads_on}
use Rattle.order_tiers.proofs.Covering.{same_covers}
use Rattle.order_tiers.proofs.Said.{measured_above}
use Rattle.order_tiers.proofs.Tiering.{same_tiers}
use Rattle.order_tiers.proofs.Writing.{in_row}

-- the order that is made of chain rows
pub order_made : (Has : HaveEnds) (t : ComparedRuns) (rows : List (List Bool)) (tiers : List ℕ) (greatest : ℕ) (covers : List Cover) → AreChainRows t rows → length tiers ≡ length rows → AreTiers (AboveBy rows) (length rows) (tier_in tiers) →
    IsGreatestTier tiers greatest → AreCovers (AboveBy rows) Has t covers → IsOrderBy Has t (record { above = rows; tiers = tiers; greatest = greatest; covers = covers })
order_made Has t rows tiers greatest covers chain long each most listed = record {
  square = chain.square;
  certified = chain.certified;
  count = long ∙ chain.square.count;
  tiers = same_tiers (AboveBy rows) (IsCertifiedIn t) t.runs (tier_in tiers) (λ a b. (chain.certified a b).0) (λ a b. (chain.certified a b).1) (subst (λ n. AreTiers (AboveBy rows) n (tier_in tiers)) chain.square.count each);
  greatest = most;
  covers = same_covers (AboveBy rows) (IsCertifiedIn t) Has t covers (λ a b. (chain.certified a b).0) (λ a b. (chain.certified a b).1) listed;
}

-- covering pairs are of the runs of the rows
pub covers_within : (Has : HaveEnds) (t : ComparedRuns) (rows : List (List Bool)) (n : ℕ) (covers : List Cover) → AreChainRows t rows → n ≡ t.runs → AreCovers (AboveBy rows) Has t covers → All (CoverIsWithin n) covers
covers_within Has t rows n covers chain same listed k d lt =
    let within = in_row t.runs rows chain.square _ _ (listed.each k d lt).covering.above in
    let first = within.0 in
    let second = within.1 in
    record { first = omega (arith, first, same); second = omega (arith, second, same) }

module _ {M : Type 0} (name : MeasureName) (cell : List Mark → List ℕ → List ℕ → Cell) (bounds : List Mark → List ℕ → Span) (laws : MeetsLaws name cell bounds) (desk : Desk) (marks : List (List Mark)) (table : Kept M) (h : IsTableFor name cell bounds desk marks table) where
  -- a verdict for each pair
  pub length-verdicts : length (map verdict table.totals) ≡ length (pairs_of (run_numbers (length desk.runs)))
  length-verdicts =
      length-map table.totals verdict ∙ ap length h.stands.sums.totals ∙ length-map (pairs_of (run_numbers (length desk.runs))) (λ (pair : ℕ × ℕ). pair_sums cell (topics_under desk marks) pair.0 pair.1)

  -- no run of the table is certified above itself
  pub never_of_table : (a : ℕ) → IsCertifiedIn (compared desk marks table.totals) a a → ⊥
  never_of_table =
      subst (λ (totals : List Totals). (a : ℕ) → IsCertifiedIn (compared desk marks totals) a a → ⊥) (sym h.stands.sums.totals)
      (never_certified name (topics_under desk marks) _ (measured_above name desk marks h.named h.valid h.known cell bounds laws))

  -- rows of the chains of its verdicts
  chained : (rows : List (List Bool)) → IsSquare (length desk.runs) rows → ((a b : ℕ) → (is_above rows a b ≡ true) ↔ IsCertifiedAbove (IsAbovePair (length desk.runs) (map verdict table.totals)) a b) → AreChainRows (compared desk marks table.totals) rows
  chained rows square certified = record {
    square = square;
    certified = certified;
    strict = record {
      square = subst (λ n. IsSquare n rows) (sym square.count) square;
      leads = λ a b c e f. (certified a c).1 (leads_on (IsAbovePair (length desk.runs) (map verdict table.totals)) a b c ((certified a b).0 e) ((certified b c).0 f));
      never = λ a e. never_of_table a ((certified a a).0 e);
    };
  }

  pub chain_of_table : (n : ℕ) (verdicts : List Verdict) (rows : List (List Bool)) → n ≡ length desk.runs → verdicts ≡ map verdict table.totals → IsSquare n rows → ((a b : ℕ) → (is_above rows a b ≡ true) ↔ IsCertifiedAbove (IsAbovePair n verdicts) a b) →
      AreChainRows (compared desk marks table.totals) rows
  chain_of_table n verdicts rows same said square certified =
      chained rows (subst (λ m. IsSquare m rows) same square)
      (subst (λ m. (a b : ℕ) → (is_above rows a b ≡ true) ↔ IsCertifiedAbove (IsAbovePair m (map verdict table.totals)) a b) same
      (subst (λ vs. (a b : ℕ) → (is_above rows a b ≡ true) ↔ IsCertifiedAbove (IsAbovePair n vs) a b) said certified))

-- a table of a measure whose name is known
pub table_for : {M : Type 0} (name : MeasureName) (cell : List Mark → List ℕ → List ℕ → Cell) (bounds : List Mark → List ℕ → Span) (desk : Desk) (marks rows : List (List Mark)) (table : Kept M) (told : MeasureName) →
    IsDesk desk → rows ≡ marks → AreMarksOf desk marks → StandsFor cell bounds desk marks table → told ≡ name → IsMeasure told → IsTableFor name cell bounds desk rows table
table_for name cell bounds desk marks rows table told valid same known stands is named =
    subst (λ ms. IsTableFor name cell bounds desk ms table) (sym same) (record { valid = valid; known = known; named = subst IsMeasure is named; stands = stands })
