-- All pairs of runs in an order of names, and the claims on them.
use Rattle.std.proofs.Common.{◌≡◌, ℕ, ◌≤◌, List, [], ◌∷◌, length, map, refl, ap, sym, subst, arith}
use Rattle.std.specs.Prelude.{All, flat_map}
use Rattle.std.specs.List.{AllByRecursion}
use Rattle.std.proofs.lemmas.List.{length-map}
use Rattle.std.proofs.lemmas.List.Elements.{All-from_recursion}
use Rattle.desk_model.specs.Desk.{Desk, IsDesk}
use Rattle.desk_model.specs.Order.{Topic}
use Rattle.desk_model.specs.Pairs.{pairs_of}
use Rattle.desk_model.specs.declared.types.Mark.{Mark}
use Rattle.desk_model.specs.declared.types.MeasureName.{MeasureName}
use Rattle.measure_core.specs.Pairs.{run_numbers}
use Rattle.measure_core.specs.declared.cell.Cell.{Cell}
use Rattle.pair_table.proofs.Zips.{IsPairBelow, pairs_below}
use Rattle.table_bundle.specs.Bundles.{if_held}
use Rattle.table_bundle.specs.Drafts.{draft_on, drafts, drafts_on, named_pair, pairs_in, IsNameOrder, IsRunPair}
use Rattle.table_bundle.proofs.InOrder.{apart_in_order, at_within, few_pairs, length-order}
use Rattle.table_bundle.proofs.Made.{all_made}

module _ (desk : Desk) (is_desk : IsDesk desk) (order : List ℕ) (ordered : IsNameOrder desk order) where
  abbrev n : ℕ
  n = length desk.runs

  below : AllByRecursion (IsPairBelow n) (pairs_of (run_numbers (length order)))
  below = subst (λ m. AllByRecursion (IsPairBelow n) (pairs_of (run_numbers m))) (sym (length-order desk is_desk order ordered)) (pairs_below n)

  -- each pair is of two runs
  pub of_runs : All (IsRunPair n) (pairs_in order)
  of_runs = All-from_recursion (IsRunPair n) (pairs_in order) (all_made (IsPairBelow n) (IsRunPair n) (named_pair order) (λ pair under. record {
    different = apart_in_order desk is_desk order ordered pair.0 pair.1 under.order under.below;
    first = at_within desk is_desk order ordered pair.0 (omega (arith, under.order, under.below));
    second = at_within desk is_desk order ordered pair.1 under.below;
  }) (pairs_of (run_numbers (length order))) below)

  -- there are no more of them than claims of a bundle
  pub few_named : length (pairs_in order) ≤ 32640
  few_named = omega (arith, length-map (pairs_of (run_numbers (length order))) (named_pair order), few_pairs desk is_desk order ordered)

map_twice : {A B C : Type 0} (f : B → C) (g : A → B) (xs : List A) → map f (map g xs) ≡ map (λ x. f (g x)) xs
map_twice f g [] = refl
map_twice f g (x ∷ xs) = ap (λ ys. f (g x) ∷ ys) (map_twice f g xs)

-- the claims on all pairs in an order
pub drafts_in : (cell : List Mark → List ℕ → List ℕ → Cell) (measure : MeasureName) (topics : List Topic) (order : List ℕ) → drafts_on cell measure topics (pairs_in order) ≡ drafts cell measure topics order
drafts_in cell measure topics order = ap (flat_map if_held) (map_twice (draft_on cell measure topics) (named_pair order) (pairs_of (run_numbers (length order))))
