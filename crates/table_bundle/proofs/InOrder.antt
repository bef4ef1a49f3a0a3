-- The runs of a desk in ascending order of their names.
use Rattle.std.proofs.Common.{◌≡◌, ◌≢◌, ℕ, ◌*◌, ◌/◌, ◌-◌, ◌<◌, ◌≤◌, true, List, [], length, map, Some, ap, sym, ◌∙◌, arith}
use Rattle.std.specs.Prelude.{All, slice_index, IsPermutation}
use Rattle.std.proofs.lemmas.List.{get_or-map, length-map}
use Rattle.std.proofs.lemmas.List.FromFn.{get_or-range_with_len, length-range_with_len}
use Rattle.std.proofs.lemmas.List.Sorted.{All-permutation, length_permutation}
use Rattle.std.proofs.lemmas.Option.{slice_get-get_or}
use Rattle.std.proofs.Math.Nat.{mul-le-mul_right}
use Rattle.desk_model.specs.Desk.{Desk, IsDesk}
use Rattle.desk_model.specs.Name.{is_name, number_of}
use Rattle.desk_model.specs.Pairs.{pairs_of}
use Rattle.measure_core.specs.Pairs.{run_numbers}
use Rattle.order_bundle.specs.Bundle.{AreBundleRuns}
use Rattle.order_bundle.specs.Evidence.{name_at}
use Rattle.pair_table.proofs.Listing.{number_there}
use Rattle.pair_table.proofs.PairNumbers.{length-pairs}
use Rattle.table_bundle.specs.Drafts.{IsNameOrder}
use Rattle.table_bundle.proofs.Ascending.{names_moved, one_number}

module _ (desk : Desk) (is_desk : IsDesk desk) (order : List ℕ) (ordered : IsNameOrder desk order) where
  abbrev n : ℕ
  n = length desk.runs

  pub length-order : length order ≡ n
  length-order = length_permutation (run_numbers n) order ordered.moved ∙ length-range_with_len 0 n

  -- there are no more pairs than claims of a bundle
  pub few_pairs : length (pairs_of (run_numbers (length order))) ≤ 32640
  few_pairs =
      let m = length order in
      let most : m ≤ 256 = omega (arith, length-order, is_desk.runs) in
      let product : m * (m - 1) ≤ 256 * (m - 1) = mul-le-mul_right (m - 1) most in
      let pairs_are : length (pairs_of (run_numbers m)) ≡ m * (m - 1) / 2 = length-pairs m in
      omega (arith, most, product, pairs_are)

  pub order_within : All (λ run. run < n) order
  order_within = All-permutation (λ run. run < n) (run_numbers n) order ordered.moved (λ k d lt.
      let long = length-range_with_len 0 n in
      let is = get_or-range_with_len 0 n k d (omega (arith, lt, long)) in
      omega (arith, is, lt, long))

  pub at_within : (i : ℕ) → i < n → slice_index order i < n
  at_within i lt = order_within i 0 (omega (arith, lt, length-order))

  abbrev names : List (List ℕ)
  names = map (name_at desk.runs) order

  pub length-names : length names ≡ n
  length-names = length-map order (name_at desk.runs) ∙ length-order

  name_in_order : (i : ℕ) → i < n → name_at names i ≡ name_at desk.runs (slice_index order i)
  name_in_order i lt = get_or-map (name_at desk.runs) order i 0 [] (omega (arith, lt, length-order))

  pub number_in_order : (i : ℕ) → i < n → number_of desk.runs (name_at names i) ≡ Some (slice_index order i)
  number_in_order i lt =
      ap (number_of desk.runs) (name_in_order i lt) ∙ number_there desk.runs (slice_index order i) _ is_desk.distinct (slice_get-get_or desk.runs (slice_index order i) [] (at_within i lt))

  pub apart_in_order : (i j : ℕ) → i < j → j < n → slice_index order i ≢ slice_index order j
  apart_in_order i j lt in_j same =
      let names_same : name_at names i ≡ name_at names j = name_in_order i (omega (arith, lt, in_j)) ∙ ap (name_at desk.runs) same ∙ sym (name_in_order j in_j) in
      let is = one_number names ordered.ascending i j (omega (arith, lt, in_j, length-names)) (omega (arith, in_j, length-names)) names_same in
      omega (arith, is, lt)

  pub runs_moved : IsPermutation desk.runs names
  runs_moved = names_moved desk.runs order ordered.moved

  pub runs_of_bundle : 2 ≤ n → AreBundleRuns names
  runs_of_bundle two = record {
    count = (omega (arith, two, length-names), omega (arith, is_desk.runs, length-names));
    ascending = record { named = All-permutation (λ name. is_name name ≡ true) desk.runs names runs_moved is_desk.named; ascending = ordered.ascending };
  }
