use Rattle.std.proofs.Common.{◌≡◌, ◌↔◌, ℕ, true, take}
use Rattle.measure_core.proofs.RunPairs.{IsAt}
use Rattle.order_tiers.specs.Order.{IsAbovePair}
use Rattle.order_tiers.specs.Rows.{is_above, IsSquare}
use Rattle.order_tiers.proofs.direct.add_pairs.Given as goal

abbrev pub invariant-loop-place : goal.invariant-loop-place
invariant-loop-place l = record {
  square : IsSquare l.pairs.runs l.rows;
  above : (a b : ℕ) → (is_above l.rows a b ≡ true) ↔ IsAbovePair l.pairs.runs (take l.place l.pairs.verdicts.now) a b;
  at_pair : IsAt l.pairs.runs l.place l.at;
}
