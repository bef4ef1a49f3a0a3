use Rattle.std.proofs.Common.{◌≡◌, ◌≤◌, ◌<◌, ◌^◌, ◌+◌, ◌-◌, ◌∷◌, ◌++◌, length, decimal, replicate}
use Rattle.desk_model.proofs.measure_text.shortest.Given as goal

abbrev pub invariant-loop-top : goal.invariant-loop-top
invariant-loop-top l = record {
  few : l.places ≤ length l.decimals;
  positive : 0 < l.top;
  below_one : l.top < 10 ^ l.places;
  written : 49 ∷ l.decimals ≡ decimal (10 ^ l.places + l.top) ++ replicate (length l.decimals - l.places) 48;
}

abbrev pub decreases-loop-top : goal.decreases-loop-top
decreases-loop-top l = l.top
