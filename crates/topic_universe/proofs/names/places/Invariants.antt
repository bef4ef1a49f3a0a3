use Rattle.std.proofs.Common.{◌≡◌, ℕ, true, length, take, map, get_or, nat_eq}
use Rattle.std.specs.List.{list_any}
use Rattle.topic_universe.specs.Sorted.{IsPlaceOf}
use Rattle.topic_universe.proofs.names.places.Given as goal

abbrev pub invariant-loop-i : goal.invariant-loop-i
invariant-loop-i l = record {
  count : length l.places.items ≡ length l.pairs;
  places : (n : ℕ) → list_any (nat_eq n) (take l.i (map (λ pair. pair.1) l.pairs)) ≡ true → IsPlaceOf l.pairs n (get_or l.places.items n 0);
}
