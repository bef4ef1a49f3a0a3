use Rattle.std.proofs.Common.{◌≡◌, ◌^◌, ◌≤◌, ◌<◌, ℕ, length, slice_index_or}
use Rattle.measure_laws.specs.Powers.{low_power, high_power}
use Rattle.topic_counts.specs.Places.{place_of}
use Rattle.topic_counts.specs.declared.powers.Place.{Place}
use Rattle.topic_counts.proofs.powers.Powers.new.Given as goal

abbrev pub invariant-loop-i : goal.invariant-loop-i
invariant-loop-i l = record {
  low : l.low ≡ low_power l.top l.bottom l._i;
  high : l.high ≡ high_power l.top l.bottom l._i;
  low_small : l.low ≤ 10 ^ 18;
  high_small : l.high ≤ 10 ^ 18;
  count : length l.places.items ≡ l._i;
  each : (i : ℕ) (p : Place) → i < l._i → slice_index_or l.places.items i p ≡ place_of l.top l.bottom i;
}
