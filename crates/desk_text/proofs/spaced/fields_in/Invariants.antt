use Rattle.std.proofs.Common.{◌≡◌, ℕ, List, ◌≤◌, ◌/◌, ◌^◌, length}
use Rattle.desk_text.specs.Stops.{AreFieldBits}
use Rattle.desk_text.proofs.Marking.{Marked}
use Rattle.desk_text.proofs.spaced.fields_in.Given as goal

abbrev pub invariant-loop-left : goal.invariant-loop-left
invariant-loop-left l = record {
  left_is : l.left ≡ l.bits / 2 ^ l.at;
  marked : (line : List ℕ) → AreFieldBits line l.bits → Marked line l.count l.places l.at;
  within : (line : List ℕ) → AreFieldBits line l.bits → l.at ≤ length line;
  six : length l.places ≡ 6;
  few : l.at ≤ 63;
  counted : l.count ≤ l.at;
}

abbrev pub decreases-loop-left : goal.decreases-loop-left
decreases-loop-left l = l.left
