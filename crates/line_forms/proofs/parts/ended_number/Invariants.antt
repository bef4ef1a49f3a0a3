use Rattle.std.proofs.Common.{◌≡◌, ◌<◌, ◌≤◌, ◌-◌, length, take, decimal}
use Rattle.line_forms.proofs.parts.ended_number.Given as goal

-- the digits so far say the number
abbrev pub invariant-loop-digits : goal.invariant-loop-digits
invariant-loop-digits l = record {
  said : take l.digits l.text ≡ decimal l.number;
  there : 0 < l.number;
  small : l.number < 1000000000;
  within : l.digits ≤ length l.text;
}

abbrev pub decreases-loop-digits : goal.decreases-loop-digits
decreases-loop-digits l = length l.text - l.digits
