use Rattle.std.proofs.Common.{◌-◌, ◌^◌, ◌<◌, length}
use Rattle.desk_text.specs.Plain.{AreDigitsBehind}
use Rattle.desk_text.proofs.mantissa.with_digits.Given as goal

abbrev pub invariant-loop-end : goal.invariant-loop-end
invariant-loop-end l = record {
  digits : AreDigitsBehind l.text l.from l.start l.end l.number;
  small : l.number < 10 ^ l.end;
}

abbrev pub decreases-loop-end : goal.decreases-loop-end
decreases-loop-end l = length l.text - l.end
