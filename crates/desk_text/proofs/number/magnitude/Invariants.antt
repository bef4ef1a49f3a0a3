use Rattle.std.proofs.Common.{◌≡◌, ◌^◌, ◌-◌, min, take}
use Rattle.std.specs.Prelude.{true}
use Rattle.std.specs.Str.{all_ascii_digits}
use Rattle.desk_text.specs.Numbers.{read_on}
use Rattle.desk_text.proofs.number.magnitude.Given as goal

abbrev pub invariant-loop-digit : goal.invariant-loop-digit
invariant-loop-digit l = record {
  digits : all_ascii_digits (take l.digit-index l.digits) ≡ true;
  value : l.value ≡ min (read_on 0 (take l.digit-index l.digits)) (2 ^ 64 - 1);
}
