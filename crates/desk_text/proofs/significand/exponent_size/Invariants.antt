use Rattle.std.proofs.Common.{◌≡◌, min, take}
use Rattle.std.specs.Str.Parse.{digits_value}
use Rattle.desk_text.specs.declared.significand.TheConstants.{FAR}
use Rattle.desk_text.proofs.significand.exponent_size.Given as goal

abbrev pub invariant-loop-digit : goal.invariant-loop-digit
invariant-loop-digit l = l.size ≡ min (digits_value 10 (take l.digit-index l.digits)) FAR
