use Rattle.std.proofs.Common.{◌≡◌, ◌^◌, ◌<◌, drop}
use Rattle.std.specs.Str.Parse.{digits_value_after}
use Rattle.desk_text.proofs.significand.with_many.Given as goal

abbrev pub invariant-loop-digit : goal.invariant-loop-digit
invariant-loop-digit l =
    (l.number < 10 ^ 30) × (digits_value_after 10 l.number (drop l.digit-index l.digits) ≡ digits_value_after 10 l.start l.digits)
