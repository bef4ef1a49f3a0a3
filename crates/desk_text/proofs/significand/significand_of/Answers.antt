use Rattle.std.proofs.Common.{refl, arith}
use Rattle.std.specs.Str.Parse.{digits_value_after}
use Rattle.std.proofs.lemmas.Int.{ints}
use Rattle.desk_text.proofs.ScoreDigits.{kept_digits, kept_long, kept_significand, digits_value_after-ge}
use Rattle.desk_text.proofs.significand.significand_of.Goals as goal

pub appended-requires-clause-all_digits : goal.appended-requires-clause-all_digits
appended-requires-clause-all_digits c = kept_digits _ _ c.kept_parts.ensures.whole_kept c.requires.whole_digits

pub appended-requires-2-clause-all_digits : goal.appended-requires-2-clause-all_digits
appended-requires-2-clause-all_digits c = kept_digits _ _ c.kept_parts.ensures.fraction_kept c.requires.fraction_digits

pub returns-in_err-appended-clause-long : goal.returns-in_err-appended-clause-long
returns-in_err-appended-clause-long c =
    let kept = c.kept_parts.result in
    let prefix = digits_value_after 10 0 kept.0.now in
    let more = digits_value_after-ge prefix kept.1.now in
    let long = kept_long c.args.whole.now c.args.fraction.now kept.0.now kept.1.now c.requires.whole_digits c.requires.fraction_digits c.kept_parts.ensures prefix refl (omega (arith, more, c.in_err-appended.ensures.long)) in
    rw c.from_residual.ensures long

pub returns-in_err-digits-clause-long : goal.returns-in_err-digits-clause-long
returns-in_err-digits-clause-long c =
    let kept = c.kept_parts.result in
    let long = kept_long c.args.whole.now c.args.fraction.now kept.0.now kept.1.now c.requires.whole_digits c.requires.fraction_digits c.kept_parts.ensures c.in_ok-appended.field-0 c.in_ok-appended.ensures.value c.in_err-digits.ensures.long in
    rw c.from_residual-in_err-digits.ensures long

pub returns-clause-some : goal.returns-clause-some
returns-clause-some c =
    let kept = c.kept_parts.result in
    kept_significand c.args.whole.now c.args.fraction.now kept.0.now kept.1.now c.requires.whole_digits c.requires.fraction_digits c.kept_parts.ensures
    c.in_ok-appended.field-0 c.in_ok-digits.digits _ c.in_ok-appended.ensures.value c.in_ok-digits.ensures.value (omega (arith, ints))
