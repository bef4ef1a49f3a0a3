use Rattle.std.proofs.Common.{◌≤◌, ◌-◌, arith, get_or}
use Rattle.desk_text.proofs.PlainNumbers.{more_room, digit_behind}
use Rattle.desk_text.proofs.mantissa.with_digits.Goals as goal

pub overflow_mul-number : goal.overflow_mul-number
overflow_mul-number c =
    let room = more_room c.loop-end.number c.loop-end.end _ 0 c.loop-end.invariant.small c.loop-end-test.true c.requires.few (omega arith) in
    record { fits = omega (arith, room.1) }

pub overflow_add-number : goal.overflow_add-number
overflow_add-number c =
    let digit : get_or c.args.text.now c.loop-end.end 0 - 48 ≤ 9 = omega (arith, c.if-is_ascii_digit.ensures.cases) in
    let room = more_room c.loop-end.number c.loop-end.end _ _ c.loop-end.invariant.small c.loop-end-test.true c.requires.few digit in
    record { fits = omega (arith, room.1, c.from.ensures) }

pub loop-end-preserved : goal.loop-end-preserved
loop-end-preserved c =
    let text = c.args.text.now in
    let end = c.loop-end.end in
    let number = c.loop-end.number in
    let digit : get_or text end 0 - 48 ≤ 9 = omega (arith, c.if-is_ascii_digit.ensures.cases) in
    let room = more_room number end _ _ c.loop-end.invariant.small c.loop-end-test.true c.requires.few digit in
    let value = c.from.ensures in
    record {
      digits = rw value (digit_behind text c.args.from c.args.start end number c.loop-end.invariant.digits c.loop-end-test.true c.if-is_ascii_digit.ensures.cases);
      small = rw value room.0;
    }
