use Rattle.std.proofs.Common.{arith}
use Rattle.desk_text.proofs.FieldBits.{flipped_bits}
use Rattle.desk_text.proofs.stops.FirstStops.in_fields.Goals as goal

pub returns-clause-bits : goal.returns-clause-bits
returns-clause-bits c line known spaced all =
    let mask = c.low_bits.ensures in
    rw mask (flipped_bits line c.args.self (omega arith) c.requires known spaced all)
