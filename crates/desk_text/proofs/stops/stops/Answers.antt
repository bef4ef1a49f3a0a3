use Rattle.std.proofs.Common.{arith, ltb, eqb, w8}
use Rattle.std.specs.Simd.Lanes.{chunk}
use Rattle.std.proofs.lemmas.Simd.{bitmask_splat, length-chunk}
use Rattle.desk_text.proofs.FieldBytes.{stop_bit, few_bits}
use Rattle.desk_text.proofs.stops.stops.Goals as goal

pub returns-clause-bits : goal.returns-clause-bits
returns-clause-bits c k lt =
    let line = c.args.line.now in
    let from = c.args.from in
    let long = length-chunk from 16 line c.requires in
    stop_bit line from _ _ k c.requires (bitmask_splat w8 ltb (chunk from 16 line) 16 33 long (omega arith)) (bitmask_splat w8 eqb (chunk from 16 line) 16 127 long (omega arith)) lt

pub returns-clause-few : goal.returns-clause-few
returns-clause-few c =
    let line = c.args.line.now in
    let from = c.args.from in
    let long = length-chunk from 16 line c.requires in
    few_bits 33 line from _ _ c.requires (bitmask_splat w8 ltb (chunk from 16 line) 16 33 long (omega arith)) (bitmask_splat w8 eqb (chunk from 16 line) 16 127 long (omega arith))
