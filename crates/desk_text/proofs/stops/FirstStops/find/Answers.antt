use Rattle.std.proofs.Common.{◌≡◌, ◌/◌, ◌^◌, arith, max, subst, sym, w64}
use Rattle.std.proofs.Math.Nat.{div-le_self}
use Rattle.std.proofs.lemmas.Nat.Bits.{bit_at-trailing_zeros}
use Rattle.desk_text.specs.Stops.{IsInField}
use Rattle.desk_text.proofs.FieldBytes.{all_clear, first_clear}
use Rattle.desk_text.proofs.stops.FirstStops.find.Goals as goal

pub returns-then-found-eq0-clause-none : goal.returns-then-found-eq0-clause-none
returns-then-found-eq0-clause-none c line known within =
    let last : max c.args.from c.args.self.known ≡ c.args.self.known = omega (arith, c.if-self-from.false) in
    subst (IsInField line c.args.from) (sym last) (all_clear line c.args.self c.args.from known (omega (arith, c.if-self-from.false)) c.if-found-eq0.true)

pub returns-else-found-eq0-clause-some : goal.returns-else-found-eq0-clause-some
returns-else-found-eq0-clause-some c line known =
    let found = c.args.self.bits / 2 ^ c.args.from in
    let h = bit_at-trailing_zeros w64 found (omega (arith, c.if-found-eq0.false)) (omega (arith, div-le_self c.args.self.bits (2 ^ c.args.from))) in
    first_clear line c.args.self c.args.from known _ h.1 h.2
