use Rattle.std.proofs.Common.{◌/◌, ◌%◌, ℕ, nat_eq, get_or, ap}
use Rattle.std.proofs.lemmas.Nat.Bits.{shr_and_one}
use Rattle.measure_core.proofs.bits.has_bit.Goals as goal

pub returns : goal.returns
returns c = ap (λ (n : ℕ). nat_eq n 1) (shr_and_one (get_or c.args.bits.now (c.args.doc / 64) 0) (c.args.doc % 64))
