use Rattle.std.proofs.Common.{arith}
use Rattle.std.proofs.lemmas.Int.{ints}
use Rattle.measure_core.proofs.Cells.{ends_same}
use Rattle.measure_core.proofs.kept.KeptCell.of.Goals as goal

pub returns : goal.returns
returns c =
    let least = c.requires.least in
    let most = c.requires.most in
    ends_same _ _ _ _ c.args.cell (omega (arith, ints, c.kept_end.ensures, least)) (omega (arith, ints, c.kept_end-2.ensures, least)) (omega (arith, ints, c.kept_end-3.ensures, most)) (omega (arith, ints, c.kept_end-4.ensures, most))
