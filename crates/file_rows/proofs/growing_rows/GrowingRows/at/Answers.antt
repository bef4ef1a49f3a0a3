use Rattle.std.proofs.Common.{sym, arith}
use Rattle.file_rows.proofs.Zipped.{in_place, held}
use Rattle.file_rows.proofs.RowFiles.{holding}
use Rattle.file_rows.proofs.growing_rows.GrowingRows.at.Goals as goal

pub index-requires : goal.index-requires
index-requires g c =
    let lt = in_place (holding c.self.invariant c.self.view_is) c.args.t c.requires in omega (arith, lt)

pub returns : goal.returns
returns g c =
    sym (held (holding c.self.invariant c.self.view_is) c.args.t c.index.result.now c.requires c.index.ensures)
