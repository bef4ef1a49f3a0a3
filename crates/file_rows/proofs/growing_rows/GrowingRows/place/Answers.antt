use Rattle.std.proofs.Common.{ap, sym, ◌∙◌, position}
use Rattle.std.specs.Str.{bytes_eq}
use Rattle.file_rows.proofs.Zipped.{names_held}
use Rattle.file_rows.proofs.RowFiles.{holding}
use Rattle.file_rows.proofs.growing_rows.GrowingRows.place.Goals as goal

pub returns : goal.returns
returns g c =
    c.place.ensures.place
    ∙ ap (position (bytes_eq c.args.name.now)) (sym (names_held (holding c.self.invariant c.self.view_is)))
