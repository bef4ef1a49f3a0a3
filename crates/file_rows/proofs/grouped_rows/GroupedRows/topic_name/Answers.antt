use Rattle.std.proofs.Common.{ap, ◌∙◌, arith}
use Rattle.std.specs.Prelude.{slice_get}
use Rattle.file_rows.proofs.Zipped.{names_held, length_held}
use Rattle.file_rows.proofs.RowFiles.{holding}
use Rattle.file_rows.proofs.grouped_rows.GroupedRows.topic_name.Goals as goal

pub get-requires : goal.get-requires
get-requires g c =
    omega (arith, length_held (holding c.self.invariant c.self.view_is))

pub returns : goal.returns
returns g c =
    ap (λ ns. slice_get ns c.args.t) (names_held (holding c.self.invariant c.self.view_is)) ∙ c.get.ensures
