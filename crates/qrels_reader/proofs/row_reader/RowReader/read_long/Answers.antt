use Rattle.std.proofs.Common.{◌∷◌, [], ap, subst}
use Rattle.std.specs.Prelude.{is_some}
use Rattle.file_rows.proofs.ReadOn.{stays}
use Rattle.qrels_reader.specs.Rows.{read_row}
use Rattle.qrels_reader.specs.Reader.{Gathers, HasRead}
use Rattle.qrels_reader.proofs.Progress.{too_long}
use Rattle.qrels_reader.proofs.row_reader.RowReader.read_long.Goals as goal

pub returns-in-Some : goal.returns-in-Some
returns-in-Some c before line long h = stays read_row (Gathers c.args.self.now) c.args.self.now.fault before (line ∷ []) (ap is_some c.in-Some.is) h

pub returns-in-None : goal.returns-in-None
returns-in-None c before line long h =
    too_long c.args.self.now c.args.self.now before line (subst (λ f. HasRead f c.args.self.now before) c.in-None.is h) c.too_long.result c.too_long.ensures long
