use Rattle.std.proofs.Common.{◌++◌, ◌∷◌, [], ap, sym, subst, ◌∙◌}
use Rattle.std.specs.Prelude.{is_some}
use Rattle.file_rows.proofs.ReadOn.{stays}
use Rattle.qrels_reader.specs.Rows.{read_row}
use Rattle.qrels_reader.specs.Reader.{Gathers, HasRead}
use Rattle.qrels_reader.proofs.Progress.{gathered, refused}
use Rattle.qrels_reader.proofs.row_reader.RowReaderLineReader.read.Goals as goal

pub returns-in-Some-clause-read : goal.returns-in-Some-clause-read
returns-in-Some-clause-read c before h = stays read_row (Gathers c.args.self.now) c.args.self.now.fault before (c.args.line.now ∷ []) (ap is_some c.in-Some.is) h

pub returns-in-Ok-clause-read : goal.returns-in-Ok-clause-read
returns-in-Ok-clause-read c before h =
    subst (λ f. HasRead f c.read_next.new.self (before ++ c.args.line.now ∷ [])) (sym (c.in-Ok.ensures.fault ∙ c.in-None.is))
    (gathered c.args.self.now c.read_next.new.self before c.args.line.now (subst (λ f. HasRead f c.args.self.now before) c.in-None.is h) c.in-Ok.ensures.read c.in-Ok.ensures.lines)

pub returns-in-Err-clause-read : goal.returns-in-Err-clause-read
returns-in-Err-clause-read c before h =
    refused c.args.self.now c.read_next.new.self before c.args.line.now (subst (λ f. HasRead f c.args.self.now before) c.in-None.is h) c.in-Err.fault c.read_next.new.self.groups c.in-Err.ensures.read
