use Rattle.std.proofs.Common.{subst}
use Rattle.desk_text.specs.Lines.{lines}
use Rattle.file_rows.specs.Reading.{IsUnlessMemory}
use Rattle.qrels_reader.specs.Reader.{HasRead}
use Rattle.qrels_reader.proofs.Progress.{finished, finished_right, told}
use Rattle.qrels_reader.proofs.row_reader.RowReader.finish.Goals as goal

pub returns-in-Some : goal.returns-in-Some
returns-in-Some c = told c.args.self c.args.fed.now.bytes c.in-Some.fault (subst (λ f. HasRead f c.args.self (lines c.args.fed.now.bytes)) c.in-Some.is c.requires)

pub qrels_from-requires : goal.qrels_from-requires
qrels_from-requires c = finished_right c.args.self c.args.fed.now.bytes (subst (λ f. HasRead f c.args.self (lines c.args.fed.now.bytes)) c.in-None.is c.requires)

pub returns-in-None : goal.returns-in-None
returns-in-None c =
    subst (IsUnlessMemory c.qrels_from.result) (finished c.args.self c.args.fed.now.bytes (subst (λ f. HasRead f c.args.self (lines c.args.fed.now.bytes)) c.in-None.is c.requires)) c.qrels_from.ensures
