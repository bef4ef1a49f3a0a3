use Rattle.std.proofs.Common.{subst}
use Rattle.desk_text.specs.Lines.{lines}
use Rattle.sheet_merge.specs.Lines.{IsSheetUnlessMemory}
use Rattle.sheet_merge.specs.Reader.{HasReadEntries}
use Rattle.sheet_merge.proofs.Progress.{finished, told}
use Rattle.sheet_merge.proofs.entry_reader.EntryReader.finish.Goals as goal

pub returns-in-Some : goal.returns-in-Some
returns-in-Some c = told c.args.self c.args.fed.now.bytes c.in-Some.fault (subst (λ f. HasReadEntries f c.args.self (lines c.args.fed.now.bytes)) c.in-Some.is c.requires)

pub returns : goal.returns
returns c =
    subst (IsSheetUnlessMemory c.sorted_sheet.result) (finished c.args.self c.args.fed.now.bytes (subst (λ f. HasReadEntries f c.args.self (lines c.args.fed.now.bytes)) c.in-None.is c.requires)) c.sorted_sheet.ensures
