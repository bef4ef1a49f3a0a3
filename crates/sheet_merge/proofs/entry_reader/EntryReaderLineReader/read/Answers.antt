use Rattle.std.proofs.Common.{◌++◌, ◌∷◌, [], ap, sym, subst, ◌∙◌}
use Rattle.std.specs.Prelude.{is_some}
use Rattle.sheet_merge.specs.Reader.{HasReadEntries}
use Rattle.sheet_merge.specs.Stopped.{stays}
use Rattle.sheet_merge.proofs.Progress.{gathered, refused}
use Rattle.sheet_merge.proofs.entry_reader.EntryReaderLineReader.read.Goals as goal

pub returns-in-Some-clause-read : goal.returns-in-Some-clause-read
returns-in-Some-clause-read c before h = stays c.args.self.now c.args.self.now.fault before (c.args.line.now ∷ []) (ap is_some c.in-Some.is) h

pub returns-in-Ok-clause-read : goal.returns-in-Ok-clause-read
returns-in-Ok-clause-read c before h =
    subst (λ f. HasReadEntries f c.read_next.new.self (before ++ c.args.line.now ∷ [])) (sym (c.in-Ok.ensures.fault ∙ c.in-None.is))
    (gathered c.args.self.now c.read_next.new.self before c.args.line.now (subst (λ f. HasReadEntries f c.args.self.now before) c.in-None.is h) c.in-Ok.ensures.read c.in-Ok.ensures.lines)

pub returns-in-Err-clause-read : goal.returns-in-Err-clause-read
returns-in-Err-clause-read c before h =
    refused c.args.self.now c.read_next.new.self before c.args.line.now (subst (λ f. HasReadEntries f c.args.self.now before) c.in-None.is h) c.in-Err.fault c.read_next.new.self.table c.in-Err.ensures.read
