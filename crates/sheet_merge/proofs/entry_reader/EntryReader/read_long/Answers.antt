use Rattle.std.proofs.Common.{◌∷◌, [], ap, subst}
use Rattle.std.specs.Prelude.{is_some}
use Rattle.sheet_merge.specs.Reader.{HasReadEntries}
use Rattle.sheet_merge.specs.Stopped.{stays}
use Rattle.sheet_merge.proofs.Progress.{too_long}
use Rattle.sheet_merge.proofs.entry_reader.EntryReader.read_long.Goals as goal

pub returns-in-Some : goal.returns-in-Some
returns-in-Some c before line long h = stays c.args.self.now c.args.self.now.fault before (line ∷ []) (ap is_some c.in-Some.is) h

pub returns-in-None : goal.returns-in-None
returns-in-None c before line long h =
    too_long c.args.self.now c.args.self.now before line (subst (λ f. HasReadEntries f c.args.self.now before) c.in-None.is h) c.too_long.result c.too_long.ensures long
