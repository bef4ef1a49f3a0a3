use Rattle.std.proofs.Common.{◌+◌, sym, ◌∙◌}
use Rattle.sheet_merge.specs.Reader.{entry_said}
use Rattle.sheet_merge.proofs.Progress.{read_formed}
use Rattle.sheet_merge.proofs.entry_reader.EntryReader.read_next.Goals as goal

pub returns-in-Ok-clause-read : goal.returns-in-Ok-clause-read
returns-in-Ok-clause-read c rows e =
    read_formed (c.args.self.now.lines + 1) rows c.args.line.now (entry_said c.in-Ok.text) c.args.self.now.table
    (sym c.is_blank.ensures ∙ c.if-is_blank.false) e (sym c.in-Ok.ensures.said) c.add.new.self.table c.add.result c.add.ensures.within c.add.ensures.added c.add.ensures.wrong
