use Rattle.std.proofs.Common.{◌+◌, sym, ◌∙◌}
use Rattle.qrels_reader.specs.Reader.{row_said}
use Rattle.qrels_reader.proofs.Chains.{read_formed}
use Rattle.qrels_reader.proofs.row_reader.RowReader.read_next.Goals as goal

pub returns-in-Ok-clause-read : goal.returns-in-Ok-clause-read
returns-in-Ok-clause-read c rows e =
    read_formed (c.args.self.now.lines + 1) rows c.args.line.now (row_said c.in-Ok.row) c.args.self.now.groups c.add.new.self.groups c.add.result
    (sym c.is_blank.ensures ∙ c.if-is_blank.false) e (sym c.in-Ok.ensures) c.add.ensures.right c.add.ensures.added c.add.ensures.wrong
