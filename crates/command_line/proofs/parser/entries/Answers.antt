use Rattle.std.proofs.Common.{◌∙◌, ap}
use Rattle.clap.specs.Words.{is_simple, is_simple_and_free}
use Rattle.command_line.proofs.Rows.{simple_row, free_row}
use Rattle.command_line.proofs.parser.entries.Goals as goal

pub matched-requires-clause-simple : goal.matched-requires-clause-simple
matched-requires-clause-simple c = ap is_simple c.in_ok-command.ensures.app ∙ simple_row c.args.row.now

pub matched-requires-clause-free : goal.matched-requires-clause-free
matched-requires-clause-free c = ap is_simple_and_free c.in_ok-command.ensures.app ∙ free_row c.args.row.now
