use Rattle.std.proofs.Common.{◌∙◌}
use Rattle.file_rows.proofs.PieceLines.{fed_last, fed_none}
use Rattle.file_rows.proofs.pieces.read_last.Goals as goal

pub returns-then-not-is_empty-clause-fed : goal.returns-then-not-is_empty-clause-fed
returns-then-not-is_empty-clause-fed g c fed s h =
    fed_last c.args.reader.now c.read_kept.new.self c.args.unended.now fed s (c.is_empty.ensures.no c.if-not-is_empty.true)
    (λ before line e. c.read_kept.ensures.read before line (c.line.ensures.line ∙ e)) h

pub returns-else-not-is_empty-clause-fed : goal.returns-else-not-is_empty-clause-fed
returns-else-not-is_empty-clause-fed g c fed s h = fed_none c.args.reader.now c.args.unended.now fed s (c.is_empty.ensures.yes c.if-not-is_empty.false) h

pub returns-else-not-is_empty-clause-same : goal.returns-else-not-is_empty-clause-same
returns-else-not-is_empty-clause-same g c = g.met.R.LineReader.itself c.args.reader.now
