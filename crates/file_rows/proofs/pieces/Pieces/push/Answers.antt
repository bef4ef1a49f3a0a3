use Rattle.std.proofs.Common.{◌∙◌}
use Rattle.file_rows.proofs.PieceLines.{fed_more, fed_end}
use Rattle.file_rows.proofs.pieces.Pieces.push.Goals as goal

pub returns-then-pushed-clause-fed : goal.returns-then-pushed-clause-fed
returns-then-pushed-clause-fed g c fed s h =
    fed_end c.args.self.now.reader c.read_kept.new.self c.args.self.now.unended c.push-pushed.new.self c.clear.new.self fed c.args.piece.now c.push-pushed.result s c.push-pushed.ensures c.if-pushed.true c.clear.ensures
    (λ before line e. c.read_kept.ensures.read before line (c.line.ensures.line ∙ e)) h

pub returns-else-pushed-clause-fed : goal.returns-else-pushed-clause-fed
returns-else-pushed-clause-fed g c fed s h =
    fed_more c.args.self.now.reader c.args.self.now.unended c.push-pushed.new.self fed c.args.piece.now c.push-pushed.result s c.push-pushed.ensures c.if-pushed.false h

pub returns-else-pushed-clause-same : goal.returns-else-pushed-clause-same
returns-else-pushed-clause-same g c = g.met.R.LineReader.itself c.args.self.now.reader
