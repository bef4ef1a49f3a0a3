use Rattle.std.proofs.Common.{sym, ◌∙◌, length, take}
use Rattle.file_rows.proofs.PieceLines.{fed_on, fed_line}
use Rattle.file_rows.proofs.pieces.Pieces.take.Goals as goal

pub returns-then-is_stopped-clause-fed : goal.returns-then-is_stopped-clause-fed
returns-then-is_stopped-clause-fed g c fed h =
    let stopped = sym c.is_stopped.ensures ∙ c.if-is_stopped.true in
    fed_on c.args.self.now.reader c.args.self.now.unended fed (take (length c.args.piece.now) c.args.piece.now) (λ before more had. g.met.R.LineReader.stays c.args.self.now.reader before more stopped had) stopped h

pub returns-in-Some-clause-fed : goal.returns-in-Some-clause-fed
returns-in-Some-clause-fed g c fed h =
    fed_line c.args.self.now.reader c.read.new.self c.args.self.now.unended fed c.args.piece.now c.in-Some.end (sym c.is_stopped.ensures ∙ c.if-is_stopped.false)
    (c.is_empty.ensures.yes c.if-is_empty.true) c.in-Some.ensures c.read.ensures.read h

pub returns-then-is_stopped-clause-same : goal.returns-then-is_stopped-clause-same
returns-then-is_stopped-clause-same g c = g.met.R.LineReader.itself c.args.self.now.reader
