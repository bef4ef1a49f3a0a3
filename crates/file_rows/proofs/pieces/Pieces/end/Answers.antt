use Rattle.std.proofs.Common.{sym, ◌∙◌, subst}
use Rattle.desk_text.specs.Lines.{lines}
use Rattle.file_rows.proofs.PieceLines.{fed_stopped}
use Rattle.file_rows.proofs.pieces.Pieces.end.Goals as goal
use Rattle.file_rows.proofs.pieces.Pieces.end.Goals.{then-not-is_stopped, else-not-is_stopped}

pub returns-clause-fed : goal.returns-clause-fed
returns-clause-fed g c fed h =
    elim c.if-not-is_stopped.branch [
      | then-not-is_stopped w ↦ subst (λ r. g.R.LineReader.has_read r (lines fed)) (sym w.reader-is) (w.read_last.ensures.fed fed (sym c.is_stopped.ensures ∙ w.if-not-is_stopped.true) h)
      | else-not-is_stopped w ↦ subst (λ r. g.R.LineReader.has_read r (lines fed)) (sym w.reader-is)
          (fed_stopped c.args.self.reader c.args.self.unended fed (λ before more had. g.met.R.LineReader.stays c.args.self.reader before more (sym c.is_stopped.ensures ∙ w.if-not-is_stopped.false) had) h)
    ]

pub returns-clause-ready : goal.returns-clause-ready
returns-clause-ready g c =
    elim c.if-not-is_stopped.branch [
      | then-not-is_stopped w ↦ subst g.R.LineReader.is_ready (sym w.reader-is) w.read_last.ensures.ready
      | else-not-is_stopped w ↦ subst g.R.LineReader.is_ready (sym w.reader-is) c.requires
    ]

pub returns-clause-same : goal.returns-clause-same
returns-clause-same g c =
    elim c.if-not-is_stopped.branch [
      | then-not-is_stopped w ↦ subst (g.R.LineReader.same c.args.self.reader) (sym w.reader-is) w.read_last.ensures.same
      | else-not-is_stopped w ↦ subst (g.R.LineReader.same c.args.self.reader) (sym w.reader-is) (g.met.R.LineReader.itself c.args.self.reader)
    ]
