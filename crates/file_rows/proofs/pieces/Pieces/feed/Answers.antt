use Rattle.std.proofs.Common.{◌++◌, arith, subst, sym, append-nil, take}
use Rattle.file_rows.specs.Pieces.{HasFed}
use Rattle.file_rows.proofs.PieceLines.{taken_more}
use Rattle.file_rows.proofs.pieces.Pieces.feed.Goals as goal

pub loop-at-preserved : goal.loop-at-preserved
loop-at-preserved g c = record {
  within = omega (arith, c.take-at.ensures.within);
  same = g.met.R.LineReader.later c.args.self.now.reader c.loop-at.self.reader c.take-at.new.self.reader c.loop-at.invariant.same c.take-at.ensures.same;
  ready = c.take-at.ensures.ready;
  fed = λ fed h. subst (HasFed g.R.LineReader.has_read g.R.LineReader.stopped c.take-at.new.self.reader c.take-at.new.self.unended) (taken_more c.args.piece.now fed c.loop-at.at c.take-at.result)
      (c.take-at.ensures.fed (fed ++ take c.loop-at.at c.args.piece.now) (c.loop-at.invariant.fed fed h));
}

pub loop-at-init : goal.loop-at-init
loop-at-init g c = record {
  within = omega arith;
  same = g.met.R.LineReader.itself c.args.self.now.reader;
  ready = c.requires;
  fed = λ fed h. subst (HasFed g.R.LineReader.has_read g.R.LineReader.stopped c.args.self.now.reader c.args.self.now.unended) (sym (append-nil fed)) h;
}
