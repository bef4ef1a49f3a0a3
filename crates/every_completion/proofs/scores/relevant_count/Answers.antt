use Rattle.std.proofs.Common.{arith, false}
use Rattle.desk_model.specs.Completion.{with_picked}
use Rattle.every_completion.proofs.Agreement.{count_taken, count_left}
use Rattle.every_completion.proofs.scores.relevant_count.Goals.{then-is_relevant, else-is_relevant}
use Rattle.every_completion.proofs.scores.relevant_count.Goals as goal

pub loop-doc-preserved : goal.loop-doc-preserved
loop-doc-preserved c = elim c.if-is_relevant.branch [
  | then-is_relevant w ↦
      (count_taken (with_picked c.args.marks.now (λ _. false)) c.loop-doc.doc c.loop-doc.n c.if-is_relevant.n c.is_relevant.result c.loop-doc.invariant.0 c.is_relevant.ensures w.if-is_relevant.true w.n-is, omega arith)
  | else-is_relevant w ↦
      (count_left (with_picked c.args.marks.now (λ _. false)) c.loop-doc.doc c.loop-doc.n c.if-is_relevant.n c.is_relevant.result c.loop-doc.invariant.0 c.is_relevant.ensures w.if-is_relevant.false w.n-is, omega arith)
]
