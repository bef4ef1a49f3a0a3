use Rattle.std.proofs.Common.{ap, refl, sym, ◌∙◌, arith}
use Rattle.std.specs.Prelude.{None}
use Rattle.run_reader.specs.Run.{run_of}
use Rattle.demo_desk.specs.Draws.{state_after}
use Rattle.demo_desk.specs.Texts.{run_after}
use Rattle.demo_desk.proofs.TextLines.{state_after-none, state_after-times}
use Rattle.demo_desk.proofs.Said.{none_said, said_more, next_ok}
use Rattle.demo_desk.proofs.demo.read_rankings.Goals as goal

pub loop-run-init : goal.loop-run-init
loop-run-init c = record {
  said = rw (c.name_bytes.ensures.count, c.new-runs.ensures.items) (none_said c.args.generator.now c.args.qrels.now c.requires.topics);
  state = state_after-none c.args.generator.now 0 refl;
  within = record { rows = omega arith; name_bytes = c.name_bytes.ensures.most };
}

pub read_ranking-requires-clause-read : goal.read_ranking-requires-clause-read
read_ranking-requires-clause-read c =
    next_ok c.args.generator.now c.loop-run.run c.loop-run.generator c.args.qrels.now c.loop-run.used c.loop-run.runs.items c.loop-run.invariant.state (omega (arith, c.loop-run-test.true, c.requires.count)) c.requires.topics c.loop-run.invariant.said

pub loop-run-preserved : goal.loop-run-preserved
loop-run-preserved c =
    let kept = c.loop-run.invariant in
    let read = ap (λ g. run_of None c.args.qrels.now c.loop-run.used (run_after g c.loop-run.run)) (sym kept.state) ∙ c.in_ok-ranking.ensures.said in
    record {
      said = rw (c.used-used.ensures.value, c.in_ok-push_run.ensures)
          (said_more c.args.generator.now c.loop-run.run c.args.qrels.now c.loop-run.used c.loop-run.runs.items c.in_ok-ranking.ranking (omega (arith, c.loop-run-test.true, c.requires.count)) c.requires.topics kept.said read);
      state = c.in_ok-ranking.ensures.state ∙ ap (λ s. state_after s 25050) kept.state ∙ state_after-times c.args.generator.now 25050 c.loop-run.run;
      within = c.used-used.ensures.within;
    }
