use Rattle.std.proofs.Common.{ap, sym, ◌∙◌}
use Rattle.qrels_reader.specs.Grouped.{qrels_of}
use Rattle.demo_desk.specs.Texts.{qrels_after}
use Rattle.demo_desk.proofs.Said.{seed_said}
use Rattle.demo_desk.proofs.demo.demo_desk.Goals as goal

pub returns-clause-demo : goal.returns-clause-demo
returns-clause-demo c = record {
  qrels = c.in_ok-qrels.qrels;
  runs = c.in_ok-rankings.rankings.runs.items;
  said = record {
    judged = ap (λ x. qrels_of (qrels_after x)) (sym c.new-generator.ensures) ∙ c.in_ok-qrels.ensures.said;
    ranked = seed_said c.args.seed c.new-generator.result c.read_judgements.new.generator c.in_ok-qrels.qrels c.in_ok-rankings.rankings.runs.items c.new-generator.ensures c.in_ok-qrels.ensures.state c.in_ok-rankings.ensures.said;
  };
  ranked = c.in_ok-desk.ensures;
  kept = c.in_ok-rankings.ensures.rows;
}
