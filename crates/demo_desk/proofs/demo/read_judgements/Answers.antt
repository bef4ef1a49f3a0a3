use Rattle.std.proofs.Common.{ap, sym, ◌∙◌}
use Rattle.std.specs.Prelude.{is_ok}
use Rattle.qrels_reader.specs.Grouped.{qrels_of}
use Rattle.demo_desk.proofs.Faults.{only_memory, read_value}
use Rattle.demo_desk.proofs.Said.{judged_ok, judged_topics}
use Rattle.demo_desk.proofs.demo.read_judgements.Goals as goal

pub returns-in-Ok-clause-topics : goal.returns-in-Ok-clause-topics
returns-in-Ok-clause-topics c =
    let text = c.deref.ensures.value ∙ c.in_ok-text.ensures.text in
    judged_topics c.args.generator.now c.in-Ok.qrels (ap qrels_of (sym text) ∙ read_value c.in-Ok.qrels (qrels_of c.deref.result.now) c.in-Ok.ensures)

pub out_of_memory-requires : goal.out_of_memory-requires
out_of_memory-requires c =
    let text = c.deref.ensures.value ∙ c.in_ok-text.ensures.text in
    only_memory c.in-Err.fault (qrels_of c.deref.result.now) c.in-Err.ensures (ap (λ t. is_ok (qrels_of t)) text ∙ judged_ok c.args.generator.now)
