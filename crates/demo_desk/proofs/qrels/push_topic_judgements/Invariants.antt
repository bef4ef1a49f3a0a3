use Rattle.std.proofs.Common.{◌≡◌, ◌++◌}
use Rattle.std.specs.Prelude.{flat_map}
use Rattle.desk_report.specs.Table.{ended}
use Rattle.demo_desk.specs.Draws.{state_after}
use Rattle.demo_desk.specs.Texts.{topic_judgements}
use Rattle.demo_desk.proofs.qrels.push_topic_judgements.Given as goal

abbrev pub invariant-loop-doc : goal.invariant-loop-doc
invariant-loop-doc l =
    (l.out.items ≡ l.initial.out.items ++ flat_map ended (topic_judgements l.initial.generator l.topic.number l.doc))
    × (l.generator ≡ state_after l.initial.generator l.doc)
