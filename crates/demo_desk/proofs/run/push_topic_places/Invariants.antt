use Rattle.std.proofs.Common.{◌≡◌, ◌++◌, ◌+◌}
use Rattle.std.specs.Prelude.{flat_map}
use Rattle.desk_report.specs.Table.{ended}
use Rattle.demo_desk.specs.Draws.{state_after}
use Rattle.demo_desk.specs.Texts.{topic_places}
use Rattle.demo_desk.proofs.run.push_topic_places.Given as goal

abbrev pub invariant-loop-place : goal.invariant-loop-place
invariant-loop-place l =
    (l.out.items ≡ l.initial.out.items ++ flat_map ended (topic_places l.fn.generator l.run.number l.topic.number l.place))
    × (l.generator ≡ state_after l.fn.generator (1 + l.place))
