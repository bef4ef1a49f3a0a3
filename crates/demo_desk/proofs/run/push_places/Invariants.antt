use Rattle.std.proofs.Common.{◌≡◌, ◌++◌, ◌+◌, ◌*◌}
use Rattle.std.specs.Prelude.{flat_map}
use Rattle.desk_report.specs.Table.{ended}
use Rattle.demo_desk.specs.Draws.{state_after}
use Rattle.demo_desk.specs.Texts.{places_on}
use Rattle.demo_desk.proofs.run.push_places.Given as goal

abbrev pub invariant-loop-topic : goal.invariant-loop-topic
invariant-loop-topic l =
    (l.out.items ≡ l.initial.out.items ++ flat_map ended (places_on l.initial.generator l.run.number l.places l.topic))
    × (l.generator ≡ state_after l.initial.generator ((1 + l.places) * l.topic))
