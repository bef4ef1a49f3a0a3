use Rattle.std.proofs.Common.{◌≡◌}
use Rattle.std.specs.Prelude.{Some}
use Rattle.topics_pool.specs.Rows.{run_names, first_repeated}
use Rattle.demo_desk.proofs.Faults.{none_repeated}
use Rattle.demo_desk.proofs.demo.join.Goals as goal

pub unreachable-requires : goal.unreachable-requires
unreachable-requires c =
    let fault : first_repeated (run_names c.args.runs.items) ≡ Some c.in-Err-SameName.field-0-0 = rw c.in-Err-SameName.field-0-is at c.in-Err-SameName.ensures.fault in
    let none = none_repeated (run_names c.args.runs.items) c.requires.names in
    absurd (cc)
