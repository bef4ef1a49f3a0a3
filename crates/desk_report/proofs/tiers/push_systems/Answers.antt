use Rattle.std.proofs.Common.{arith, Some, ap, sym, ◌∙◌}
use Rattle.desk_report.specs.Tiers.{system_line}
use Rattle.desk_report.proofs.Joins.{one_more, all_lines, get_or-there}
use Rattle.desk_report.proofs.tiers.push_systems.Goals as goal

pub loop-run-preserved : goal.loop-run-preserved
loop-run-preserved c =
    let tiers = c.args.order.now.tiers in
    let run = c.loop-run.run in
    one_more (λ r. system_line r.0 r.1) c.args.desk.now.runs tiers run c.run_name.result.now c.tier.result c.args.out.now.items c.loop-run.out.items c.push_system.new.out.items
    c.run_name.ensures (get_or-there tiers run 0 (omega arith) ∙ ap Some (sym c.tier.ensures)) c.loop-run.invariant c.in_ok-push_system.ensures

pub returns : goal.returns
returns c = all_lines (λ r. system_line r.0 r.1) c.args.desk.now.runs c.args.order.now.tiers c.loop-run.run c.args.out.now.items c.loop-run.out.items c.requires (omega arith) c.loop-run.invariant
