use Rattle.std.proofs.lemmas.Result.{on_ok_weaker}
use Rattle.order_bundle.specs.Bundle.{opening_lines, runs_lines}
use Rattle.order_bundle.specs.Depths.{depth_lines}
use Rattle.order_bundle.specs.Scoped.{scoped_text}
use Rattle.order_bundle.proofs.WrittenParts.{three_parts}
use Rattle.order_bundle.proofs.writing.push_bundle.Goals as goal

pub returns : goal.returns
unfolding scoped_text
returns c =
    let b = c.bundle.inside in
    let rest = rw (c.as_slice.ensures, c.as_slice-2.ensures, c.as_slice-3.ensures) at c.push_from_runs.ensures in
    rw (← c.bundle.view_is) (on_ok_weaker c.push_from_runs.result (three_parts c.args.out.now.items c.push_opening.new.out.items c.push_depth.new.out.items c.push_from_runs.new.out.items
    (opening_lines b.measure b.level) (depth_lines c.args.depth) (runs_lines b.runs b.topics b.claims) c.in_ok-push_opening.ensures c.in_ok-push_depth.ensures) rest)
