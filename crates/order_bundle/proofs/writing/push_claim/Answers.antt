use Rattle.std.proofs.Common.{◌++◌, map, flat_map}
use Rattle.std.specs.Prelude.{codes}
use Rattle.std.proofs.lemmas.Result.{on_ok_weaker}
use Rattle.order_bundle.specs.Bundle.{both_bounds_line, bound_line, picks_lines, runs_text}
use Rattle.order_bundle.proofs.WrittenParts.{line_and_rows}
use Rattle.order_bundle.proofs.writing.push_claim.Goals as goal

pub returns-in_ok-push_runs_of_claim-in-Above : goal.returns-in_ok-push_runs_of_claim-in-Above
returns-in_ok-push_runs_of_claim-in-Above c =
    let it = c.args.claim.now in
    let rows = rw c.as_slice.ensures at c.push_bounds.ensures in
    rw c.in-Above.is (on_ok_weaker c.push_bounds.result (line_and_rows c.args.out.now.items c.push_runs_of_claim.new.out.items c.push_bounds.new.out.items (codes "claim above " ++ runs_text it.first it.second) (map bound_line c.in-Above.bounds) c.in_ok-push_runs_of_claim-in-Above.ensures) rows)

pub returns-in_ok-push_runs_of_claim-in-Equal : goal.returns-in_ok-push_runs_of_claim-in-Equal
returns-in_ok-push_runs_of_claim-in-Equal c =
    let it = c.args.claim.now in
    let rows = rw c.as_slice-in-Equal.ensures at c.push_both_bounds.ensures in
    rw c.in-Equal.is (on_ok_weaker c.push_both_bounds.result (line_and_rows c.args.out.now.items c.push_runs_of_claim-in-Equal.new.out.items c.push_both_bounds.new.out.items (codes "claim equal " ++ runs_text it.first it.second) (map both_bounds_line c.in-Equal.bounds) c.in_ok-push_runs_of_claim-in-Equal.ensures) rows)

pub returns-in_ok-push_runs_of_claim-in-Open : goal.returns-in_ok-push_runs_of_claim-in-Open
returns-in_ok-push_runs_of_claim-in-Open c =
    let it = c.args.claim.now in
    let rows = rw c.as_slice-in-Open.ensures at c.push_topic_picks.ensures in
    rw c.in-Open.is (on_ok_weaker c.push_topic_picks.result (line_and_rows c.args.out.now.items c.push_runs_of_claim-in-Open.new.out.items c.push_topic_picks.new.out.items (codes "claim open " ++ runs_text it.first it.second) (flat_map picks_lines c.in-Open.picks) c.in_ok-push_runs_of_claim-in-Open.ensures) rows)
