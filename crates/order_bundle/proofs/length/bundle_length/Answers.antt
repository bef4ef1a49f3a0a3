use Rattle.std.proofs.Common.{arith, length}
use Rattle.order_bundle.specs.Bundle.{bundle_text, opening_lines, runs_lines}
use Rattle.order_bundle.proofs.Counting.{claims_have_few, more_lines}
use Rattle.order_bundle.proofs.length.bundle_length.Goals as goal

pub from_runs_length-from_runs-requires-clause-few : goal.from_runs_length-from_runs-requires-clause-few
from_runs_length-from_runs-requires-clause-few c =
    let b = c.bundle.inside in
    rw c.as_slice-3.ensures (claims_have_few (length b.runs) b.topics b.claims c.bundle.invariant.topics c.bundle.invariant.claims)

pub returns-clause-count : goal.returns-clause-count
unfolding bundle_text
returns-clause-count c =
    let b = c.bundle.inside in
    let from_runs = rw (c.as_slice.ensures, c.as_slice-2.ensures, c.as_slice-3.ensures) at c.from_runs_length-from_runs.ensures.count in
    rw (← c.bundle.view_is) (omega (arith, from_runs, c.opening_length.ensures.count, more_lines (opening_lines b.measure b.level) (runs_lines b.runs b.topics b.claims)))
