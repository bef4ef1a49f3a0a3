use Rattle.std.proofs.lemmas.Result.{err_from_is_err_and}
use Rattle.line_forms.proofs.Sequel.{then_reads, stop_reads}
use Rattle.order_bundle.specs.Places.{from_topics, run_places}
use Rattle.order_bundle.proofs.TopicRows.{runs_forth, runs_plain}
use Rattle.order_bundle.proofs.reading.from_runs.Goals as goal

pub returns-in_err-runs : goal.returns-in_err-runs
returns-in_err-runs c =
    let p = err_from_is_err_and c.from_residual.result c.from_residual.ensures.1 in
    rw (p.1, p.2) (stop_reads run_places (from_topics c.args.measure c.args.level) c.args.lines.now.rest c.runs.new.lines c.in_err-runs.field-0.0 runs_plain c.in_err-runs.ensures)

pub from_topics-requires-clause-runs : goal.from_topics-requires-clause-runs
from_topics-requires-clause-runs c = (runs_forth c.in_ok-runs.ensures.lines c.in_ok-runs.runs c.in_ok-runs.ensures.spells).0

pub returns : goal.returns
returns c = then_reads run_places (from_topics c.args.measure c.args.level) c.args.lines.now.rest c.runs.new.lines.rest c.in_ok-runs.runs c.from_topics.new.lines c.from_topics.result runs_plain c.in_ok-runs.ensures c.from_topics.ensures
