use Rattle.std.proofs.lemmas.Result.{err_from_is_err_and}
use Rattle.line_forms.proofs.Sequel.{then_reads, stop_reads}
use Rattle.order_bundle.specs.Places.{from_claims, topics_places}
use Rattle.order_bundle.proofs.TopicRows.{topic_names_plain, topics_forth}
use Rattle.order_bundle.proofs.reading.from_topics.Goals as goal

pub returns-in_err-topics : goal.returns-in_err-topics
returns-in_err-topics c =
    let p = err_from_is_err_and c.from_residual.result c.from_residual.ensures.1 in
    rw (p.1, p.2) (stop_reads topics_places (from_claims c.args.measure c.args.level c.args.runs) c.args.lines.now.rest c.topics.new.lines c.in_err-topics.field-0.0 topic_names_plain c.in_err-topics.ensures)

pub from_claims-requires-clause-topics : goal.from_claims-requires-clause-topics
from_claims-requires-clause-topics c = (topics_forth c.in_ok-topics.ensures.lines c.in_ok-topics.topics c.in_ok-topics.ensures.spells).0

pub returns : goal.returns
returns c = then_reads topics_places (from_claims c.args.measure c.args.level c.args.runs) c.args.lines.now.rest c.topics.new.lines.rest c.in_ok-topics.topics c.from_claims.new.lines c.from_claims.result topic_names_plain c.in_ok-topics.ensures c.from_claims.ensures
