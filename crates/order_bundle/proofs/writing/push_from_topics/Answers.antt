use Rattle.std.proofs.Common.{length, flat_map}
use Rattle.std.proofs.lemmas.Result.{on_ok_weaker}
use Rattle.order_certificate.specs.Certificate.{topics_line}
use Rattle.order_bundle.specs.Bundle.{claims_lines, topic_lines}
use Rattle.order_bundle.proofs.WrittenParts.{line_rows_and_rest}
use Rattle.order_bundle.proofs.writing.push_from_topics.Goals as goal

pub returns : goal.returns
returns c =
    let topics = c.args.topics.now in
    on_ok_weaker c.push_from_claims.result
    (line_rows_and_rest c.args.out.now.items c.push_number_line.new.out.items c.push_topics.new.out.items c.push_from_claims.new.out.items (topics_line (length topics)) (flat_map topic_lines topics) (claims_lines c.args.claims.now) c.in_ok-push_number_line.ensures c.in_ok-push_topics.ensures) c.push_from_claims.ensures
