use Rattle.std.proofs.Common.{◌≡◌, ◌++◌, ◌*◌, [], length, to_z, of_z, arith, ap, ◌∙◌}
use Rattle.std.specs.Int.{w128}
use Rattle.std.proofs.lemmas.Int.{ints}
use Rattle.std.specs.Prelude.{unsigned_abs, flat_map}
use Rattle.desk_report.specs.Table.{ended, head_lines, table_text, table_lines}
use Rattle.desk_report.proofs.Joins.{whole}
use Rattle.desk_report.proofs.table.table_text.Goals as goal

pub returns : goal.returns
unfolding table_text table_lines
returns c =
    let desk = c.args.desk.now in
    let lines = head_lines c.args.measure.now c.args.level c.args.depth (length desk.topics) (length desk.runs) in
    let unit : to_z w128 (of_z w128 c.args.unit) ≡ c.args.unit = omega (arith, ints) in
    let parts : c.all_parts.result.number ≡ unsigned_abs c.args.unit * length desk.topics = c.all_parts.ensures ∙ ap (λ u. unsigned_abs u * c.topic_count-topics.result) unit ∙ ap (λ n. unsigned_abs c.args.unit * n) c.topic_count-topics.ensures.count in
    let head : c.push_head.new.out.items ≡ [] ++ flat_map ended lines =
    c.in_ok-push_head.ensures ∙ ap (λ o. o ++ flat_map ended (head_lines c.args.measure.now c.args.level c.args.depth c.topic_count-topics.result c.run_count.result)) c.new-out.ensures.items
    ∙ ap (λ n. flat_map ended (head_lines c.args.measure.now c.args.level c.args.depth n c.run_count.result)) c.topic_count-topics.ensures.count
    ∙ ap (λ n. flat_map ended (head_lines c.args.measure.now c.args.level c.args.depth (length desk.topics) n)) c.run_count.ensures.count in
    let runs = rw parts at c.in_ok-push_runs.ensures in
    let pairs = rw parts at c.in_ok-push_pairs.ensures in
    whole [] _ _ _ lines _ _ head runs pairs
