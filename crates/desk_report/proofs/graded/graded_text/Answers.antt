use Rattle.std.proofs.Common.{◌≡◌, ℕ, ◌++◌, ◌*◌, [], length, ℤ, pos, to_z, of_z, arith, ap, ◌∙◌}
use Rattle.std.specs.Int.{w128}
use Rattle.std.proofs.lemmas.Int.{ints}
use Rattle.std.specs.Prelude.{unsigned_abs, flat_map}
use Rattle.desk_model.specs.Limits.{PARTS_OF_ONE}
use Rattle.desk_report.specs.ByGrades.{graded_head, graded_text, graded_lines}
use Rattle.desk_report.specs.Table.{ended}
use Rattle.desk_report.proofs.Joins.{whole}
use Rattle.desk_report.proofs.graded.graded_text.Goals as goal

-- the parts of all topics, where the unit is the greatest number times 10^18
parts_are : (unit : ℤ) (greatest topics parts : ℕ) → parts ≡ unsigned_abs unit * topics → unit ≡ pos (greatest * PARTS_OF_ONE) → parts ≡ greatest * PARTS_OF_ONE * topics
parts_are unit greatest topics parts h e = h ∙ ap (λ u. unsigned_abs u * topics) e

pub returns : goal.returns
unfolding graded_text graded_lines
returns c =
    let desk = c.args.desk.now in
    let lines = graded_head c.args.name.now c.args.greatest (length desk.topics) (length desk.runs) in
    let unit : to_z w128 (of_z w128 c.parts_of_one.result) ≡ pos (c.args.greatest * PARTS_OF_ONE) = omega (arith, ints, c.parts_of_one.ensures, c.requires.few) in
    let parts : c.all_parts.result.number ≡ c.args.greatest * PARTS_OF_ONE * length desk.topics =
    parts_are _ c.args.greatest c.topic_count-topics.result c.all_parts.result.number c.all_parts.ensures unit
    ∙ ap (λ n. c.args.greatest * PARTS_OF_ONE * n) c.topic_count-topics.ensures.count in
    let head : c.push_graded_head.new.out.items ≡ [] ++ flat_map ended lines =
    c.in_ok-push_graded_head.ensures ∙ ap (λ o. o ++ flat_map ended (graded_head c.args.name.now c.args.greatest c.topic_count-topics.result c.run_count.result)) c.new-out.ensures.items
    ∙ ap (λ n. flat_map ended (graded_head c.args.name.now c.args.greatest n c.run_count.result)) c.topic_count-topics.ensures.count
    ∙ ap (λ n. flat_map ended (graded_head c.args.name.now c.args.greatest (length desk.topics) n)) c.run_count.ensures.count in
    let runs = rw parts at c.in_ok-push_runs.ensures in
    let pairs = rw parts at c.in_ok-push_pairs.ensures in
    whole [] _ _ _ lines _ _ head runs pairs
