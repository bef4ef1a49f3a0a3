use Rattle.std.proofs.Common.{◌≡◌, Some, ap, sym, ◌∙◌}
use Rattle.std.specs.Prelude.{is_some}
use Rattle.desk_model.specs.Name.{number_of}
use Rattle.sheet_merge.specs.Placed.{topic_number}
use Rattle.sheet_merge.proofs.Standing.{topic_within, placed_by}
use Rattle.sheet_merge.proofs.placing.lack.Goals as goal

pub topic-requires : goal.topic-requires
topic-requires c = topic_within c.args.desk.now c.topic-topic.result.now c.in-Some.t (sym c.find_topic.ensures ∙ c.in-Some.is)

pub returns-in-Some-find : goal.returns-in-Some-find
returns-in-Some-find c =
    let place = c.args.row.now.0 in
    let number : topic_number c.args.desk.now place.0 ≡ Some c.in-Some.t = ap (topic_number c.args.desk.now) (sym c.topic-topic.ensures) ∙ sym c.find_topic.ensures ∙ c.in-Some.is in
    placed_by c.args.desk.now place c.in-Some.t c.topic.result.now c.find.result number c.topic.ensures (c.find.ensures ∙ ap (number_of c.topic.result.now.docs) c.document-doc.ensures) ∙ ap is_some c.in-Some-find.is

pub returns-in-None : goal.returns-in-None
returns-in-None c =
    let place = c.args.row.now.0 in
    let number : topic_number c.args.desk.now place.0 ≡ Some c.in-Some.t = ap (topic_number c.args.desk.now) (sym c.topic-topic.ensures) ∙ sym c.find_topic.ensures ∙ c.in-Some.is in
    let placed = placed_by c.args.desk.now place c.in-Some.t c.topic.result.now c.find.result number c.topic.ensures (c.find.ensures ∙ ap (number_of c.topic.result.now.docs) c.document-doc.ensures) in
    (c.topic-topic.ensures, c.document-doc.ensures, ap is_some number, placed ∙ ap is_some c.in-None.is)
