use Rattle.std.proofs.Common.{[], length, List, ℕ, get_or, ap, sym, ◌∙◌, arith}
use Rattle.std.proofs.lemmas.List.{with_items_is}
use Rattle.std.proofs.lemmas.Option.{get_or_from_slice_get}
use Rattle.desk_model.proofs.DeskTopics.{length-marks}
use Rattle.next_document.proofs.standing.TopicStanding.topic_totals.Goals as goal

pub topic-requires : goal.topic-requires
topic-requires g c = omega (arith, length-marks c.args.self.now.standing.on.desk.now c.args.self.now.standing.on.marks.now c.args.self.now.standing.on.marked, c.args.self.now.known)

pub sum_topic-requires : goal.sum_topic-requires
sum_topic-requires g c = record {
  count = c.deref_mut.ensures.len ∙ c.in_ok-totals.ensures.len ∙ sym (ap length (get_or_from_slice_get c.args.self.now.standing.on.marks.now c.args.self.now.number c.topic.result.now [] c.topic.ensures));
}

pub returns-clause-count : goal.returns-clause-count
returns-clause-count g c =
    ap length (with_items_is c.in_ok-totals.totals c.sum_topic.new.totals (c.sum_topic.auto.totals ∙ c.deref_mut.ensures.len))
    ∙ c.sum_topic.auto.totals ∙ c.deref_mut.ensures.len ∙ c.in_ok-totals.ensures.len ∙ sym (ap length (get_or_from_slice_get c.args.self.now.standing.on.marks.now c.args.self.now.number c.topic.result.now [] c.topic.ensures))

pub returns-clause-totals : goal.returns-clause-totals
returns-clause-totals g c doc lt =
    ap (λ (totals : List ℕ). get_or totals doc 0) (with_items_is c.in_ok-totals.totals c.sum_topic.new.totals (c.sum_topic.auto.totals ∙ c.deref_mut.ensures.len)) ∙ c.sum_topic.ensures doc lt
