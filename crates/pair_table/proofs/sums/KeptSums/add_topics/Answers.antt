use Rattle.std.proofs.Common.{◌≡◌, ◌≤◌, length, take, Some, ap, sym, subst, ◌∙◌, length-take, arith}
use Rattle.std.specs.Prelude.{slice_get}
use Rattle.std.proofs.lemmas.Option.{slice_get-get_or}
use Rattle.desk_model.specs.Limits.{TOPIC_LIMIT}
use Rattle.pair_table.specs.Kept.{AllSums, AreTopicNumbers, SumsCanGrow, sums_with}
use Rattle.pair_table.proofs.Keeping.{length-bounds, can_grow, one_more_topic, numbers_before}
use Rattle.pair_table.proofs.sums.KeptSums.add_topics.Goals as goal

pub add-requires-clause-runs : goal.add-requires-clause-runs
add-requires-clause-runs c =
    let runs = c.args.runs in
    let topics = c.args.topics.now in
    let t = c.loop-topic.topic in
    let kept = c.index-topics-topic.result in
    let own : AreTopicNumbers runs kept = subst (AreTopicNumbers runs) (sym c.index-topics-topic.is) (c.requires.sizes t kept (omega arith)) in
    ap (λ (s : AllSums). length s.bounds) c.loop-topic.invariant.sums ∙ length-bounds runs (take t topics) (numbers_before runs topics t c.requires.sizes) ∙ sym own.each_run

pub add-requires-clause-near : goal.add-requires-clause-near
add-requires-clause-near c =
    let runs = c.args.runs in
    let topics = c.args.topics.now in
    let t = c.loop-topic.topic in
    let few : length (take t topics) ≤ TOPIC_LIMIT = omega (arith, length-take t topics, c.requires.topics) in
    subst SumsCanGrow (sym c.loop-topic.invariant.sums) (can_grow runs (take t topics) (numbers_before runs topics t c.requires.sizes) few)

pub loop-topic-preserved : goal.loop-topic-preserved
loop-topic-preserved c =
    let topics = c.args.topics.now in
    let t = c.loop-topic.topic in
    let kept = c.index-topics-topic.result in
    let there : slice_get topics t ≡ Some kept = slice_get-get_or topics t kept (omega arith) ∙ ap Some (sym c.index-topics-topic.is) in
    record { sums = c.add.ensures ∙ ap (λ (s : AllSums). sums_with s kept) c.loop-topic.invariant.sums ∙ one_more_topic c.args.runs topics t kept there }
