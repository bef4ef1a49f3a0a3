use Rattle.std.proofs.Common.{◌≡◌, ◌<◌, ◌≤◌, length, get_or, ap, sym, subst, ◌∙◌}
use Rattle.std.proofs.lemmas.List.Elements.{All-set}
use Rattle.std.proofs.lemmas.Option.{slice_get-get_or}
use Rattle.desk_model.specs.Limits.{TOPIC_LIMIT}
use Rattle.pair_table.specs.Kept.{AllSums, TopicNumbers, AreTopicNumbers, SumsCanGrow, sums_with, sums_without, without_span}
use Rattle.pair_table.proofs.Keeping.{length-bounds, can_grow, less_can_grow, renewed}
use Rattle.pair_table.proofs.Summing.{length-each}
use Rattle.pair_table.proofs.topics.renew_topic.Goals as goal

pub take_back-requires-clause-runs : goal.take_back-requires-clause-runs
take_back-requires-clause-runs g c =
    let n = length c.args.topic.now.desk.runs in
    let topics = c.args.topics.now in
    let within = subst (λ m. c.number-number.result < m) (sym c.requires.count) c.number-number.ensures.known in
    let own = c.requires.sizes c.number-number.result c.index-topics-number.result within in
    ap (λ (s : AllSums). length s.bounds) c.requires.sums ∙ length-bounds n topics c.requires.sizes ∙ sym own.each_run

pub take_back-requires-clause-near : goal.take_back-requires-clause-near
take_back-requires-clause-near g c =
    let n = length c.args.topic.now.desk.runs in
    let few = subst (λ m. m ≤ TOPIC_LIMIT) (sym c.requires.count) c.number-number.ensures.desk.topics in
    subst SumsCanGrow (sym c.requires.sums) (can_grow n c.args.topics.now c.requires.sizes few)

pub evaluate-requires : goal.evaluate-requires
evaluate-requires g c =
    let within = subst (λ m. c.number-number.result < m) (sym c.requires.count) c.number-number.ensures.known in
    (c.requires.sizes c.number-number.result c.index-topics-number.result within).each_run

pub add-requires-clause-runs : goal.add-requires-clause-runs
add-requires-clause-runs g c =
    let n = length c.args.topic.now.desk.runs in
    let topics = c.args.topics.now in
    let within = subst (λ m. c.number-number.result < m) (sym c.requires.count) c.number-number.ensures.known in
    let old : TopicNumbers = get_or topics c.number-number.result c.index-topics-number.result in
    let own : AreTopicNumbers n old = c.requires.sizes c.number-number.result c.index-topics-number.result within in
    let whole : length c.args.sums.now.bounds ≡ length old.bounds = ap (λ (s : AllSums). length s.bounds) c.requires.sums ∙ length-bounds n topics c.requires.sizes ∙ sym own.each_run in
    ap (λ (s : AllSums). length s.bounds) c.take_back.ensures ∙ length-each without_span c.args.sums.now.bounds old.bounds (sym whole) ∙ whole ∙ own.each_run ∙ sym c.evaluate.ensures.sizes.each_run

pub add-requires-clause-near : goal.add-requires-clause-near
add-requires-clause-near g c =
    let n = length c.args.topic.now.desk.runs in
    let topics = c.args.topics.now in
    let within = subst (λ m. c.number-number.result < m) (sym c.requires.count) c.number-number.ensures.known in
    let old : TopicNumbers = get_or topics c.number-number.result c.index-topics-number.result in
    let own : AreTopicNumbers n old = c.requires.sizes c.number-number.result c.index-topics-number.result within in
    let few = subst (λ m. m ≤ TOPIC_LIMIT) (sym c.requires.count) c.number-number.ensures.desk.topics in
    subst SumsCanGrow (sym (c.take_back.ensures ∙ ap (λ (s : AllSums). sums_without s old) c.requires.sums)) (less_can_grow n topics c.requires.sizes few old own)

pub returns-clause-sizes : goal.returns-clause-sizes
returns-clause-sizes g c = All-set (AreTopicNumbers (length c.args.topic.now.desk.runs)) c.args.topics.now c.number-number.result c.evaluate.new.self c.evaluate.ensures.sizes c.requires.sizes

pub returns-clause-sums : goal.returns-clause-sums
returns-clause-sums g c =
    let n = length c.args.topic.now.desk.runs in
    let topics = c.args.topics.now in
    let within = subst (λ m. c.number-number.result < m) (sym c.requires.count) c.number-number.ensures.known in
    let old : TopicNumbers = get_or topics c.number-number.result c.index-topics-number.result in
    let new : TopicNumbers = c.evaluate.new.self in
    c.add.ensures ∙ ap (λ (s : AllSums). sums_with s new) (c.take_back.ensures ∙ ap (λ (s : AllSums). sums_without s old) c.requires.sums)
    ∙ sym (renewed n topics c.requires.sizes c.number-number.result old new (slice_get-get_or topics c.number-number.result c.index-topics-number.result within))
