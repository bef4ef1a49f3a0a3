use Rattle.std.proofs.Common.{ap, ◌∙◌, arith, get_or, not, ◌≡◌, length, ℕ, ◌<◌, ◌≤◌, [], List}
use Rattle.std.specs.Prelude.{sum_by}
use Rattle.std.specs.List.{count_by}
use Rattle.std.proofs.lemmas.List.{take_all}
use Rattle.std.proofs.lemmas.List.Sums.{sum_by_more}
use Rattle.desk_model.specs.Mark.{is_unjudged}
use Rattle.desk_model.specs.declared.types.Mark.{Mark}
use Rattle.desk_model.proofs.DeskTopics.{length-marks, small_at}
use Rattle.desk_model.proofs.Nested.{get_or-there}
use Rattle.demo_desk.proofs.summary.judged.Goals as goal

abbrev judged_on : List Mark → ℕ
judged_on topic = count_by (λ mark. not (is_unjudged mark)) topic

pub topic-requires : goal.topic-requires
topic-requires c = omega (arith, c.topic_count-topic-end.ensures.count, length-marks c.args.desk.now c.args.marks.now c.requires, c.loop-topic-test.true)

pub loop-topic-preserved : goal.loop-topic-preserved
loop-topic-preserved c =
    let marks = c.args.marks.now in
    let t = c.loop-topic.topic in
    let within : t < length marks = omega (arith, c.topic_count-topic-end.ensures.count, length-marks c.args.desk.now marks c.requires, c.loop-topic-test.true) in
    let there : get_or marks t [] ≡ c.topic.result.now = get_or-there marks t c.topic.result.now [] c.topic.ensures in
    let more = sum_by_more judged_on marks t [] within in
    let small = small_at c.args.desk.now marks c.topic_count-topic-end.ensures.desk c.requires t c.topic.result.now c.topic.ensures in
    (omega (arith, more, ap judged_on there, c.judged_on-count.ensures.count, c.loop-topic.invariant.0), omega (arith, small, c.judged_on-count.ensures.most, c.loop-topic.invariant.1))

pub returns : goal.returns
returns c =
    let marks = c.args.marks.now in
    let past : length marks ≤ c.loop-topic.topic = omega (arith, c.topic_count-topic-end.ensures.count, length-marks c.args.desk.now marks c.requires, c.loop-topic-test.false) in
    c.loop-topic.invariant.0 ∙ ap (sum_by judged_on) (take_all c.loop-topic.topic marks past)
