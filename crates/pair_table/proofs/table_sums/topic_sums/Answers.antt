use Rattle.std.proofs.Common.{◌≡◌, ◌≤◌, All, length, take, Some, ap, sym, subst, ◌∙◌, length-take, take_all, arith}
use Rattle.std.specs.Prelude.{slice_get}
use Rattle.std.proofs.lemmas.List.Elements.{All-push}
use Rattle.small_lemmas.proofs.Lists.{map_there}
use Rattle.desk_model.specs.Desk.{topics_under}
use Rattle.desk_model.specs.Limits.{TOPIC_LIMIT}
use Rattle.desk_model.specs.Pairs.{pairs_of}
use Rattle.desk_model.proofs.Nested.{take-there}
use Rattle.pair_table.specs.Kept.{AllSums, TopicNumbers, AreSumsFor, AreTopicNumbers, SumsCanGrow, all_numbers, kept_sums, numbers_on, sums_with, topic_at}
use Rattle.pair_table.specs.Sums.{run_numbers}
use Rattle.pair_table.specs.TopicUnder.{TopicUnder, numbers_of}
use Rattle.pair_table.proofs.DeskTopics.{topic_at_there}
use Rattle.pair_table.proofs.Keeping.{can_grow, length-all_numbers, length-bounds, one_more_topic, sums_fit}
use Rattle.pair_table.proofs.table_sums.topic_sums.Goals as goal

pub evaluate-requires : goal.evaluate-requires
evaluate-requires g c = c.loop-number.invariant.each_run ∙ sym (ap (λ (at : TopicUnder). length at.desk.runs) c.of-topic.ensures)

pub add-requires-clause-runs : goal.add-requires-clause-runs
add-requires-clause-runs g c =
    let runs = length c.args.desk.now.runs in
    let before = c.loop-number.invariant in
    let first = take c.loop-number.number (all_numbers (g.M.Measure.cell_of c.args.measure.now) (g.M.Measure.bounds_of c.args.measure.now) c.args.desk.now c.args.marks.now) in
    let sizes = subst (λ (at : TopicUnder). AreTopicNumbers (length at.desk.runs) c.evaluate.new.self) c.of-topic.ensures c.evaluate.ensures.sizes in
    ap (λ (s : AllSums). length s.bounds) before.sums ∙ length-bounds runs first before.numbers ∙ sym sizes.each_run

pub add-requires-clause-near : goal.add-requires-clause-near
add-requires-clause-near g c =
    let runs = length c.args.desk.now.runs in
    let before = c.loop-number.invariant in
    let all = all_numbers (g.M.Measure.cell_of c.args.measure.now) (g.M.Measure.bounds_of c.args.measure.now) c.args.desk.now c.args.marks.now in
    let first = take c.loop-number.number all in
    let few : length first ≤ TOPIC_LIMIT = omega (arith, length-take c.loop-number.number all, c.loop-number-test.true, c.topic_count-number-end.ensures.count, c.topic_count-number-end.ensures.desk.topics) in
    subst SumsCanGrow (sym before.sums) (can_grow runs first before.numbers few)

pub loop-number-preserved : goal.loop-number-preserved
loop-number-preserved g c =
    let desk = c.args.desk.now in
    let marks = c.args.marks.now in
    let runs = length desk.runs in
    let cell = g.M.Measure.cell_of c.args.measure.now in
    let bounds = g.M.Measure.bounds_of c.args.measure.now in
    let all = all_numbers cell bounds desk marks in
    let t = c.loop-number.number in
    let before = c.loop-number.invariant in
    let new : TopicNumbers = c.evaluate.new.self in
    let sizes : AreTopicNumbers runs new = subst (λ (at : TopicUnder). AreTopicNumbers (length at.desk.runs) new) c.of-topic.ensures c.evaluate.ensures.sizes in
    let numbers : new ≡ numbers_on cell bounds runs (topic_at desk marks t) = c.evaluate.ensures.numbers ∙ ap (numbers_of cell bounds) c.of-topic.ensures in
    let there : slice_get all t ≡ Some new = map_there (numbers_on cell bounds runs) (topics_under desk marks) t (topic_at desk marks t) (topic_at_there desk marks t c.requires (omega arith)) ∙ ap Some (sym numbers) in
    record {
      sums = c.add.ensures ∙ ap (λ (s : AllSums). sums_with s new) before.sums ∙ one_more_topic runs all t new there;
      numbers = subst (All (AreTopicNumbers runs)) (sym (take-there all t new there)) (All-push (AreTopicNumbers runs) (take t all) new before.numbers sizes);
      each_run = sizes.each_run;
      steps = omega (arith, before.steps, c.evaluate.ensures.steps, ap (λ (at : TopicUnder). length (pairs_of (run_numbers (length at.desk.runs)))) c.of-topic.ensures);
    }

pub returns-clause-sums : goal.returns-clause-sums
returns-clause-sums g c =
    let all = all_numbers (g.M.Measure.cell_of c.args.measure.now) (g.M.Measure.bounds_of c.args.measure.now) c.args.desk.now c.args.marks.now in
    let many = length-all_numbers (g.M.Measure.cell_of c.args.measure.now) (g.M.Measure.bounds_of c.args.measure.now) c.args.desk.now c.args.marks.now c.requires in
    let whole = take_all c.loop-number.number all (omega (arith, many, c.loop-number-test.false, c.topic_count-number-end.ensures.count)) in
    c.loop-number.invariant.sums ∙ ap (kept_sums (length c.args.desk.now.runs)) whole

pub returns-clause-size : goal.returns-clause-size
returns-clause-size g c =
    let runs = length c.args.desk.now.runs in
    let all = all_numbers (g.M.Measure.cell_of c.args.measure.now) (g.M.Measure.bounds_of c.args.measure.now) c.args.desk.now c.args.marks.now in
    let before = c.loop-number.invariant in
    let first = take c.loop-number.number all in
    let many = length-all_numbers (g.M.Measure.cell_of c.args.measure.now) (g.M.Measure.bounds_of c.args.measure.now) c.args.desk.now c.args.marks.now c.requires in
    let valid = c.topic_count-number-end.ensures.desk in
    let few : length first ≤ TOPIC_LIMIT = omega (arith, length-take c.loop-number.number all, many, valid.topics) in
    subst (AreSumsFor runs) (sym before.sums) (sums_fit runs first valid.runs few before.numbers)
