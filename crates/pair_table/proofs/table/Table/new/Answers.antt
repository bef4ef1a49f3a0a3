use Rattle.std.proofs.Common.{◌≡◌, ◌≤◌, ℕ, ◌+◌, ◌*◌, List, length, All, ap, sym, subst, ◌∙◌, arith}
use Rattle.std.specs.Vec.{with_items}
use Rattle.std.proofs.lemmas.List.{length-map, with_items_is}
use Rattle.desk_model.specs.Desk.{topics_under}
use Rattle.desk_model.specs.Limits.{TOPIC_LIMIT}
use Rattle.desk_model.specs.Pairs.{pairs_of}
use Rattle.pair_table.specs.Kept.{AllSums, HeldSums, TopicNumbers, AreSumsFor, AreTopicNumbers, IsKeptTable, all_numbers, kept_sums}
use Rattle.pair_table.specs.Sums.{run_numbers, pair_sums}
use Rattle.pair_table.proofs.Changing.{made_stands}
use Rattle.pair_table.proofs.Keeping.{sums_fit}
use Rattle.pair_table.proofs.PairNumbers.{length-pairs, length-pairs_of}
use Rattle.pair_table.proofs.table.Table.new.Goals as goal

pub add_topics-requires-clause-sizes : goal.add_topics-requires-clause-sizes
add_topics-requires-clause-sizes g c =
    let topics : List TopicNumbers = c.evaluate_topics.new.topics in
    let is = c.deref.ensures.value ∙ with_items_is c.in_ok-topics.topics topics (omega (arith, c.evaluate_topics.auto.topics, ap length c.deref_mut.ensures.value, c.in_ok-topics.topics.ok.0)) in
    subst (All (AreTopicNumbers c.run_count-runs.result)) (sym is) (subst (λ n. All (AreTopicNumbers n) topics) (sym c.run_count-runs.ensures.count) c.evaluate_topics.ensures.sizes)

pub of_sums-sums-requires-clause-sums : goal.of_sums-sums-requires-clause-sums
of_sums-sums-requires-clause-sums g c =
    let n = c.run_count-runs.result in
    let topics : List TopicNumbers = c.evaluate_topics.new.topics in
    let count : length topics ≡ length c.in_ok-topics.topics.items = c.evaluate_topics.auto.topics ∙ ap length c.deref_mut.ensures.value in
    let few : length topics ≤ TOPIC_LIMIT = omega (arith, count, c.in_ok-topics.ensures.count, c.run_count-runs.ensures.desk.topics) in
    let is = c.deref.ensures.value ∙ with_items_is c.in_ok-topics.topics topics (omega (arith, count, c.in_ok-topics.topics.ok.0)) in
    let sizes = subst (λ m. All (AreTopicNumbers m) topics) (sym c.run_count-runs.ensures.count) c.evaluate_topics.ensures.sizes in
    subst (AreSumsFor n) (sym (c.add_topics.ensures ∙ ap (kept_sums n) is)) (sums_fit n topics (omega (arith, c.run_count-runs.ensures.count, c.run_count-runs.ensures.desk.runs)) few sizes)

pub of_sums-sums-requires-clause-room : goal.of_sums-sums-requires-clause-room
of_sums-sums-requires-clause-room g c =
    c.in_ok-verdicts.ensures ∙ ap (λ n. length (pairs_of (run_numbers n))) (sym c.run_count-runs.ensures.count) ∙ sym (of_sums-sums-requires-clause-sums g c).each_pair

pub invariant_of-result : goal.invariant_of-result
invariant_of-result g c =
    let n = c.run_count-runs.result in
    let topics : List TopicNumbers = c.evaluate_topics.new.topics in
    let count : length topics ≡ length c.in_ok-topics.topics.items = c.evaluate_topics.auto.topics ∙ ap length c.deref_mut.ensures.value in
    let topics_is = with_items_is c.in_ok-topics.topics topics (omega (arith, count, c.in_ok-topics.topics.ok.0)) in
    let summed = c.add_topics.ensures ∙ ap (kept_sums n) (c.deref.ensures.value ∙ topics_is) in
    subst (λ (l : List TopicNumbers). IsKeptTable l c.of_sums-sums.result) (sym topics_is)
    (subst (λ (s : HeldSums _). IsKeptTable topics s) (sym c.of_sums-sums.ensures)
    (record {
      few_topics = omega (arith, count, c.in_ok-topics.ensures.count, c.run_count-runs.ensures.desk.topics);
      numbers = subst (λ m. All (AreTopicNumbers m) topics) (sym c.run_count-runs.ensures.count) c.evaluate_topics.ensures.sizes;
      totals = ap (λ (s : AllSums). s.totals) summed;
      bounds = ap (λ (s : AllSums). s.bounds) summed;
    }))

pub returns-clause-stands : goal.returns-clause-stands
returns-clause-stands g c =
    let cell = g.M.Measure.cell_of c.args.measure in
    let bounds = g.M.Measure.bounds_of c.args.measure in
    let desk = c.args.desk.now in
    let topics : List TopicNumbers = c.evaluate_topics.new.topics in
    let own = c.of_sums-sums.ensures in
    let topics_is = with_items_is c.in_ok-topics.topics topics (omega (arith, c.evaluate_topics.auto.topics, ap length c.deref_mut.ensures.value, c.in_ok-topics.topics.ok.0)) in
    let runs = c.run_count-runs.ensures.count in
    let summed = c.add_topics.ensures ∙ ap (kept_sums c.run_count-runs.result) c.deref.ensures.value ∙ ap (λ m. kept_sums m (with_items c.in_ok-topics.topics topics).items) runs in
    made_stands cell bounds desk c.args.marks.now.rows _ (ap (λ (s : HeldSums _). s.runs) own ∙ runs) (topics_is ∙ c.evaluate_topics.ensures.numbers ∙ ap (all_numbers cell bounds desk) c.rows-rows.ensures)
    (ap (λ (s : HeldSums _). s.totals) own ∙ ap (λ (s : AllSums). s.totals) summed) (ap (λ (s : HeldSums _). s.bounds) own ∙ ap (λ (s : AllSums). s.bounds) summed)

pub returns-clause-totals : goal.returns-clause-totals
returns-clause-totals g c = (returns-clause-stands g c).sums.totals

pub returns-clause-bounds : goal.returns-clause-bounds
returns-clause-bounds g c = (returns-clause-stands g c).sums.bounds

pub returns-clause-pairs : goal.returns-clause-pairs
returns-clause-pairs g c =
    let runs = c.args.desk.now.runs in
    let topics = topics_under c.args.desk.now c.args.marks.now.rows in
    let f = λ (pair : ℕ × ℕ). pair_sums (g.M.Measure.cell_of c.args.measure) topics pair.0 pair.1 in
    ap length (returns-clause-stands g c).sums.totals ∙ length-map (pairs_of (run_numbers (length runs))) f ∙ length-pairs_of runs 0

pub returns-clause-steps : goal.returns-clause-steps
returns-clause-steps g c = c.evaluate_topics.ensures.steps ∙ ap (λ p. c.args.steps.now + p * length c.args.desk.now.topics) (length-pairs (length c.args.desk.now.runs))
