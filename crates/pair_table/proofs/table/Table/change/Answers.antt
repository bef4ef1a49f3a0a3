use Rattle.std.proofs.Common.{◌≡◌, ◌+◌, List, length, ap, sym, subst, ◌∙◌, arith}
use Rattle.std.specs.Prelude.{slice_set}
use Rattle.std.proofs.lemmas.List.{with_items_is}
use Rattle.desk_model.specs.Desk.{AreMarksOf}
use Rattle.desk_model.specs.Pairs.{pairs_of}
use Rattle.desk_model.specs.declared.types.Mark.{Mark}
use Rattle.pair_table.specs.Kept.{HeldSums, Kept, TopicNumbers, IsKeptTable, kept_bounds, kept_totals, numbers_on, topic_at}
use Rattle.pair_table.specs.Sums.{run_numbers}
use Rattle.pair_table.specs.TopicUnder.{TopicUnder, numbers_of}
use Rattle.pair_table.proofs.Changing.{changed_stands}
use Rattle.pair_table.proofs.PairNumbers.{length-pairs}
use Rattle.pair_table.proofs.table.Table.change.Goals as goal

pub of-topic-requires-clause-marked : goal.of-topic-requires-clause-marked
of-topic-requires-clause-marked g c = subst (AreMarksOf c.args.desk.now) (sym c.rows.ensures) c.requires.marks

pub renew-requires-clause-runs : goal.renew-requires-clause-runs
renew-requires-clause-runs g c = ap (λ (k : Kept _). k.runs) c.self.view_is ∙ c.requires.others.runs ∙ sym (ap (λ (t : TopicUnder). length t.desk.runs) c.of-topic.ensures)

pub renew-requires-clause-count : goal.renew-requires-clause-count
renew-requires-clause-count g c =
    ap length (c.deref_mut.ensures.value ∙ ap (λ (k : Kept _). k.topics) c.self.view_is) ∙ c.requires.others.count ∙ sym (ap (λ (t : TopicUnder). length t.desk.topics) c.of-topic.ensures)

pub renew-requires-clause-kept : goal.renew-requires-clause-kept
renew-requires-clause-kept g c = subst (λ (l : List TopicNumbers). IsKeptTable l c.self.inside.sums) (sym c.deref_mut.ensures.value) c.self.invariant

pub invariant_of-self : goal.invariant_of-self
invariant_of-self g c =
    let table = c.self.inside in
    let topics : List TopicNumbers = c.renew.new.topics in
    let count : length topics ≡ length table.topics.items = c.renew.auto.topics ∙ ap length c.deref_mut.ensures.value in
    subst (λ (l : List TopicNumbers). IsKeptTable l c.renew.new.self) (sym (with_items_is table.topics topics (omega (arith, count, table.topics.ok.0)))) c.renew.ensures.kept

pub returns-clause-stands : goal.returns-clause-stands
returns-clause-stands g c =
    let table = c.self.inside in
    let desk = c.args.desk.now in
    let rows = c.args.marks.now.rows in
    let cell = g.M.Measure.cell_of c.args.self.now.measure in
    let bound = g.M.Measure.bounds_of c.args.self.now.measure in
    let topics : List TopicNumbers = c.renew.new.topics in
    let new : HeldSums _ = c.renew.new.self in
    let n = length desk.runs in
    let at : c.of-topic.result ≡ record { desk = desk; marks = rows; number = c.args.topic } =
    c.of-topic.ensures ∙ ap (λ (ms : List (List Mark)). record { desk = desk; marks = ms; number = c.args.topic }) c.rows.ensures in
    let topics_is = with_items_is table.topics topics (omega (arith, c.renew.auto.topics, ap length c.deref_mut.ensures.value, table.topics.ok.0)) in
    let runs : new.runs ≡ c.args.self.now.runs = c.renew.ensures.runs ∙ ap (λ (k : Kept _). k.runs) c.self.view_is in
    let same : new.runs ≡ n = runs ∙ c.requires.others.runs in
    changed_stands cell bound desk rows c.args.topic c.args.self.now _ c.requires.marks c.requires.topic c.requires.others runs
    (topics_is ∙ c.renew.ensures.topics
    ∙ ap (λ (t : TopicUnder). slice_set c.deref_mut.result.now t.number (numbers_of (g.M.Measure.cell_of table.sums.measure) (g.M.Measure.bounds_of table.sums.measure) t)) at
    ∙ ap (λ l. slice_set l c.args.topic (numbers_on (g.M.Measure.cell_of table.sums.measure) (g.M.Measure.bounds_of table.sums.measure) n (topic_at desk rows c.args.topic))) (c.deref_mut.ensures.value ∙ ap (λ (k : Kept _). k.topics) c.self.view_is)
    ∙ ap (λ m. slice_set c.args.self.now.topics c.args.topic (numbers_on (g.M.Measure.cell_of m) (g.M.Measure.bounds_of m) n (topic_at desk rows c.args.topic))) (ap (λ (k : Kept _). k.measure) c.self.view_is))
    (c.renew.ensures.kept.totals ∙ ap (λ r. kept_totals r topics) same ∙ ap (kept_totals n) (sym topics_is)) (c.renew.ensures.kept.bounds ∙ ap (λ r. kept_bounds r topics) same ∙ ap (kept_bounds n) (sym topics_is))

pub returns-clause-steps : goal.returns-clause-steps
returns-clause-steps g c =
    c.renew.ensures.steps ∙ ap (λ (t : TopicUnder). c.args.steps.now + length (pairs_of (run_numbers (length t.desk.runs)))) c.of-topic.ensures
    ∙ ap (λ n. c.args.steps.now + n) (length-pairs (length c.args.desk.now.runs))
