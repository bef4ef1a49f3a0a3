use Rattle.std.proofs.Common.{◌≡◌, ◌≤◌, ℕ, All, List, length, map, ap, sym, subst, ◌∙◌, arith}
use Rattle.std.proofs.lemmas.List.{length-map, with_items_is}
use Rattle.desk_model.specs.Limits.{RUN_LIMIT, TOPIC_LIMIT}
use Rattle.desk_model.specs.Pairs.{pairs_of}
use Rattle.desk_model.specs.Verdict.{verdict}
use Rattle.desk_model.specs.declared.types.Verdict.{Verdict}
use Rattle.pair_table.specs.Kept.{AllSums, AreSumsFor, AreTopicNumbers, HeldSums, TopicNumbers, kept_bounds, kept_sums, kept_totals}
use Rattle.pair_table.specs.Sums.{run_numbers}
use Rattle.pair_table.proofs.Keeping.{length-totals, same_sums, sums_fit}
use Rattle.pair_table.proofs.table_sums.TableSums.renew.Goals as goal

pub renew_topic-requires-clause-sizes : goal.renew_topic-requires-clause-sizes
renew_topic-requires-clause-sizes g c = subst (λ n. All (AreTopicNumbers n) c.args.topics.now) c.requires.runs c.requires.kept.numbers

pub renew_topic-requires-clause-sums : goal.renew_topic-requires-clause-sums
renew_topic-requires-clause-sums g c =
    let held = c.self.inside in
    let own = c.self.view_is in
    let topics = c.args.topics.now in
    same_sums held.sums.totals _ held.sums.bounds _ (ap (λ (s : HeldSums _). s.totals) own ∙ c.requires.kept.totals) (ap (λ (s : HeldSums _). s.bounds) own ∙ c.requires.kept.bounds)
    ∙ ap (λ n. kept_sums n topics) c.requires.runs

pub fill_verdicts-requires : goal.fill_verdicts-requires
fill_verdicts-requires g c =
    let held = c.self.inside in
    let same : held.runs ≡ length c.args.topic.now.desk.runs = ap (λ (s : HeldSums _). s.runs) c.self.view_is ∙ c.requires.runs in
    let before = ap length c.self.invariant.each_verdict ∙ length-map held.sums.totals verdict ∙ c.self.invariant.sums.each_pair ∙ ap (λ m. length (pairs_of (run_numbers m))) same in
    let whole = ap length (c.totals.ensures ∙ ap (λ (s : AllSums). s.totals) c.renew_topic.ensures.sums) ∙ length-totals (length c.args.topic.now.desk.runs) c.renew_topic.new.topics c.renew_topic.ensures.sizes in
    ap length c.deref_mut.ensures.value ∙ before ∙ sym whole

pub invariant_of-self : goal.invariant_of-self
invariant_of-self g c =
    let held = c.self.inside in
    let verdicts : List Verdict = c.fill_verdicts.new.verdicts in
    let topics : List TopicNumbers = c.renew_topic.new.topics in
    let runs : ℕ = length c.args.topic.now.desk.runs in
    let same : held.runs ≡ runs = ap (λ (s : HeldSums _). s.runs) c.self.view_is ∙ c.requires.runs in
    let few : length topics ≤ TOPIC_LIMIT = omega (arith, c.renew_topic.auto.topics, c.requires.kept.few_topics) in
    record {
      sums = subst (AreSumsFor held.runs) (sym c.renew_topic.ensures.sums) (subst (λ n. AreSumsFor n (kept_sums runs topics)) (sym same)
          (sums_fit runs topics (subst (λ n. n ≤ RUN_LIMIT) same c.self.invariant.sums.few) few c.renew_topic.ensures.sizes));
      each_verdict = with_items_is held.verdicts verdicts (omega (arith, c.fill_verdicts.auto.verdicts, ap length c.deref_mut.ensures.value, held.verdicts.ok.0)) ∙ c.fill_verdicts.ensures ∙ ap (map verdict) c.totals.ensures;
    }

pub returns-clause-kept : goal.returns-clause-kept
returns-clause-kept g c =
    let topics : List TopicNumbers = c.renew_topic.new.topics in
    let runs : ℕ = length c.args.topic.now.desk.runs in
    let same : c.self.inside.runs ≡ runs = ap (λ (s : HeldSums _). s.runs) c.self.view_is ∙ c.requires.runs in
    record {
      few_topics = omega (arith, c.renew_topic.auto.topics, c.requires.kept.few_topics);
      numbers = subst (λ n. All (AreTopicNumbers n) topics) (sym same) c.renew_topic.ensures.sizes;
      totals = ap (λ (s : AllSums). s.totals) c.renew_topic.ensures.sums ∙ ap (λ n. kept_totals n topics) (sym same);
      bounds = ap (λ (s : AllSums). s.bounds) c.renew_topic.ensures.sums ∙ ap (λ n. kept_bounds n topics) (sym same);
    }
