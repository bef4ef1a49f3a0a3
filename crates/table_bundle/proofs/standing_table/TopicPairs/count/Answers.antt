use Rattle.std.proofs.Common.{◌≡◌, ℕ, ◌<◌, List, ◌++◌, length, drop, get_or, map, replicate, take, ap, sym, subst, ◌∙◌, arith}
use Rattle.std.specs.Prelude.{All}
use Rattle.std.specs.List.{sum_by}
use Rattle.std.proofs.lemmas.List.{append-nil, drop_all, get_or-replicate, length-replicate, take_all}
use Rattle.desk_model.specs.declared.types.Mark.{Mark}
use Rattle.desk_model.specs.declared.types.MeasureName.{MeasureName}
use Rattle.measure_core.specs.Lists.{times}
use Rattle.measure_core.specs.PairLists.{pair_documents, sizes_on, IsOfRuns}
use Rattle.measure_core.specs.Pairs.{DeskTopic, runs_on}
use Rattle.measure_core.specs.declared.counting.ListSizes.{ListSizes}
use Rattle.measure_core.specs.declared.run_pair.RunPair.{RunPair}
use Rattle.table_bundle.specs.Drafts.{runs_of}
use Rattle.table_bundle.specs.declared.pairs.NamedPair.{NamedPair}
use Rattle.table_bundle.specs.Lengths.{all_picks, heads_length, lists_on, sizes_length, topic_with}
use Rattle.table_bundle.proofs.Exchange.{few_times, heads_are, picks_are, runs_within}
use Rattle.table_bundle.proofs.standing_table.TopicPairs.count.Goals as goal

-- a slice that is written back takes the place of all items
written_back : (n : ℕ) (new old : List ℕ) → length new ≡ n → length old ≡ n → take n (new ++ drop (length new) old) ≡ new
written_back n new old e f =
    ap (λ l. take n (new ++ l)) (drop_all (length new) old (omega (arith, e, f))) ∙ ap (take n) (append-nil new) ∙ take_all n new (omega (arith, e))

-- counts before any document is counted
zeros_long : (zeros : List ℕ) (n : ℕ) → zeros ≡ replicate n 0 → length zeros ≡ n
zeros_long zeros n is = ap length is ∙ length-replicate {A = ℕ} n 0

zero_at : (zeros : List ℕ) (n doc : ℕ) → zeros ≡ replicate n 0 → doc < n → get_or zeros doc 0 ≡ 0
zero_at zeros n doc is lt = ap (λ (l : List ℕ). get_or l doc 0) is ∙ get_or-replicate {A = ℕ} n doc 0 0 lt

-- how often the lists of pairs have a document
listed : (measure : MeasureName) (t : DeskTopic) (marks : List Mark) (pairs : List NamedPair) (rankings : DeskTopic) (runs : List RunPair) (doc : ℕ) → rankings ≡ t → runs ≡ map runs_of pairs →
    times (pair_documents measure marks rankings runs) doc ≡ times (all_picks (lists_on measure pairs (topic_with t.desk t.topic marks))) doc
listed measure t marks pairs rankings runs doc e f =
    ap (λ (r : DeskTopic). times (pair_documents measure marks r runs) doc) e ∙ ap (λ (l : List RunPair). times (pair_documents measure marks t l) doc) f ∙ ap (λ (l : List ℕ). times l doc) (picks_are measure t.desk t.topic marks pairs)

pub count_pairs-requires-clause-pairs : goal.count_pairs-requires-clause-pairs
count_pairs-requires-clause-pairs g c =
    subst (λ (t : DeskTopic). All (IsOfRuns (runs_on t)) c.deref.result.now) (sym c.new-rankings.ensures)
    (subst (All (IsOfRuns (length c.args.self.now.on.now.standing.now.desk.now.runs))) (sym (c.deref.ensures.value ∙ c.in_ok-runs.ensures)) (runs_within (length c.args.self.now.on.now.standing.now.desk.now.runs) c.args.self.now.on.now.pairs.now c.args.self.now.on.now.known))

pub count_pairs-requires-clause-room : goal.count_pairs-requires-clause-room
count_pairs-requires-clause-room g c = λ doc lt.
    let measure = g.M.Measure.measured c.measure-measure.result.now in
    let marks = c.args.marks.now in
    let t : DeskTopic = record { desk = c.args.self.now.on.now.standing.now.desk.now; topic = c.args.self.now.number } in
    let pairs = c.args.self.now.on.now.pairs.now in
    let zeros : c.deref_mut.result.now ≡ replicate (length marks) 0 = c.deref_mut.ensures.value ∙ c.in_ok-counts.ensures.items_if_clones_equal (λ y e. e) in
    let none = zero_at c.deref_mut.result.now (length marks) doc zeros (omega (arith, lt, zeros_long c.deref_mut.result.now (length marks) zeros)) in
    omega (arith, none, listed measure t marks pairs c.new-rankings.result c.deref.result.now doc c.new-rankings.ensures (c.deref.ensures.value ∙ c.in_ok-runs.ensures), few_times measure (topic_with t.desk t.topic marks) pairs doc, c.args.self.now.on.now.few)

pub returns-clause-bytes : goal.returns-clause-bytes
returns-clause-bytes g c =
    let measure = g.M.Measure.measured c.measure-measure.result.now in
    let marks = c.args.marks.now in
    let t : DeskTopic = record { desk = c.args.self.now.on.now.standing.now.desk.now; topic = c.args.self.now.number } in
    let pairs = c.args.self.now.on.now.pairs.now in
    let sizes : c.deref-2.result.now ≡ map (sizes_on measure marks t) (map runs_of pairs) =
    c.deref-2.ensures.value ∙ c.in_ok-sizes.ensures.sizes ∙ ap (λ (r : DeskTopic). map (sizes_on measure marks r) c.deref.result.now) c.new-rankings.ensures ∙ ap (map (sizes_on measure marks t)) (c.deref.ensures.value ∙ c.in_ok-runs.ensures) in
    c.heads_of.ensures.bytes ∙ ap (λ (l : List ListSizes). sum_by sizes_length l) sizes ∙ heads_are measure t.desk t.topic marks pairs
    ∙ ap (λ n. sum_by heads_length (lists_on (g.M.Measure.measured n) pairs (topic_with t.desk t.topic marks))) c.measure-measure.ensures

pub returns-clause-counts : goal.returns-clause-counts
returns-clause-counts g c = λ doc lt.
    let measure = g.M.Measure.measured c.measure-measure.result.now in
    let marks = c.args.marks.now in
    let t : DeskTopic = record { desk = c.args.self.now.on.now.standing.now.desk.now; topic = c.args.self.now.number } in
    let pairs = c.args.self.now.on.now.pairs.now in
    let old : List ℕ = c.in_ok-counts.counts.items in
    let new : List ℕ = c.count_pairs.new.counts in
    let n = c.in_ok-counts.counts.len in
    let kept : length c.deref_mut.result.now ≡ length old = ap length c.deref_mut.ensures.value in
    let long : length new ≡ n = omega (arith, c.count_pairs.auto.counts, c.deref_mut.ensures.len) in
    let back : take n (new ++ drop (length new) old) ≡ new = written_back n new old long (omega (arith, kept, c.deref_mut.ensures.len)) in
    let zeros : c.deref_mut.result.now ≡ replicate (length marks) 0 = c.deref_mut.ensures.value ∙ c.in_ok-counts.ensures.items_if_clones_equal (λ y e. e) in
    let none = zero_at c.deref_mut.result.now (length marks) doc zeros lt in
    ap (λ (l : List ℕ). get_or l doc 0) back
    ∙ (omega (
      arith,
      c.in_ok-sizes.ensures.counts doc (omega (arith, lt, zeros_long c.deref_mut.result.now (length marks) zeros)),
      none,
      listed measure t marks pairs c.new-rankings.result c.deref.result.now doc c.new-rankings.ensures (c.deref.ensures.value ∙ c.in_ok-runs.ensures),
    ))
    ∙ ap (λ n. times (all_picks (lists_on (g.M.Measure.measured n) pairs (topic_with t.desk t.topic marks))) doc) c.measure-measure.ensures
