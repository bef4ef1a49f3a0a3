use Rattle.std.proofs.Common.{◌≡◌, ℕ, ◌+◌, ◌<◌, ◌≤◌, List, length, map, ap, ap₂, sym, subst, ◌∙◌, arith}
use Rattle.std.specs.Prelude.{All, decimal}
use Rattle.std.specs.List.{sum}
use Rattle.std.proofs.lemmas.List.{length-map}
use Rattle.std.proofs.lemmas.List.Elements.{All-from_recursion, recursion_from_All}
use Rattle.desk_model.specs.Desk.{AreMarksOf, Desk, IsDesk, topics_under}
use Rattle.desk_model.specs.MeasureText.{IsMeasure}
use Rattle.desk_model.specs.declared.types.Mark.{Mark}
use Rattle.desk_model.specs.declared.types.MeasureName.{MeasureName}
use Rattle.pair_table.specs.Kept.{StandsFor}
use Rattle.pair_table.specs.Numbers.{HasCellEnds}
use Rattle.order_bundle.specs.Bundle.{opening_lines, run_line}
use Rattle.order_bundle.specs.Evidence.{name_at}
use Rattle.order_bundle.specs.Lengths.{text_length}
use Rattle.table_bundle.specs.Drafts.{drafts_on, pairs_in, IsNameOrder, IsRunPair}
use Rattle.table_bundle.specs.Lengths.{IsBundleLength, open_pairs, topic_lengths, IsCountOf}
use Rattle.table_bundle.specs.declared.claim_count.ClaimCount.{ClaimCount}
use Rattle.table_bundle.specs.declared.pairs.NamedPair.{NamedPair}
use Rattle.table_bundle.proofs.InOrder.{length-order, order_within}
use Rattle.table_bundle.proofs.Pairing.{few_named, of_runs}
use Rattle.table_bundle.proofs.Settled.{all_open, few_open}
use Rattle.table_bundle.proofs.Total.{bundle_length_is}
use Rattle.table_bundle.proofs.length.table_bundle_length.Goals as goal

pub run_names-requires : goal.run_names-requires
run_names-requires g c = subst (All (λ run. run < length c.args.desk.now.runs)) (sym c.deref.ensures.value) (order_within c.args.desk.now c.valid.ensures c.in_ok-order.order.items c.in_ok-order.ensures)

pub named_pairs-requires-clause-some : goal.named_pairs-requires-clause-some
named_pairs-requires-clause-some g c = omega (arith, ap length c.deref-2.ensures.value, length-order c.args.desk.now c.valid.ensures c.in_ok-order.order.items c.in_ok-order.ensures, c.requires.runs)

pub named_pairs-requires-clause-few : goal.named_pairs-requires-clause-few
named_pairs-requires-clause-few g c = omega (arith, ap length c.deref-2.ensures.value, length-order c.args.desk.now c.valid.ensures c.in_ok-order.order.items c.in_ok-order.ensures, c.valid.ensures.runs)

pub invariant_of-standing-clause-marked : goal.invariant_of-standing-clause-marked
invariant_of-standing-clause-marked g c = subst (AreMarksOf c.args.desk.now) (sym c.rows-rows.ensures) c.requires.marks

pub invariant_of-standing-clause-stands : goal.invariant_of-standing-clause-stands
invariant_of-standing-clause-stands g c =
    let table = c.args.table.now in
    subst (λ (ms : List (List Mark)). StandsFor (g.M.Measure.cell_of table.measure) (g.M.Measure.bounds_of table.measure) c.args.desk.now ms table) (sym c.rows-rows.ensures) c.requires.stands

pub invariant_of-all-clause-known : goal.invariant_of-all-clause-known
invariant_of-all-clause-known g c =
    let desk = c.args.desk.now in
    subst (All (IsRunPair (length desk.runs))) (sym (c.deref-3.ensures.value ∙ c.in_ok-pairs.ensures ∙ ap pairs_in c.deref-2.ensures.value)) (of_runs desk c.valid.ensures c.in_ok-order.order.items c.in_ok-order.ensures)

pub invariant_of-all-clause-few : goal.invariant_of-all-clause-few
invariant_of-all-clause-few g c =
    let pairs_are : c.deref-3.result.now ≡ pairs_in c.in_ok-order.order.items = c.deref-3.ensures.value ∙ c.in_ok-pairs.ensures ∙ ap pairs_in c.deref-2.ensures.value in
    omega (arith, ap length pairs_are, few_named c.args.desk.now c.valid.ensures c.in_ok-order.order.items c.in_ok-order.ensures)

pub invariant_of-open-clause-known : goal.invariant_of-open-clause-known
invariant_of-open-clause-known g c =
    let table = c.args.table.now in
    let cell = g.M.Measure.cell_of table.measure in
    let desk = c.args.desk.now in
    let order : List ℕ = c.in_ok-order.order.items in
    let topics = topics_under desk c.rows-rows.result.now in
    let pairs_are : c.deref-3.result.now ≡ pairs_in order = c.deref-3.ensures.value ∙ c.in_ok-pairs.ensures ∙ ap pairs_in c.deref-2.ensures.value in
    let open_are : c.deref-4.result.now ≡ open_pairs cell topics (pairs_in order) = c.deref-4.ensures.value ∙ c.in_ok-claims.ensures.undecided ∙ ap (open_pairs cell topics) pairs_are in
    let P : NamedPair → Type 0 = IsRunPair (length desk.runs) in
    subst (All P) (sym open_are) (All-from_recursion P (open_pairs cell topics (pairs_in order)) (all_open cell (g.M.Measure.measured table.measure) topics P (pairs_in order) (recursion_from_All P (pairs_in order) (of_runs desk c.valid.ensures order c.in_ok-order.ensures))))

pub invariant_of-open-clause-few : goal.invariant_of-open-clause-few
invariant_of-open-clause-few g c =
    let table = c.args.table.now in
    let cell = g.M.Measure.cell_of table.measure in
    let desk = c.args.desk.now in
    let order : List ℕ = c.in_ok-order.order.items in
    let topics = topics_under desk c.rows-rows.result.now in
    let pairs_are : c.deref-3.result.now ≡ pairs_in order = c.deref-3.ensures.value ∙ c.in_ok-pairs.ensures ∙ ap pairs_in c.deref-2.ensures.value in
    let open_are : c.deref-4.result.now ≡ open_pairs cell topics (pairs_in order) = c.deref-4.ensures.value ∙ c.in_ok-claims.ensures.undecided ∙ ap (open_pairs cell topics) pairs_are in
    omega (arith, ap length open_are, few_open cell (g.M.Measure.measured table.measure) topics (pairs_in order), few_named desk c.valid.ensures order c.in_ok-order.ensures)

-- the names of the runs in order, and how many they are
runs_few : (desk : Desk) (is_desk : IsDesk desk) (order : List ℕ) (ordered : IsNameOrder desk order) (runs : List (List ℕ)) → runs ≡ map (name_at desk.runs) order → length runs ≤ 256
runs_few desk is_desk order ordered runs is = omega (arith, ap length is, length-map order (name_at desk.runs), length-order desk is_desk order ordered, is_desk.runs)

pub names_length-requires-clause-few : goal.names_length-requires-clause-few
names_length-requires-clause-few g c =
    let desk = c.args.desk.now in
    let is : c.as_slice.result.now ≡ map (name_at desk.runs) c.in_ok-order.order.items = c.as_slice.ensures ∙ c.in_ok-runs.ensures ∙ ap (map (name_at desk.runs)) c.deref.ensures.value in
    omega (arith, runs_few desk c.valid.ensures c.in_ok-order.order.items c.in_ok-order.ensures c.as_slice.result.now is)

pub overflow_add-first : goal.overflow_add-first
overflow_add-first g c =
    let desk = c.args.desk.now in
    let is : c.as_slice.result.now ≡ map (name_at desk.runs) c.in_ok-order.order.items = c.as_slice.ensures ∙ c.in_ok-runs.ensures ∙ ap (map (name_at desk.runs)) c.deref.ensures.value in
    omega (arith, c.opening_length.ensures.few, c.names_length.ensures.few, runs_few desk c.valid.ensures c.in_ok-order.order.items c.in_ok-order.ensures c.as_slice.result.now is)

pub overflow_add-result : goal.overflow_add-result
overflow_add-result g c =
    let desk = c.args.desk.now in
    let is : c.as_slice.result.now ≡ map (name_at desk.runs) c.in_ok-order.order.items = c.as_slice.ensures ∙ c.in_ok-runs.ensures ∙ ap (map (name_at desk.runs)) c.deref.ensures.value in
    omega (arith, c.opening_length.ensures.few, c.names_length.ensures.few, c.counting_lines-counting.ensures.few, runs_few desk c.valid.ensures c.in_ok-order.order.items c.in_ok-order.ensures c.as_slice.result.now is)

pub overflow_add-result-2 : goal.overflow_add-result-2
overflow_add-result-2 g c =
    let desk = c.args.desk.now in
    let is : c.as_slice.result.now ≡ map (name_at desk.runs) c.in_ok-order.order.items = c.as_slice.ensures ∙ c.in_ok-runs.ensures ∙ ap (map (name_at desk.runs)) c.deref.ensures.value in
    omega (arith, c.opening_length.ensures.few, c.names_length.ensures.few, c.counting_lines-counting.ensures.few, c.in_ok-topics.ensures.few, runs_few desk c.valid.ensures c.in_ok-order.order.items c.in_ok-order.ensures c.as_slice.result.now is)

pub overflow_add-result-3 : goal.overflow_add-result-3
overflow_add-result-3 g c =
    let desk = c.args.desk.now in
    let is : c.as_slice.result.now ≡ map (name_at desk.runs) c.in_ok-order.order.items = c.as_slice.ensures ∙ c.in_ok-runs.ensures ∙ ap (map (name_at desk.runs)) c.deref.ensures.value in
    omega (arith, c.opening_length.ensures.few, c.names_length.ensures.few, c.counting_lines-counting.ensures.few, c.in_ok-topics.ensures.few, c.in_ok-claims.ensures.few.1, runs_few desk c.valid.ensures c.in_ok-order.order.items c.in_ok-order.ensures c.as_slice.result.now is)

pub returns-clause-few : goal.returns-clause-few
returns-clause-few g c =
    let desk = c.args.desk.now in
    let is : c.as_slice.result.now ≡ map (name_at desk.runs) c.in_ok-order.order.items = c.as_slice.ensures ∙ c.in_ok-runs.ensures ∙ ap (map (name_at desk.runs)) c.deref.ensures.value in
    omega (arith, c.opening_length.ensures.few, c.names_length.ensures.few, c.counting_lines-counting.ensures.few, c.in_ok-topics.ensures.few, c.in_ok-claims.ensures.few.1, runs_few desk c.valid.ensures c.in_ok-order.order.items c.in_ok-order.ensures c.as_slice.result.now is)

pub returns-clause-bytes : goal.returns-clause-bytes
returns-clause-bytes g c =
    let table = c.args.table.now in
    let name = g.M.Measure.measured table.measure in
    let cell = g.M.Measure.cell_of table.measure in
    let desk = c.args.desk.now in
    let marks = c.rows-rows.result.now in
    let order : List ℕ = c.in_ok-order.order.items in
    let topics = topics_under desk marks in
    let count : ClaimCount = c.in_ok-claims.claims in
    let named : c.name-name.result ≡ name = c.name-name.ensures.name ∙ ap g.M.Measure.measured c.measure.ensures in
    let valid : IsMeasure name = subst IsMeasure named c.name-name.ensures.built in
    let laws = g.met.M.Measure.laws table.measure valid in
    let pairs_are : c.deref-3.result.now ≡ pairs_in order = c.deref-3.ensures.value ∙ c.in_ok-pairs.ensures ∙ ap pairs_in c.deref-2.ensures.value in
    let open_are : c.deref-4.result.now ≡ open_pairs cell topics (pairs_in order) = c.deref-4.ensures.value ∙ c.in_ok-claims.ensures.undecided ∙ ap (open_pairs cell topics) pairs_are in
    let runs_are : c.as_slice.result.now ≡ map (name_at desk.runs) order = c.as_slice.ensures ∙ c.in_ok-runs.ensures ∙ ap (map (name_at desk.runs)) c.deref.ensures.value in
    let first : c.opening_length.result ≡ text_length (opening_lines name c.args.level) = c.opening_length.ensures.count ∙ ap (λ (m : MeasureName). text_length (opening_lines m c.args.level)) named in
    let names : c.names_length.result ≡ text_length (map run_line (map (name_at desk.runs) order)) = c.names_length.ensures.count ∙ ap (λ (rs : List (List ℕ)). text_length (map run_line rs)) runs_are in
    let many_runs : c.len.result ≡ length order = omega (arith, c.len.ensures, c.deref.ensures.len, ap length c.deref.ensures.value) in
    let many_topics : c.from-topic_count.result ≡ length desk.topics = omega (arith, c.from-topic_count.ensures, c.topic_count.ensures.count) in
    let counting : c.counting_lines-counting.result ≡ length (decimal (length order)) + length (decimal (length desk.topics)) + length (decimal count.claims) + 26 =
    c.counting_lines-counting.ensures.bytes ∙ ap₂ (λ (a b : ℕ). length (decimal a) + length (decimal b) + length (decimal count.claims) + 26) many_runs many_topics in
    let lists : c.in_ok-topics.topics ≡ sum (topic_lengths name desk marks (open_pairs cell topics (pairs_in order))) =
    c.in_ok-topics.ensures.bytes ∙ ap (λ (ps : List NamedPair). sum (topic_lengths name desk marks ps)) open_are in
    let counted : IsCountOf (drafts_on cell name topics (pairs_in order)) count = subst (λ (ps : List NamedPair). IsCountOf (drafts_on cell name topics ps) count) pairs_are c.in_ok-claims.ensures.count in
    subst (λ (ms : List (List Mark)). IsBundleLength (HasCellEnds cell) name desk ms c.args.level (c.opening_length.result + c.names_length.result + c.counting_lines-counting.result + c.in_ok-topics.topics + count.bytes)) c.rows-rows.ensures
    (bundle_length_is name cell (g.M.Measure.bounds_of table.measure) valid laws desk marks c.valid.ensures (subst (AreMarksOf c.args.desk.now) (sym c.rows-rows.ensures) c.requires.marks) c.args.level c.requires.level order c.in_ok-order.ensures c.requires.runs
    c.opening_length.result c.names_length.result c.counting_lines-counting.result c.in_ok-topics.topics count first names counting lists counted)
