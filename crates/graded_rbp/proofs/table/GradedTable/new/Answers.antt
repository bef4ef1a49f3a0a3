use Rattle.std.proofs.Common.{◌≡◌, ◌≤◌, ℕ, ◌+◌, ◌*◌, List, [], All, length, pos, ap, sym, subst, ◌∙◌, arith}
use Rattle.std.proofs.lemmas.List.{with_items_is}
use Rattle.desk_model.specs.Desk.{pair_count}
use Rattle.desk_model.specs.MeasureText.{IsMeasure, IsPersistence}
use Rattle.desk_model.specs.Pairs.{pairs_of}
use Rattle.desk_model.specs.Verdict.{totals_of}
use Rattle.desk_model.specs.declared.types.Totals.{Totals}
use Rattle.topic_counts.specs.Ends.{IsShort}
use Rattle.topic_counts.specs.declared.span.Span.{Span}
use Rattle.measure_core.proofs.RunPairs.{length-run_numbers}
use Rattle.pair_table.specs.Kept.{AreModestTotals, each_with, with_span}
use Rattle.pair_table.specs.Sums.{run_numbers}
use Rattle.pair_table.proofs.Keeping.{constant}
use Rattle.pair_table.proofs.PairNumbers.{length-pairs}
use Rattle.graded_rbp.specs.Grades.{graded_topics}
use Rattle.graded_rbp.specs.Kept.{with_totals, all_graded_totals, all_graded_bounds}
use Rattle.graded_rbp.proofs.Adding.{up_to, totals_more, bounds_more}
use Rattle.graded_rbp.proofs.Tables.{biased_by, length-all_totals, length-all_bounds, all_totals_modest, all_bounds_short}
use Rattle.graded_rbp.proofs.table.GradedTable.new.Goals as goal

pub loop-done-init : goal.loop-done-init
loop-done-init g c =
    let n = length c.args.desk.now.runs in
    let rooms = c.in_ok-totals.ensures in
    let each_pair : length c.in_ok-totals.totals.items ≡ length (pairs_of (run_numbers n)) = rooms.totals.0 ∙ ap pair_count c.run_count-runs.ensures.count ∙ sym (length-pairs n) in
    let each_run : length c.in_ok-totals.bounds.items ≡ length (run_numbers n) = rooms.bounds.0 ∙ c.run_count-runs.ensures.count ∙ sym (length-run_numbers n) in
    record {
      totals = λ m e. constant (totals_of []) (pairs_of (run_numbers n)) c.in_ok-totals.totals.items each_pair rooms.totals.1;
      bounds = λ m e. constant (record { lo = pos 0; hi = pos 0 }) (run_numbers n) c.in_ok-totals.bounds.items each_run rooms.bounds.1;
      steps = omega arith;
    }

pub add_totals-requires-clause-count : goal.add_totals-requires-clause-count
add_totals-requires-clause-count g c =
    let b = biased_by c.args.measure c.requires.biased in
    let desk = c.args.desk.now in
    ap length (c.deref_mut.ensures.value ∙ c.loop-done.invariant.totals b.0 b.1) ∙ length-all_totals (up_to b.0 c.loop-done.done) desk
    ∙ sym (c.all_totals.ensures.count ∙ ap (λ n. length (pairs_of (run_numbers n))) c.in_ok-sums.ensures.runs)

pub add_totals-requires-clause-near : goal.add_totals-requires-clause-near
add_totals-requires-clause-near g c =
    let b = biased_by c.args.measure c.requires.biased in
    subst (All AreModestTotals) (sym (c.deref_mut.ensures.value ∙ c.loop-done.invariant.totals b.0 b.1))
    (all_totals_modest (up_to b.0 c.loop-done.done) (subst IsMeasure b.1 c.requires.measure) (omega (arith, c.loop-done-test.true, c.requires.few)) c.args.desk.now c.run_count-runs.ensures.desk)

pub add_bounds-requires-clause-near : goal.add_bounds-requires-clause-near
add_bounds-requires-clause-near g c =
    let b = biased_by c.args.measure c.requires.biased in
    subst (All IsShort) (sym (c.deref_mut-in-loop-done.ensures.value ∙ c.loop-done.invariant.bounds b.0 b.1))
    (all_bounds_short (up_to b.0 c.loop-done.done) (subst IsMeasure b.1 c.requires.measure) (omega (arith, c.loop-done-test.true, c.requires.few)) c.args.desk.now c.run_count-runs.ensures.desk)

steps_more : (start cells done : ℕ) → start + cells * done + cells ≡ start + cells * (done + 1)
steps_more start cells done = omega arith

pub loop-done-preserved : goal.loop-done-preserved
loop-done-preserved g c =
    let before = c.loop-done.invariant in
    let n = length c.args.desk.now.runs in
    let topics = graded_topics c.args.desk.now in
    let done = c.loop-done.done in
    let sums = c.in_ok-sums.sums in
    let totals : List Totals = c.add_totals.new.totals in
    let size : length totals ≡ length c.loop-done.totals.items = c.add_totals.auto.totals ∙ ap length c.deref_mut.ensures.value in
    let totals_is = with_items_is c.loop-done.totals totals (omega (arith, size, c.loop-done.totals.ok.0)) in
    let totals_made : totals ≡ each_with with_totals c.loop-done.totals.items sums.totals =
    c.add_totals.ensures ∙ ap (λ (xs : List Totals). each_with with_totals xs c.all_totals.result.now) c.deref_mut.ensures.value ∙ ap (λ (ys : List Totals). each_with with_totals c.loop-done.totals.items ys) c.all_totals.ensures.totals in
    let bounds : List Span = c.add_bounds.new.bounds in
    let bounds_size : length bounds ≡ length c.loop-done.bounds.items = c.add_bounds.auto.bounds ∙ ap length c.deref_mut-in-loop-done.ensures.value in
    let bounds_is = with_items_is c.loop-done.bounds bounds (omega (arith, bounds_size, c.loop-done.bounds.ok.0)) in
    let bounds_made : bounds ≡ each_with with_span c.loop-done.bounds.items sums.bounds =
    c.add_bounds.ensures ∙ ap (λ (xs : List Span). each_with with_span xs c.all_bounds.result.now) c.deref_mut-in-loop-done.ensures.value ∙ ap (λ (ys : List Span). each_with with_span c.loop-done.bounds.items ys) c.all_bounds.ensures.bounds in
    let cells = pair_count n * length c.args.desk.now.topics in
    record {
      totals = λ m e. totals_is ∙ totals_made ∙ ap (λ (xs : List Totals). each_with with_totals xs sums.totals) (before.totals m e)
          ∙ ap (λ (ys : List Totals). each_with with_totals (all_graded_totals (up_to m done) c.args.desk.now) ys) (c.in_ok-sums.ensures.totals m e) ∙ totals_more m done topics (pairs_of (run_numbers n));
      bounds = λ m e. bounds_is ∙ bounds_made ∙ ap (λ (xs : List Span). each_with with_span xs sums.bounds) (before.bounds m e)
          ∙ ap (λ (ys : List Span). each_with with_span (all_graded_bounds (up_to m done) c.args.desk.now) ys) (c.in_ok-sums.ensures.bounds m e) ∙ bounds_more m done topics (run_numbers n);
      steps = c.in_ok-sums.ensures.steps ∙ ap (λ s. s + cells) before.steps ∙ steps_more c.args.steps.now cells done;
    }

pub invariant_of-result : goal.invariant_of-result
invariant_of-result g c =
    let b = biased_by c.args.measure c.requires.biased in
    let desk = c.args.desk.now in
    let count = c.run_count-runs.ensures.count in
    let valid = c.run_count-runs.ensures.desk in
    let m = up_to b.0 c.loop-done.done in
    let persistence : IsPersistence b.0.top b.0.bottom = subst IsMeasure b.1 c.requires.measure in
    let few : c.loop-done.done ≤ 10 = omega (arith, c.loop-done.auto.done-end, c.requires.few) in
    let totals = c.loop-done.invariant.totals b.0 b.1 in
    let bounds = c.loop-done.invariant.bounds b.0 b.1 in
    record {
      few = omega (arith, count, valid.runs);
      each_pair = ap length totals ∙ length-all_totals m desk ∙ ap (λ n. length (pairs_of (run_numbers n))) (sym count);
      each_run = ap length bounds ∙ length-all_bounds m desk ∙ sym count;
      near_totals = subst (All AreModestTotals) (sym totals) (all_totals_modest m persistence few desk valid);
      near_bounds = subst (All IsShort) (sym bounds) (all_bounds_short m persistence few desk valid);
    }

pub returns-clause-table : goal.returns-clause-table
returns-clause-table g c m e greatest =
    let all : c.loop-done.done ≡ m.greatest = omega (arith, c.loop-done.auto.done-end, c.loop-done-test.false, greatest) in
    record {
      runs = c.run_count-runs.ensures.count;
      totals = c.loop-done.invariant.totals m e ∙ ap (λ d. all_graded_totals (up_to m d) c.args.desk.now) all;
      bounds = c.loop-done.invariant.bounds m e ∙ ap (λ d. all_graded_bounds (up_to m d) c.args.desk.now) all;
    }
