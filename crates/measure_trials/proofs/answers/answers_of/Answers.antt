use Rattle.std.proofs.Common.{◌≡◌, ◌+◌, ◌<◌, ◌≤◌, ◌++◌, ℕ, List, nat_eq, length, get_or, ap, ◌∙◌, arith}
use Rattle.std.specs.Prelude.{replicate}
use Rattle.std.proofs.lemmas.List.{get_or-replicate, length-replicate}
use Rattle.std.proofs.lemmas.List.Sums.{count_by-le-length}
use Rattle.measure_laws.specs.Cases.{least_truth}
use Rattle.measure_core.specs.Lists.{least_documents}
use Rattle.measure_core.proofs.Tallying.{added_few, times-append}
use Rattle.any_measure.specs.Any.{measured_by}
use Rattle.measure_trials.proofs.answers.answers_of.Goals as goal

pub count_lists-requires-clause-room : goal.count_lists-requires-clause-room
count_lists-requires-clause-room c = λ d lt.
    let marks = c.args.marks.now in
    let a = c.args.first.now in
    let b = c.args.second.now in
    let measure = measured_by c.args.measure.now in
    let low = least_documents measure marks a b in
    let high = least_documents measure marks b a in
    let zeros : c.deref_mut.result.now ≡ replicate (length marks) 0 = c.deref_mut.ensures.value ∙ c.in_ok-counts.ensures.items_if_clones_equal (λ y e. e) in
    let below : d < length marks = omega (arith, lt, ap (λ (l : List ℕ). length l) zeros, length-replicate {A = ℕ} (length marks) 0) in
    omega (
      arith,
      ap (λ (l : List ℕ). get_or l d 0) zeros,
      get_or-replicate {A = ℕ} (length marks) d 0 0 below,
      times-append low high d,
      count_by-le-length (λ each. nat_eq each d) low,
      count_by-le-length (λ each. nat_eq each d) high,
      added_few marks (least_truth measure marks a b),
      added_few marks (least_truth measure marks b a),
      c.requires.universe,
    )
