use Rattle.std.proofs.Common.{◌≡◌, ℕ, ◌+◌, ◌^◌, List, length, ap, ◌∙◌, arith}
use Rattle.measure_laws.specs.AverageEnds.{average_truth}
use Rattle.measure_core.specs.Lists.{added_documents, times}
use Rattle.measure_core.specs.Pairs.{ranking_on}
use Rattle.measure_core.proofs.PairListing.{sizes_are}
use Rattle.measure_core.proofs.Pushing.{added_same}
use Rattle.measure_core.proofs.Tallying.{times-append}
use Rattle.average_precision.specs.Least.{case_truth}
use Rattle.average_precision.proofs.listed.list_pair.Goals as goal

pub add_case-requires-2-clause-room : goal.add_case-requires-2-clause-room
add_case-requires-2-clause-room c = λ run lt. let few = c.add_case.ensures.few (2 ^ 62) c.requires.few run lt in (omega (arith, few.0), omega (arith, few.1))

pub returns-clause-sizes : goal.returns-clause-sizes
returns-clause-sizes c =
    let marks = c.args.runs.now.kept.on.marks.now in
    let t = c.args.runs.now.kept.on.rankings.now in
    let a = ranking_on t c.args.pair.first in
    let b = ranking_on t c.args.pair.second in
    let both = c.leasts-both in
    let least : added_documents marks (case_truth marks a b both.result.least.kind) ≡ added_documents marks (average_truth marks a b) = added_same marks (case_truth marks a b both.result.least.kind) (average_truth marks a b) (λ doc lt. both.ensures.least.case_is doc) in
    let most : added_documents marks (case_truth marks b a both.result.swapped.kind) ≡ added_documents marks (average_truth marks b a) = added_same marks (case_truth marks b a both.result.swapped.kind) (average_truth marks b a) (λ doc lt. both.ensures.swapped.case_is doc) in
    sizes_are (record { least = c.size_of.result; most = c.size_of-2.result }) _ _ (c.size_of.ensures ∙ ap length least) (c.size_of-2.ensures ∙ ap length most)

pub returns-clause-uses : goal.returns-clause-uses
returns-clause-uses c = λ doc.
    let marks = c.args.runs.now.kept.on.marks.now in
    let t = c.args.runs.now.kept.on.rankings.now in
    let a = ranking_on t c.args.pair.first in
    let b = ranking_on t c.args.pair.second in
    let both = c.leasts-both in
    let least : added_documents marks (case_truth marks a b both.result.least.kind) ≡ added_documents marks (average_truth marks a b) = added_same marks (case_truth marks a b both.result.least.kind) (average_truth marks a b) (λ d lt. both.ensures.least.case_is d) in
    let most : added_documents marks (case_truth marks b a both.result.swapped.kind) ≡ added_documents marks (average_truth marks b a) = added_same marks (case_truth marks b a both.result.swapped.kind) (average_truth marks b a) (λ d lt. both.ensures.swapped.case_is d) in
    omega (
      arith,
      c.add_case.ensures.uses marks t doc,
      c.add_case-2.ensures.uses marks t doc,
      ap (λ (l : List ℕ). times l doc) least,
      ap (λ (l : List ℕ). times l doc) most,
      times-append (added_documents marks (average_truth marks a b)) (added_documents marks (average_truth marks b a)) doc,
    )

pub returns-clause-few : goal.returns-clause-few
returns-clause-few c = λ most few run lt. let more = c.add_case-2.ensures.few (most + 1) (c.add_case.ensures.few most few) run lt in (omega (arith, more.0), omega (arith, more.1))
