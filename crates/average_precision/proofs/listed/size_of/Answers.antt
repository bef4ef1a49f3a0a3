use Rattle.std.proofs.Common.{length, ap, sym, ◌∙◌, arith}
use Rattle.measure_core.specs.Lists.{added_documents}
use Rattle.measure_core.specs.Pairs.{ranking_on}
use Rattle.average_precision.specs.Least.{case_truth}
use Rattle.average_precision.specs.declared.numbers.Case.{Case}
use Rattle.average_precision.proofs.Using.{high_size, low_size, none_added}
use Rattle.average_precision.proofs.listed.size_of.Goals as goal

pub overflow_sub-result : goal.overflow_sub-result
overflow_sub-result c = omega (arith, c.args.kept.now.on.counts.relevant, c.kept.ensures.in_low, low_size c.args.kept.now.on.marks.now (ranking_on c.args.kept.now.on.rankings.now c.args.pair.first))

pub overflow_sub-result-in-OfHigh : goal.overflow_sub-result-in-OfHigh
overflow_sub-result-in-OfHigh c = omega (arith, c.args.kept.now.on.counts.relevant, c.kept-in-OfHigh.ensures.in_high, high_size c.args.kept.now.on.marks.now (ranking_on c.args.kept.now.on.rankings.now c.args.pair.second))

pub returns-in-OfNone : goal.returns-in-OfNone
returns-in-OfNone c =
    let marks = c.args.kept.now.on.marks.now in
    let t = c.args.kept.now.on.rankings.now in
    sym (none_added marks) ∙ ap (λ (x : Case). length (added_documents marks (case_truth marks (ranking_on t c.args.pair.first) (ranking_on t c.args.pair.second) x))) (sym c.in-OfNone.is)

pub returns-in-OfLow : goal.returns-in-OfLow
returns-in-OfLow c =
    let marks = c.args.kept.now.on.marks.now in
    let t = c.args.kept.now.on.rankings.now in
    omega (arith, c.args.kept.now.on.counts.relevant, c.kept.ensures.in_low, low_size marks (ranking_on t c.args.pair.first)) ∙ ap (λ (x : Case). length (added_documents marks (case_truth marks (ranking_on t c.args.pair.first) (ranking_on t c.args.pair.second) x))) (sym c.in-OfLow.is)

pub returns-in-OfHigh : goal.returns-in-OfHigh
returns-in-OfHigh c =
    let marks = c.args.kept.now.on.marks.now in
    let t = c.args.kept.now.on.rankings.now in
    omega (arith, c.args.kept.now.on.counts.relevant, c.kept-in-OfHigh.ensures.in_high, high_size marks (ranking_on t c.args.pair.second)) ∙ ap (λ (x : Case). length (added_documents marks (case_truth marks (ranking_on t c.args.pair.first) (ranking_on t c.args.pair.second) x))) (sym c.in-OfHigh.is)
