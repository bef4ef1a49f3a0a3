use Rattle.std.proofs.Common.{arith}
use Rattle.precision_candidates.proofs.RunFacts.{documents_are, left_within, taken_within}
use Rattle.precision_candidates.proofs.Visits.{possible_fits, relevant_fits}
use Rattle.precision_candidates.proofs.runs.ChosenRun.documents.Goals as goal

pub overflow_add-result : goal.overflow_add-result
overflow_add-result c =
    let run = c.args.self.now in
    let on = run.on in
    omega (arith, relevant_fits on.marks.now on.docs.now on.all run.chosen.high.count on.ranking on.counts (taken_within on.marks.now on.docs.now run.chosen.high run.are.high))

pub overflow_sub-result : goal.overflow_sub-result
overflow_sub-result c =
    let run = c.args.self.now in
    let on = run.on in
    possible_fits on.marks.now on.docs.now on.all run.chosen.low.count on.ranking on.counts (left_within on.marks.now on.docs.now run.chosen.low run.are.low)

pub returns : goal.returns
returns c = let run = c.args.self.now in documents_are run.on.marks.now run.on.docs.now run.on.all run.chosen run.on.ranking run.on.counts run.are
