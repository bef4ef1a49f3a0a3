use Rattle.std.proofs.Common.{ℕ, List, length, sym, subst, ◌∙◌}
use Rattle.std.proofs.lemmas.Result.{IfOk-weaker}
use Rattle.std.specs.Prelude.{IfOk}
use Rattle.desk_model.specs.Completion.{with_picked}
use Rattle.desk_model.specs.Ranking.{rank}
use Rattle.desk_model.specs.declared.types.Mark.{Mark}
use Rattle.measure_laws.specs.AverageEnds.{average_truth}
use Rattle.measure_core.specs.Laws.{AreValues}
use Rattle.average_precision.specs.Least.{IsLeast}
use Rattle.precision_candidates.specs.Cuts.{AreCuts}
use Rattle.average_precision.specs.RankCases.{is_picked_in}
use Rattle.average_precision.proofs.Ends as ends
use Rattle.average_precision.proofs.average_precision.AveragePrecisionMeasure.least_case.Goals as goal

pub returns : goal.returns
returns c =
    let marks = c.args.marks.now in
    let a = c.args.a.now in
    let b = c.args.b.now in
    let one = c.ranked_run-first in
    let two = c.ranked_run-second in
    let x = one.result.run.on in
    let y = two.result.run.on in
    let case = c.leasts_of-both.result.least.kind in
    let least = c.leasts_of-both.result.least in
    let first : AreCuts marks a one.result.cuts = subst (λ (ms : List Mark). AreCuts ms a one.result.cuts) one.ensures.marks (subst (λ (ds : List ℕ). AreCuts x.marks.now ds one.result.cuts) one.ensures.docs one.result.are) in
    let second : AreCuts marks b two.result.cuts = subst (λ (ms : List Mark). AreCuts ms b two.result.cuts) two.ensures.marks (subst (λ (ds : List ℕ). AreCuts y.marks.now ds two.result.cuts) two.ensures.docs two.result.are) in
    let known : IsLeast marks a b least =
    subst (λ (ms : List Mark). IsLeast ms a b least) one.ensures.marks
    (subst (λ (ds : List ℕ). IsLeast x.marks.now ds b least) one.ensures.docs (subst (λ (ds : List ℕ). IsLeast x.marks.now x.docs.now ds least) two.ensures.docs c.leasts_of-both.ensures.least)) in
    let listed =
    subst (λ (ds : List ℕ). IfOk c.case_values.result (λ values. AreValues (with_picked marks (λ d. is_picked_in case one.result.cuts (rank ds d) two.result.cuts (rank b d))) (length marks) values.items)) (sym x.listed ∙ one.ensures.docs)
    (subst (λ (ds : List ℕ). IfOk c.case_values.result (λ values. AreValues (with_picked marks (λ d. is_picked_in case one.result.cuts (rank x.run.now d) two.result.cuts (rank ds d))) (length marks) values.items)) (sym y.listed ∙ two.ensures.docs) c.case_values.ensures) in
    IfOk-weaker c.case_values.result (λ values. AreValues (with_picked marks (λ d. is_picked_in case one.result.cuts (rank a d) two.result.cuts (rank b d))) (length marks) values.items) (λ values. AreValues (average_truth marks a b) (length marks) values.items)
    (λ values h. ends.case_values marks a b one.result.cuts two.result.cuts least values.items c.requires.first.distinct first second known h) listed
