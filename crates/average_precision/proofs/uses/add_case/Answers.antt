use Rattle.std.proofs.Common.{◌≡◌, ℕ, ◌+◌, List, get_or, ap, sym, ◌∙◌, arith}
use Rattle.desk_model.specs.declared.types.Mark.{Mark}
use Rattle.measure_core.specs.Lists.{added_documents, times}
use Rattle.measure_core.specs.Pairs.{DeskTopic, ranking_on}
use Rattle.average_precision.specs.Least.{case_truth}
use Rattle.average_precision.specs.Uses.{all_shares, no_uses}
use Rattle.average_precision.specs.declared.numbers.Case.{Case}
use Rattle.average_precision.proofs.Using.{high_more, low_more, no_times, shares_set}
use Rattle.average_precision.proofs.uses.add_case.Goals as goal

-- what a case adds
case_times : (marks : List Mark) (t : DeskTopic) (a b doc : ℕ) (case other : Case) (before : ℕ) → case ≡ other → before + times (added_documents marks (case_truth marks (ranking_on t a) (ranking_on t b) other)) doc ≡ before + times (added_documents marks (case_truth marks (ranking_on t a) (ranking_on t b) case)) doc
case_times marks t a b doc case other before is = ap (λ (x : Case). before + times (added_documents marks (case_truth marks (ranking_on t a) (ranking_on t b) x)) doc) (sym is)

pub returns-in-OfNone-clause-uses : goal.returns-in-OfNone-clause-uses
returns-in-OfNone-clause-uses c = λ marks t doc. omega (arith, no_times marks doc, case_times marks t c.args.pair.first c.args.pair.second doc c.args.case _ (all_shares marks t c.args.uses.now doc) c.in-OfNone.is)

pub returns-in-OfLow-clause-uses : goal.returns-in-OfLow-clause-uses
returns-in-OfLow-clause-uses c = λ marks t doc.
    shares_set marks t c.args.uses.now c.args.pair.first _ _ doc c.requires.pair.first (low_more marks (ranking_on t c.args.pair.first) (get_or c.args.uses.now c.args.pair.first no_uses) doc)
    ∙ case_times marks t c.args.pair.first c.args.pair.second doc c.args.case _ (all_shares marks t c.args.uses.now doc) c.in-OfLow.is

pub returns-in-OfHigh-clause-uses : goal.returns-in-OfHigh-clause-uses
returns-in-OfHigh-clause-uses c = λ marks t doc.
    shares_set marks t c.args.uses.now c.args.pair.second _ _ doc c.requires.pair.second (high_more marks (ranking_on t c.args.pair.second) (get_or c.args.uses.now c.args.pair.second no_uses) doc)
    ∙ case_times marks t c.args.pair.first c.args.pair.second doc c.args.case _ (all_shares marks t c.args.uses.now doc) c.in-OfHigh.is
