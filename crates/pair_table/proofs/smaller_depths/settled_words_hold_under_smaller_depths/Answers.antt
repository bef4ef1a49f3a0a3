use Rattle.std.proofs.Common.{◌≡◌}
use Rattle.desk_model.specs.Verdict.{verdict}
use Rattle.desk_model.specs.declared.types.Totals.{Totals}
use Rattle.desk_model.specs.declared.types.Verdict.TheVariants.{Above, Below, Equal}
use Rattle.pair_table.proofs.Refining.{above_stays, below_stays, equal_stays}
use Rattle.pair_table.proofs.Narrowing.{pairs_within}
use Rattle.pair_table.proofs.smaller_depths.settled_words_hold_under_smaller_depths.Goals as goal

pub returns-clause-above : goal.returns-clause-above
returns-clause-above c = pairs_within (λ (deep under : Totals). verdict deep ≡ Above → verdict under ≡ Above) above_stays

pub returns-clause-below : goal.returns-clause-below
returns-clause-below c = pairs_within (λ (deep under : Totals). verdict deep ≡ Below → verdict under ≡ Below) below_stays

pub returns-clause-equal : goal.returns-clause-equal
returns-clause-equal c = pairs_within (λ (deep under : Totals). verdict deep ≡ Equal → verdict under ≡ Equal) equal_stays
