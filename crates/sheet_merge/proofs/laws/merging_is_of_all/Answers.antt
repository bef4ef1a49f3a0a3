use Rattle.sheet_merge.proofs.Merging.{merges_all, refused_all}
use Rattle.sheet_merge.proofs.laws.merging_is_of_all.Goals as goal

pub returns-clause-merge : goal.returns-clause-merge
returns-clause-merge c = merges_all

pub returns-clause-refusal : goal.returns-clause-refusal
returns-clause-refusal c = refused_all
