use Rattle.std.proofs.Common.{[]}
use Rattle.sheet_merge.proofs.Maps.{no_map}
use Rattle.desk_files.proofs.Said.{merge_is_of_sheets, refusal_is_of_sheets}
use Rattle.desk_files.proofs.laws.merge_of_files_is_of_sheets.Goals as goal

pub returns-clause-merge : goal.returns-clause-merge
returns-clause-merge c = λ files paths rows is. merge_is_of_sheets files [] paths rows no_map is

pub returns-clause-refusal : goal.returns-clause-refusal
returns-clause-refusal c = λ files paths path is. refusal_is_of_sheets files [] paths path no_map is
