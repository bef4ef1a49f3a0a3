use Rattle.sheet_merge.proofs.Raising.{map_of_is_map, merged_is_merge, merge_is_map}
use Rattle.sheet_merge.proofs.laws.maps_are_computed.Goals as goal

pub returns-clause-map : goal.returns-clause-map
returns-clause-map c = map_of_is_map

pub returns-clause-merge : goal.returns-clause-merge
returns-clause-merge c = merged_is_merge

pub returns-clause-together : goal.returns-clause-together
returns-clause-together c = merge_is_map
