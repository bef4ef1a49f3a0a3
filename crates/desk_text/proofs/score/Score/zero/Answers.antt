use Rattle.std.proofs.Common.{ap, pos}
use Rattle.desk_text.specs.Key.{first_place}
use Rattle.desk_text.specs.KeyLaws.{first_place_some, zero_size}
use Rattle.desk_text.proofs.score.Score.zero.Goals as goal

pub invariant_of-result : goal.invariant_of-result
invariant_of-result c = (zero_size first_place first_place_some).1

pub returns : goal.returns
returns c = ap pos (zero_size first_place first_place_some).0
