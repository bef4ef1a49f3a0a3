-- The documents that the least case of recall makes relevant beside the second run's own ones.
use Rattle.std.specs.Prelude.{ℕ, nat_lt, if◌then◌else◌, List, [], length}
use Rattle.desk_model.specs.Completion.{with_picked}
use Rattle.desk_model.specs.Score.{true_among}
use Rattle.desk_model.specs.declared.types.Mark.{Mark}
use Rattle.measure_laws.specs.Prefixes.{only_second}
use Rattle.measure_core.specs.Lists.{first_neutral}

-- those that both or neither run have among their first k, where the first run leads
abbrev pub led_documents : ℕ → List Mark → List ℕ → List ℕ → List ℕ
led_documents k marks a b =
    let truth = with_picked marks (only_second k a b) in if nat_lt (true_among truth k b) (true_among truth k a) then first_neutral k (length marks) marks a b else []
