use Rattle.std.proofs.Common.{◌≡◌, ◌<◌, ℕ, [], false, get_or}
use Rattle.std.specs.Str.{bytes_eq}
use Rattle.topics_pool.specs.Rows.{run_names}
use Rattle.topics_pool.proofs.runs.has_earlier_name.Given as goal

abbrev pub invariant-loop-earlier : goal.invariant-loop-earlier
invariant-loop-earlier l = (k : ℕ) → k < l.earlier → bytes_eq (get_or (run_names l.runs) l.r []) (get_or (run_names l.runs) k []) ≡ false
