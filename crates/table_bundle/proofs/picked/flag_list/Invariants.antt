use Rattle.std.proofs.Common.{◌≡◌, ℕ, ◌<◌, false, take, length, get_or}
use Rattle.std.specs.Prelude.{◌||◌}
use Rattle.desk_model.specs.Ranking.{is_in}
use Rattle.table_bundle.proofs.picked.flag_list.Given as goal

abbrev pub invariant-loop-doc : goal.invariant-loop-doc
invariant-loop-doc l = record {
  count : length l.flags ≡ length l.initial.flags;
  flags : (d : ℕ) → d < length l.initial.flags → get_or l.flags d false ≡ (get_or l.initial.flags d false || is_in (take l.doc-index l.list) d);
}
