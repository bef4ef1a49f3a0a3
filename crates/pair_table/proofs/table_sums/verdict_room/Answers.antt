use Rattle.std.proofs.Common.{◌≡◌, ◌∙◌, ap, sym, length, arith}
use Rattle.desk_model.specs.Desk.{pair_count}
use Rattle.desk_model.specs.Pairs.{pairs_of}
use Rattle.pair_table.specs.Sums.{run_numbers}
use Rattle.pair_table.proofs.PairNumbers.{length-pairs}
use Rattle.pair_table.proofs.table_sums.verdict_room.Goals as goal

pub returns : goal.returns
returns c =
    let runs = c.run_count-runs.result in
    let room = c.in_ok-room.room in
    let pairs : length room.items ≡ pair_count runs = omega (arith, c.in_ok-room.ensures.len, room.ok.0) in
    pairs ∙ sym (length-pairs runs) ∙ ap (λ n. length (pairs_of (run_numbers n))) c.run_count-runs.ensures.count
